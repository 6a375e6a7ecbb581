-- Where the typing of an expression stops: at a place in it.
use Rattle.std.proofs.Common.{ℕ, Bool, true, false, List, [], ◌∷◌, map}
use Rattle.std.specs.Prelude.{All, Option, Some, None, Ok, if◌then◌else◌, codes}
use Rattle.std.specs.List.{AllByRecursion}
use Rattle.std.proofs.lemmas.List.Elements.{recursion_from_All, All-weaker}
use Rattle.mz_base.specs.declared.fault.Span.{Span}
use Rattle.mz_base.specs.declared.kind.Kind.TheVariants as kind
use Rattle.mz_core.specs.Types.{PlainType}
use Rattle.mz_core.specs.Tree as typed
use Rattle.mz_core.specs.Tree.{Tree, type_of, place_of}
use Rattle.mz_tree.specs.declared.expr.UnOp.{UnOp}
use Rattle.mz_tree.specs.declared.expr.PlacedOp.{PlacedOp}
use Rattle.mz_tree.specs.Tree as source
use Rattle.mz_tree.specs.Tree.{Name}
use Rattle.mz_tree.specs.Kinds.{IsSpot, OfTree, OfShape, OfMaybe, OfTrees, OfLinks, OfRows, OfBranches, OfPart, OfParts, OfGenerator, OfGens, OfLet, OfLets, OfDeclaration, OfWritten, OfBased, OfDims, OfBases}
use Rattle.mz_check_meaning.specs.Tests.{refuse, loop, each}
use Rattle.mz_check_meaning.specs.Models.{Model, Env}
use Rattle.mz_check_meaning.specs.Coerced.{fitted}
use Rattle.mz_check_meaning.specs.Chains.{Chained, prefix_name}
use Rattle.mz_check_meaning.specs.Comprehensions.{running_type, bind_names}
use Rattle.mz_check_meaning.specs.WrittenTypes.{Based, of_bool, of_int, of_set}
use Rattle.mz_check_meaning.specs.Lets.{new_name, decl_of}
use Rattle.mz_check_meaning.specs.Forms.{Check, TypeCheck, part, parts, maybe_part, unary_of, operand_of, next_piece, left_next, operand, grouped_of, group_right, chain_of, call_of, array_of, row_parts, rows_of, set_of, access_of, Branched, branch_next, choice_of, GenCheck, Generated, gen_next, generators, comp_of, gen_call_of, based_part, written_of, LetCheck, declares_by, constrains_by, Declared, local_value, let_next, let_of, PieceCheck, plain_by, shown_by, piece, texted, text_of}
use Rattle.mz_check_meaning.specs.Typing.{check, check_form, check_maybe, checks, check_links, check_rows, check_branches, check_piece, check_pieces, check_gen, check_gens, check_let, check_lets, check_declaration, check_written, check_based, check_dims, check_bases}
use Rattle.mz_analysis.proofs.Stopping.{OfSome, one_more_all, Stops, Any, next, looped, each_stops, there_stops}
use Rattle.mz_analysis.proofs.Leaves.{At, fitted_stops, IsKnown, applied_stops, row_stops, named_stops, bare_stops, OperandAt, left_stops, appended_stops, listed_stops, tabled_stops, set_stops, accessed_stops, decided_stops, GenAt, running_stops, names_stop, comprehended_stops, BasedAt, declared_stops, ItemAt, new_stops, let_stops}

module _ (P : Span → Type 0) where
  -- parts that stop at such places
  abbrev pub Good : Check → Type 0
  Good go = (env : Env) → Stops P (At P) (go env)

  abbrev pub GoodType : TypeCheck → Type 0
  GoodType go = (env : Env) → Stops P (Any P) (go env)

  abbrev GoodLink : PlacedOp × Check → Type 0
  GoodLink o = P o.0.start × Good o.1

  abbrev GoodBranch : Check × Check → Type 0
  GoodBranch b = Good b.0 × Good b.1

  abbrev GoodBased : Based Check → Type 0
  GoodBased of_bool = Unit {0}
  GoodBased of_int = Unit {0}
  GoodBased (of_set go) = Good go

  record GoodGen (g : GenCheck) : Type 0 where
    names : AllByRecursion (λ n. P n.1) g.names
    set : Good g.set
    cond : OfSome Good g.cond

  abbrev GoodLet : LetCheck → Type 0
  GoodLet (declares_by go n at value) = GoodType go × P at × OfSome Good value
  GoodLet (constrains_by go) = Good go

  abbrev GoodPiece : PieceCheck → Type 0
  GoodPiece (plain_by n) = Unit {0}
  GoodPiece (shown_by go) = Good go

  -- ---- each form, of such parts

  parts_stop : (gos : List Check) (env : Env) → AllByRecursion Good gos → Stops P (AllByRecursion (At P)) (parts gos env)
  parts_stop gos env h = each_stops P Good (At P) (part env) (λ go k. k env) gos h

  maybe_stops : (go : Option Check) (env : Env) → OfSome Good go → Stops P (OfSome (At P)) (maybe_part go env)
  maybe_stops go env h = there_stops P Good (At P) (part env) (λ c k. k env) go h

  unary_good : (at : Span) (o : UnOp) (go : Check) → P at → Good go → Good (unary_of at o go)
  unary_good at o go p h env = next P (At P) (At P) (go env) _ (h env) (λ e k. row_stops P at (prefix_name o) (e ∷ []) p)

  operand_stops : (env : Env) (o : PlacedOp × Check) → GoodLink o → Stops P (OperandAt P) (operand env o)
  operand_stops env o h = next P (At P) (OperandAt P) (o.1 env) _ (h.1 env) (λ e k. (h.0, k))

  left_next_stops : (at : Span) (env : Env) (acc : Chained) (o : PlacedOp × Check) → P at → GoodLink o → Stops P (Any P) (left_next at env acc o)
  left_next_stops at env acc o p h = next P (At P) (Any P) (o.1 env) _ (h.1 env) (λ e k. left_stops P at acc (operand_of o.0 e) p)

  grouped_stops : (right : Bool) (at : Span) (e : Tree) (os : List (PlacedOp × Check)) (env : Env) → P at → AllByRecursion GoodLink os → Stops P (At P) (grouped_of right at e os env)
  grouped_stops true at e os env p h = next P (AllByRecursion (OperandAt P)) (At P) (each (operand env) os) _ (each_stops P GoodLink (OperandAt P) (operand env) (operand_stops env) os h) (λ es k. appended_stops P at e es p k)
  grouped_stops false at e os env p h =
      next P (Any P) (At P) (loop (left_next at env) (record { ty = type_of e; done = [] }) os) _ (looped P GoodLink (Any P) (left_next at env) (λ acc o u k. left_next_stops at env acc o p k) os h (record { ty = type_of e; done = [] }) tt) (λ c u. p)

  chain_good : (at : Span) (go : Check) (os : List (PlacedOp × Check)) → P at → Good go → AllByRecursion GoodLink os → Good (chain_of at go os)
  chain_good at go os p h hs env = next P (At P) (At P) (go env) _ (h env) (λ e k. grouped_stops (group_right os) at e os env p hs)

  module _ (m : Model) (known : IsKnown P m) where
    call_good : (at : Span) (n : Name) (gos : List Check) → P at → AllByRecursion Good gos → Good (call_of m at n gos)
    call_good at n [] p h env = bare_stops P m env at n known p
    call_good at n (go ∷ gos) p h env = next P (AllByRecursion (At P)) (At P) (parts (go ∷ gos) env) _ (parts_stop (go ∷ gos) env h) (λ es k. applied_stops P m at n es known p)

    array_good : (at : Span) (gos : List Check) → P at → AllByRecursion Good gos → Good (array_of at gos)
    array_good at gos p h env = next P (AllByRecursion (At P)) (At P) (parts gos env) _ (parts_stop gos env h) (λ es k. listed_stops P at es p k)

    rows_good : (at : Span) (rs : List (List Check)) → P at → AllByRecursion (AllByRecursion Good) rs → Good (rows_of at rs)
    rows_good at rs p h env =
        next P (AllByRecursion (AllByRecursion (At P))) (At P) (each (row_parts env) rs) _ (each_stops P (AllByRecursion Good) (AllByRecursion (At P)) (row_parts env) (λ r k. parts_stop r env k) rs h) (λ ts k. tabled_stops P at ts p k)

    set_good : (at : Span) (gos : List Check) → P at → AllByRecursion Good gos → Good (set_of at gos)
    set_good at gos p h env = next P (AllByRecursion (At P)) (At P) (parts gos env) _ (parts_stop gos env h) (λ es k. set_stops P at es p k)

    access_good : (at : Span) (go : Check) (gos : List Check) → P at → Good go → AllByRecursion Good gos → Good (access_of at go gos)
    access_good at go gos p h hs env = next P (At P) (At P) (go env) _ (h env) (λ a k. next P (AllByRecursion (At P)) (At P) (parts gos env) _ (parts_stop gos env hs) (λ es j. accessed_stops P at a es p k j))

    record BranchedAt (b : Branched) : Type 0 where
      conds : AllByRecursion (At P) b.conds
      thens : AllByRecursion (At P) b.thens

    branch_stops : (env : Env) (acc : Branched) (b : Check × Check) → BranchedAt acc → GoodBranch b → Stops P BranchedAt (branch_next env acc b)
    branch_stops env acc b q h =
        next P (At P) BranchedAt (b.0 env) _ (h.0 env)
        (λ c k. next P (At P) BranchedAt (b.1 env) _ (h.1 env) (λ e j. record { conds = one_more_all (At P) acc.conds c q.conds k; thens = one_more_all (At P) acc.thens e q.thens j }))

    choice_good : (at : Span) (bs : List (Check × Check)) (els : Option Check) → P at → AllByRecursion GoodBranch bs → OfSome Good els → Good (choice_of at bs els)
    choice_good at bs els p hs h env =
        next P BranchedAt (At P) (loop (branch_next env) (record { conds = []; thens = [] }) bs) _ (looped P GoodBranch BranchedAt (branch_next env) (branch_stops env) bs hs (record { conds = []; thens = [] }) (record { conds = tt; thens = tt }))
        (λ b q. next P (OfSome (At P)) (At P) (maybe_part els env) _ (maybe_stops els env h) (λ e j. decided_stops P at b.conds b.thens e p q.conds q.thens j))

    abbrev GeneratedAt : Generated → Type 0
    GeneratedAt g = AllByRecursion (GenAt P) g.gens

    gen_stops : (start : ℕ) (acc : Generated) (g : GenCheck) → GeneratedAt acc → GoodGen g → Stops P GeneratedAt (gen_next start acc g)
    gen_stops start acc g q h =
        next P (At P) GeneratedAt (g.set acc.env) _ (h.set acc.env)
        (λ s k. next P (Any P) GeneratedAt (running_type s) _ (running_stops P s k)
        (λ t u. next P (Any P) GeneratedAt (bind_names start t g.names acc.env) _ (names_stop P start t g.names acc.env h.names)
        (λ b v. next P (OfSome (At P)) GeneratedAt (maybe_part g.cond b.env) _ (maybe_stops g.cond b.env h.cond) (λ c j. one_more_all (GenAt P) acc.gens (record { slots = b.slots; set = s; cond = c }) q j))))

    comp_good : (at : Span) (braces : Bool) (gs : List GenCheck) (head : Check) → P at → AllByRecursion GoodGen gs → Good head → Good (comp_of at braces gs head)
    comp_good at braces gs head p hs h env =
        next P GeneratedAt (At P) (generators gs env) _ (looped P GoodGen GeneratedAt (gen_next env.next) (gen_stops env.next) gs hs (record { gens = []; env = env }) tt)
        (λ g q. next P (At P) (At P) (head g.env) _ (h g.env) (λ e k. comprehended_stops P at braces g.gens e p k q))

    gen_call_good : (at : Span) (n : Name) (gs : List GenCheck) (head : Check) → P at → AllByRecursion GoodGen gs → Good head → Good (gen_call_of m at n gs head)
    gen_call_good at n gs head p hs h env = next P (At P) (At P) (comp_of at false gs head env) _ (comp_good at false gs head p hs h env) (λ e k. applied_stops P m at n (e ∷ []) known p)

    based_stops : (env : Env) (b : Based Check) → GoodBased b → Stops P (BasedAt P) (based_part env b)
    based_stops env of_bool h = tt
    based_stops env of_int h = tt
    based_stops env (of_set go) h = next P (At P) (BasedAt P) (go env) _ (h env) (λ e k. k)

    written_good : (at : Span) (var opt set : Bool) (dims : List (Based Check)) (b : Based Check) → P at → AllByRecursion GoodBased dims → GoodBased b → GoodType (written_of at var opt set dims b)
    written_good at var opt set dims b p hs h env =
        next P (AllByRecursion (BasedAt P)) (Any P) (each (based_part env) dims) _ (each_stops P GoodBased (BasedAt P) (based_part env) (based_stops env) dims hs)
        (λ ds k. next P (BasedAt P) (Any P) (based_part env b) _ (based_stops env b h) (λ c j. declared_stops P at var opt set ds c p k j))

    lacks : (var : Bool) (at : Span) → P at → Stops P {A = Option Tree} (Any P) (if var then Ok None else refuse kind.MissingData at)
    lacks true at p = tt
    lacks false at p = (p, tt)

    value_stops : (at : Span) (t : PlainType) (value : Option Check) (env : Env) → P at → OfSome Good value → Stops P (Any P) (local_value at t value env)
    value_stops at t None env p h = lacks t.var at p
    value_stops at t (Some go) env p h = next P (At P) (Any P) (go env) _ (h env) (λ e k. next P (At P) (Any P) (fitted e t) _ (fitted_stops P e t k) (λ v u. tt))

    abbrev DeclaredAt : Declared → Type 0
    DeclaredAt d = AllByRecursion (ItemAt P) d.items

    let_next_stops : (start : ℕ) (acc : Declared) (l : LetCheck) → DeclaredAt acc → GoodLet l → Stops P DeclaredAt (let_next start acc l)
    let_next_stops start acc (declares_by go n at value) q h =
        next P (Any P) DeclaredAt (go acc.env) _ (h.0 acc.env)
        (λ t u. next P (Any P) DeclaredAt (new_name start n at acc.env) _ (new_stops P start n at acc.env h.1)
        (λ a v. next P (Any P) DeclaredAt (local_value at t.ty value acc.env) _ (value_stops at t.ty value acc.env h.1 h.2) (λ x w. one_more_all (ItemAt P) acc.items (typed.declares (decl_of acc.env n at t x)) q tt)))
    let_next_stops start acc (constrains_by go) q h = next P (At P) DeclaredAt (go acc.env) _ (h acc.env) (λ e k. one_more_all (ItemAt P) acc.items (typed.constrains e) q k)

    let_good : (at : Span) (ls : List LetCheck) (body : Check) → P at → AllByRecursion GoodLet ls → Good body → Good (let_of at ls body)
    let_good at ls body p hs h env =
        next P DeclaredAt (At P) (loop (let_next env.next) (record { items = []; env = env }) ls) _ (looped P GoodLet DeclaredAt (let_next env.next) (let_next_stops env.next) ls hs (record { items = []; env = env }) tt)
        (λ d q. next P (At P) (At P) (body d.env) _ (h d.env) (λ e k. let_stops P at d.items e p q))

    piece_stops : (at : Span) (env : Env) (x : PieceCheck) → P at → GoodPiece x → Stops P (At P) (piece at env x)
    piece_stops at env (plain_by n) p h = p
    piece_stops at env (shown_by go) p h = next P (At P) (At P) (go env) _ (h env) (λ e k. row_stops P (place_of e) (codes "show") (e ∷ []) k)

    operands_at : (es : List Tree) → AllByRecursion (At P) es → AllByRecursion (OperandAt P) (map next_piece es)
    operands_at [] h = tt
    operands_at (e ∷ es) h = ((h.0, h.0), operands_at es h.1)

    texted_stops : (at : Span) (es : List Tree) → P at → AllByRecursion (At P) es → Stops P (At P) (texted at es)
    texted_stops at [] p h = (p, tt)
    texted_stops at (e ∷ []) p h = h.0
    texted_stops at (e ∷ f ∷ es) p h = appended_stops P at e (map next_piece (f ∷ es)) p (operands_at (f ∷ es) h.1)

    text_good : (at : Span) (ps : List PieceCheck) → P at → AllByRecursion GoodPiece ps → Good (text_of at ps)
    text_good at ps p h env = next P (AllByRecursion (At P)) (At P) (each (piece at env) ps) _ (each_stops P GoodPiece (At P) (piece at env) (λ x k. piece_stops at env x p k) ps h) (λ es k. texted_stops at es p k)

    -- ---- whole expressions

    module _ (N : Name → Type 0) where
      spots : (ns : List (Name × Span)) → All (IsSpot N P) ns → AllByRecursion (λ n. P n.1) ns
      spots ns h = recursion_from_All (λ n. P n.1) ns (All-weaker (IsSpot N P) (λ n. P n.1) (λ n k. k.1) ns h)

      mutual
        unfolding check OfTree

        pub tree_good : (e : source.Tree) → OfTree N P e → Good (check m e)
        tree_good (source.node at f) h env = form_good f at h.0 h.1 env

        form_good : (f : source.Shape) (at : Span) → P at → OfShape N P f → (env : Env) → Stops P (At P) (check_form m f at env)
        form_good (source.int n) at p h env = p
        form_good (source.bool b) at p h env = p
        form_good source.absent at p h env = p
        form_good (source.text n) at p h env = p
        form_good (source.ident n) at p h env = named_stops P m env at n known p
        form_good (source.interp ps) at p h env = text_good at (check_pieces m ps) p (pieces_good ps h) env
        form_good (source.unary o e) at p h env = unary_good at o (check m e) p (tree_good e h) env
        form_good (source.chain e ls) at p h env = chain_good at (check m e) (check_links m ls) p (tree_good e h.0) (links_good ls h.1) env
        form_good (source.call n es) at p h env = call_good at n (checks m es) p (trees_good es h.1) env
        form_good (source.gen_call n gs e) at p h env = gen_call_good at n (check_gens m gs) (check m e) p (gens_good gs h.1) (tree_good e h.2) env
        form_good (source.access e es) at p h env = access_good at (check m e) (checks m es) p (tree_good e h.0) (trees_good es h.1) env
        form_good (source.array es) at p h env = array_good at (checks m es) p (trees_good es h) env
        form_good (source.rows rs) at p h env = rows_good at (check_rows m rs) p (rows_of_good rs h) env
        form_good (source.set es) at p h env = set_good at (checks m es) p (trees_good es h) env
        form_good (source.array_comp e gs) at p h env = comp_good at false (check_gens m gs) (check m e) p (gens_good gs h.1) (tree_good e h.0) env
        form_good (source.set_comp e gs) at p h env = comp_good at true (check_gens m gs) (check m e) p (gens_good gs h.1) (tree_good e h.0) env
        form_good (source.choice bs e) at p h env = choice_good at (check_branches m bs) (check_maybe m e) p (branches_good bs h.0) (maybe_good e h.1) env
        form_good (source.let_in ls e) at p h env = let_good at (check_lets m ls) (check m e) p (lets_good ls h.0) (tree_good e h.1) env
        form_good source.whole at p h env = (p, tt)

        maybe_good : (e : source.Maybe) → OfMaybe N P e → OfSome Good (check_maybe m e)
        maybe_good source.nothing h = tt
        maybe_good (source.just e) h = tree_good e h

        trees_good : (es : source.Trees) → OfTrees N P es → AllByRecursion Good (checks m es)
        trees_good source.no_trees h = tt
        trees_good (source.a_tree e es) h = (tree_good e h.0, trees_good es h.1)

        links_good : (ls : source.Links) → OfLinks N P ls → AllByRecursion GoodLink (check_links m ls)
        links_good source.no_links h = tt
        links_good (source.a_link o e ls) h = ((h.0, tree_good e h.1), links_good ls h.2)

        rows_of_good : (rs : source.Rows) → OfRows N P rs → AllByRecursion (AllByRecursion Good) (check_rows m rs)
        rows_of_good source.no_rows h = tt
        rows_of_good (source.a_row r rs) h = (trees_good r h.0, rows_of_good rs h.1)

        branches_good : (bs : source.Branches) → OfBranches N P bs → AllByRecursion GoodBranch (check_branches m bs)
        branches_good source.no_branches h = tt
        branches_good (source.a_branch c e bs) h = ((tree_good c h.0, tree_good e h.1), branches_good bs h.2)

        piece_good : (x : source.Part) → OfPart N P x → GoodPiece (check_piece m x)
        piece_good (source.plain n) h = tt
        piece_good (source.shown e) h = tree_good e h

        pieces_good : (ps : source.Parts) → OfParts N P ps → AllByRecursion GoodPiece (check_pieces m ps)
        pieces_good source.no_parts h = tt
        pieces_good (source.a_part x ps) h = (piece_good x h.0, pieces_good ps h.1)

        gen_good : (g : source.Generator) → OfGenerator N P g → GoodGen (check_gen m g)
        gen_good (source.generator ns e c) h = record { names = spots ns h.0; set = tree_good e h.1; cond = maybe_good c h.2 }

        gens_good : (gs : source.Gens) → OfGens N P gs → AllByRecursion GoodGen (check_gens m gs)
        gens_good source.no_gens h = tt
        gens_good (source.a_gen g gs) h = (gen_good g h.0, gens_good gs h.1)

        let_item_good : (l : source.Let) → OfLet N P l → GoodLet (check_let m l)
        let_item_good (source.declared d) h = declaration_good d h
        let_item_good (source.constrained e) h = tree_good e h

        lets_good : (ls : source.Lets) → OfLets N P ls → AllByRecursion GoodLet (check_lets m ls)
        lets_good source.no_lets h = tt
        lets_good (source.a_let l ls) h = (let_item_good l h.0, lets_good ls h.1)

        declaration_good : (d : source.Declaration) → OfDeclaration N P d → GoodLet (check_declaration m d)
        declaration_good (source.declaration t n at e) h = (type_good t h.0, h.2, maybe_good e h.3)

        pub type_good : (t : source.Written) → OfWritten N P t → GoodType (check_written m t)
        type_good (source.written at ds var opt set b) h env = written_good at var opt set (check_dims m ds) (check_based m b) h.0 (dims_good ds h.1) (base_good b h.2) env

        base_good : (b : source.Based) → OfBased N P b → GoodBased (check_based m b)
        base_good source.base_bool h = tt
        base_good source.base_int h = tt
        base_good (source.base_of e) h = tree_good e h

        dims_good : (ds : source.Dims) → OfDims N P ds → AllByRecursion GoodBased (check_dims m ds)
        dims_good source.no_array h = tt
        dims_good (source.array_of bs) h = bases_good bs h

        bases_good : (bs : source.Bases) → OfBases N P bs → AllByRecursion GoodBased (check_bases m bs)
        bases_good source.no_bases h = tt
        bases_good (source.a_base b bs) h = (base_good b h.0, bases_good bs h.1)
