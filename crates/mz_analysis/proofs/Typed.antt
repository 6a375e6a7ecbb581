-- The places of what an expression is typed to are of the kind of those in the expression.
use Rattle.std.proofs.Common.{◌≡◌, ℕ, Bool, true, false, List, [], ◌∷◌, ◌++◌, Option, Some, None, Ok, Err, map}
use Rattle.std.specs.Prelude.{codes, if◌then◌else◌}
use Rattle.mz_base.specs.declared.kind.Kind.TheVariants as kind
use Rattle.mz_base.specs.declared.fault.Span.{Span}
use Rattle.mz_core.specs.Types.{PlainType}
use Rattle.mz_core.specs.Tree.{Tree, DeclaredType, declares, constrains, type_of, place_of}
use Rattle.mz_tree.specs.declared.expr.UnOp.{UnOp}
use Rattle.mz_tree.specs.declared.expr.PlacedOp.{PlacedOp}
use Rattle.mz_tree.specs.Tree as source
use Rattle.mz_tree.specs.Tree.{Name, Shape, Maybe, Trees, Links, Rows, Branches, Part, Parts, Generator, Gens, Let, Lets, Declaration, Written, Dims, Bases}
use Rattle.mz_tree.specs.Kinds.{OfTree, OfShape, OfMaybe, OfTrees, OfLinks, OfRows, OfBranches, OfPart, OfParts, OfGenerator, OfGens, OfLet, OfLets, OfDeclaration, OfWritten, OfBased, OfDims, OfBases}
use Rattle.mz_check_meaning.specs.declared.meaning.Meaning.{Meaning}
use Rattle.mz_check_meaning.specs.declared.meaning.Meaning.TheVariants as meaning
use Rattle.mz_check_meaning.specs.Tests.{Test, ◌>>=◌, ◌>>◌, refuse, loop, each, maybe_some}
use Rattle.mz_check_meaning.specs.Models.{Model, Env, Local, bind, local_in, entry_of, type_of_decl, heading_of}
use Rattle.mz_check_meaning.specs.Coerced.{fitted}
use Rattle.mz_check_meaning.specs.Calls.{applied, row_node}
use Rattle.mz_check_meaning.specs.Chains.{Chained, prefix_name, from_left, appended, chain_node}
use Rattle.mz_check_meaning.specs.Arrays.{listed, tabled, set_literal, accessed}
use Rattle.mz_check_meaning.specs.Branches.{decided}
use Rattle.mz_check_meaning.specs.Comprehensions.{Bound, running_type, bind_names, comprehended}
use Rattle.mz_check_meaning.specs.Lets.{new_name, decl_of, let_node}
use Rattle.mz_check_meaning.specs.Names.{decl_node, bare_node, meant, named_or, named, function_meant, bare_or, bare_call}
use Rattle.mz_check_meaning.specs.WrittenTypes.{Based, of_bool, of_int, of_set, declared}
use Rattle.mz_check_meaning.specs.Forms.{Check, TypeCheck, part, parts, maybe_part, unary_of, operand_of, next_piece, left_next, from_left_of, operand, from_right_of, grouped_of, group_right, chain_of, call_of, array_of, row_parts, rows_of, set_of, access_of, Branched, branch_next, choice_of, GenCheck, Generated, gen_next, generators, comp_of, gen_call_of, based_part, written_of, LetCheck, declares_by, constrains_by, Declared, local_value, let_next, let_of, PieceCheck, plain_by, shown_by, piece, texted, text_of}
use Rattle.mz_check_meaning.specs.Typing.{check, check_form, check_maybe, checks, check_links, check_rows, check_branches, check_piece, check_pieces, check_gen, check_gens, check_let, check_lets, check_declaration, check_written, check_based, check_dims, check_bases}
use Rattle.mz_core.specs.Nodes.{nodes_in}
use Rattle.mz_check_meaning.proofs.Giving.{AllBy, all_both, all_mapped, Gives, gives_then, gives_after, loop_gives, each_gives}
use Rattle.mz_analysis.proofs.PlaceNodes as nodes
use Rattle.mz_analysis.proofs.PlaceNodes.{IsPlaced, ArePlaced, IsPlacedMaybe, IsPlacedOperand, IsPlacedChain, IsPlacedGen, IsPlacedType, IsPlacedItem, IsPlacedBased}

module _ (P : Span → Type 0) where
  -- ---- names

  meant_placed : (m : Model) (output : Bool) (at : Span) (o : Option Meaning) → P at → Gives (meant m output at o) (IsPlaced P)
  unfolding meant nodes_in
  meant_placed m output at None here = tt
  meant_placed m output at (Some (meaning.Decl d)) here = gives_after (IsPlaced P) (type_of_decl m at d) (λ t. Ok (decl_node output at d t)) (λ t. ((here, tt), tt))
  meant_placed m output at (Some (meaning.Function f)) here = gives_after (IsPlaced P) (heading_of m at f) (λ h. Ok (bare_node at f h)) (λ h. ((here, tt), tt))
  meant_placed m output at (Some (meaning.Enum e)) here = ((here, tt), tt)
  meant_placed m output at (Some (meaning.Case e k)) here = ((here, tt), tt)

  named_or_placed : (m : Model) (env : Env) (at : Span) (n : Name) (o : Option Local) → P at → Gives (named_or m env at n o) (IsPlaced P)
  unfolding nodes_in
  named_or_placed m env at n (Some l) here = ((here, tt), tt)
  named_or_placed m env at n None here = meant_placed m env.output at (entry_of n m.names) here

  named_placed : (m : Model) (env : Env) (at : Span) (n : Name) → P at → Gives (named m env at n) (IsPlaced P)
  unfolding named
  named_placed m env at n here = named_or_placed m env at n (local_in n env.locals) here

  function_placed : (m : Model) (at : Span) (o : Option Meaning) → P at → Gives (function_meant m at o) (IsPlaced P)
  unfolding nodes_in
  function_placed m at (Some (meaning.Function f)) here = gives_after (IsPlaced P) (heading_of m at f) (λ h. Ok (bare_node at f h)) (λ h. ((here, tt), tt))
  function_placed m at (Some (meaning.Decl d)) here = tt
  function_placed m at (Some (meaning.Enum e)) here = tt
  function_placed m at (Some (meaning.Case e k)) here = tt
  function_placed m at None here = tt

  bare_or_placed : (m : Model) (at : Span) (n : Name) (o : Option Local) → P at → Gives (bare_or m at n o) (IsPlaced P)
  bare_or_placed m at n (Some l) here = tt
  bare_or_placed m at n None here = function_placed m at (entry_of n m.names) here

  bare_placed : (m : Model) (env : Env) (at : Span) (n : Name) → P at → Gives (bare_call m env at n) (IsPlaced P)
  unfolding bare_call
  bare_placed m env at n here = bare_or_placed m at n (local_in n env.locals) here

  -- ---- parts

  abbrev pub GivesPlaced : Check → Type 0
  GivesPlaced go = (env : Env) → Gives (go env) (IsPlaced P)

  abbrev pub GivesPlacedLink : PlacedOp × Check → Type 0
  GivesPlacedLink o = P o.0.start × GivesPlaced o.1

  abbrev pub GivesPlacedMaybe : Option Check → Type 0
  GivesPlacedMaybe None = Unit {0}
  GivesPlacedMaybe (Some go) = GivesPlaced go

  abbrev pub GivesPlacedType : TypeCheck → Type 0
  GivesPlacedType go = (env : Env) → Gives (go env) (IsPlacedType P)

  abbrev pub GivesPlacedGen : GenCheck → Type 0
  GivesPlacedGen g = GivesPlaced g.set × GivesPlacedMaybe g.cond

  abbrev pub GivesPlacedBased : Based Check → Type 0
  GivesPlacedBased of_bool = Unit {0}
  GivesPlacedBased of_int = Unit {0}
  GivesPlacedBased (of_set go) = GivesPlaced go

  abbrev pub GivesPlacedLet : LetCheck → Type 0
  GivesPlacedLet (declares_by go n at v) = GivesPlacedType go × P at × GivesPlacedMaybe v
  GivesPlacedLet (constrains_by go) = GivesPlaced go

  abbrev pub GivesPlacedPiece : PieceCheck → Type 0
  GivesPlacedPiece (plain_by n) = Unit {0}
  GivesPlacedPiece (shown_by go) = GivesPlaced go

  at_env : (gos : List Check) (env : Env) → AllBy GivesPlaced gos → AllBy (λ go. Gives (part env go) (IsPlaced P)) gos
  at_env [] env h = tt
  at_env (go ∷ gos) env h = (h.0 env, at_env gos env h.1)

  parts_placed : (gos : List Check) (env : Env) → AllBy GivesPlaced gos → Gives (parts gos env) (ArePlaced P)
  parts_placed gos env h = each_gives (IsPlaced P) (part env) gos (at_env gos env h)

  some_placed : (t : Test Tree) → Gives t (IsPlaced P) → Gives (maybe_some t) (IsPlacedMaybe P)
  some_placed (Ok e) h = h
  some_placed (Err f) h = tt

  maybe_placed : (go : Option Check) (env : Env) → GivesPlacedMaybe go → Gives (maybe_part go env) (IsPlacedMaybe P)
  maybe_placed None env h = tt
  maybe_placed (Some go) env h = some_placed (go env) (h env)

  -- ---- operators

  unary_placed : (at : Span) (o : UnOp) (go : Check) → P at → GivesPlaced go → GivesPlaced (unary_of at o go)
  unary_placed at o go here h env = gives_then (IsPlaced P) (IsPlaced P) (go env) (λ e. row_node at (prefix_name o) (e ∷ [])) (h env) (λ e k. nodes.row_placed P at (prefix_name o) (e ∷ []) here (k, tt))

  lefts_placed : (at : Span) (env : Env) (os : List (PlacedOp × Check)) → AllBy GivesPlacedLink os → AllBy (λ o. (s : Chained) → IsPlacedChain P s → Gives (left_next at env s o) (IsPlacedChain P)) os
  lefts_placed at env [] h = tt
  lefts_placed at env (o ∷ os) h =
      ((λ s k. gives_then (IsPlaced P) (IsPlacedChain P) (o.1 env) (λ e. from_left at s (operand_of o.0 e)) (h.0.1 env) (λ e l. nodes.left_placed P at s (operand_of o.0 e) k (h.0.0, l))), lefts_placed at env os h.1)

  from_left_placed : (at : Span) (e : Tree) (os : List (PlacedOp × Check)) (env : Env) → P at → IsPlaced P e → AllBy GivesPlacedLink os → Gives (from_left_of at e os env) (IsPlaced P)
  from_left_placed at e os env here h k =
      gives_then (IsPlacedChain P) (IsPlaced P) (loop (left_next at env) (record { ty = type_of e; done = [] }) os) (λ c. Ok (chain_node at e c))
      (loop_gives (IsPlacedChain P) (left_next at env) (record { ty = type_of e; done = [] }) os tt (lefts_placed at env os k))
      (λ c l. nodes.chain_placed P at e c here h l)

  operands_placed : (env : Env) (os : List (PlacedOp × Check)) → AllBy GivesPlacedLink os → AllBy (λ o. Gives (operand env o) (IsPlacedOperand P)) os
  operands_placed env [] h = tt
  operands_placed env (o ∷ os) h = (gives_then (IsPlaced P) (IsPlacedOperand P) (o.1 env) (λ e. Ok (operand_of o.0 e)) (h.0.1 env) (λ e k. (h.0.0, k)), operands_placed env os h.1)

  from_right_placed : (at : Span) (e : Tree) (os : List (PlacedOp × Check)) (env : Env) → P at → IsPlaced P e → AllBy GivesPlacedLink os → Gives (from_right_of at e os env) (IsPlaced P)
  from_right_placed at e os env here h k =
      gives_then (AllBy (IsPlacedOperand P)) (IsPlaced P) (each (operand env) os) (λ es. appended at e es) (each_gives (IsPlacedOperand P) (operand env) os (operands_placed env os k))
      (λ es l. nodes.appended_placed P at e es here h l)

  grouped_placed : (b : Bool) (at : Span) (e : Tree) (os : List (PlacedOp × Check)) (env : Env) → P at → IsPlaced P e → AllBy GivesPlacedLink os → Gives (grouped_of b at e os env) (IsPlaced P)
  grouped_placed true at e os env here h k = from_right_placed at e os env here h k
  grouped_placed false at e os env here h k = from_left_placed at e os env here h k

  chain_placed : (at : Span) (go : Check) (os : List (PlacedOp × Check)) → P at → GivesPlaced go → AllBy GivesPlacedLink os → GivesPlaced (chain_of at go os)
  chain_placed at go os here h k env = gives_then (IsPlaced P) (IsPlaced P) (go env) (λ e. grouped_of (group_right os) at e os env) (h env) (λ e l. grouped_placed (group_right os) at e os env here l k)

  -- ---- calls, literals and accesses

  call_placed : (m : Model) (at : Span) (n : Name) (gos : List Check) → P at → AllBy GivesPlaced gos → GivesPlaced (call_of m at n gos)
  call_placed m at n [] here h env = bare_placed m env at n here
  call_placed m at n (go ∷ gos) here h env = gives_then (ArePlaced P) (IsPlaced P) (parts (go ∷ gos) env) (λ es. applied m at n es) (parts_placed (go ∷ gos) env h) (λ es k. nodes.applied_placed P m at n es here k)

  array_placed : (at : Span) (gos : List Check) → P at → AllBy GivesPlaced gos → GivesPlaced (array_of at gos)
  array_placed at gos here h env = gives_then (ArePlaced P) (IsPlaced P) (parts gos env) (λ es. listed at es) (parts_placed gos env h) (λ es k. nodes.listed_placed P at es here k)

  all_rows_placed : (env : Env) (rs : List (List Check)) → AllBy (AllBy GivesPlaced) rs → AllBy (λ r. Gives (row_parts env r) (ArePlaced P)) rs
  all_rows_placed env [] h = tt
  all_rows_placed env (r ∷ rs) h = (parts_placed r env h.0, all_rows_placed env rs h.1)

  rows_placed : (at : Span) (rs : List (List Check)) → P at → AllBy (AllBy GivesPlaced) rs → GivesPlaced (rows_of at rs)
  rows_placed at rs here h env = gives_then (AllBy (ArePlaced P)) (IsPlaced P) (each (row_parts env) rs) (λ ts. tabled at ts) (each_gives (ArePlaced P) (row_parts env) rs (all_rows_placed env rs h)) (λ ts k. nodes.tabled_placed P at ts here k)

  set_placed : (at : Span) (gos : List Check) → P at → AllBy GivesPlaced gos → GivesPlaced (set_of at gos)
  set_placed at gos here h env = gives_then (ArePlaced P) (IsPlaced P) (parts gos env) (λ es. set_literal at es) (parts_placed gos env h) (λ es k. nodes.set_placed P at es here k)

  access_placed : (at : Span) (go : Check) (gos : List Check) → P at → GivesPlaced go → AllBy GivesPlaced gos → GivesPlaced (access_of at go gos)
  access_placed at go gos here h k env =
      gives_then (IsPlaced P) (IsPlaced P) (go env) (λ a. parts gos env >>= λ es. accessed at a es) (h env) (λ a l.
      gives_then (ArePlaced P) (IsPlaced P) (parts gos env) (λ es. accessed at a es) (parts_placed gos env k) (λ es r. nodes.access_placed P at a es here l r))

  -- ---- `if`

  abbrev AreBranched : Branched → Type 0
  AreBranched b = ArePlaced P b.conds × ArePlaced P b.thens

  one_branch : (env : Env) (b : Check × Check) (s : Branched) → GivesPlaced b.0 × GivesPlaced b.1 → AreBranched s → Gives (branch_next env s b) AreBranched
  one_branch env b s h k =
      let last : Tree → Tree → Test Branched = λ c e. Ok (record { conds = s.conds ++ c ∷ []; thens = s.thens ++ e ∷ [] }) in
      let next : Tree → Test Branched = λ c. b.1 env >>= λ e. last c e in
      gives_then (IsPlaced P) AreBranched (b.0 env) next (h.0 env) (λ c l.
      gives_then (IsPlaced P) AreBranched (b.1 env) (last c) (h.1 env) (λ e r.
      (all_both (IsPlaced P) s.conds (c ∷ []) k.0 (l, tt), all_both (IsPlaced P) s.thens (e ∷ []) k.1 (r, tt))))

  nexts_placed : (env : Env) (bs : List (Check × Check)) → AllBy (λ b. GivesPlaced b.0 × GivesPlaced b.1) bs → AllBy (λ b. (s : Branched) → AreBranched s → Gives (branch_next env s b) AreBranched) bs
  nexts_placed env [] h = tt
  nexts_placed env (b ∷ bs) h =
      ((λ s k. one_branch env b s h.0 k), nexts_placed env bs h.1)

  choice_placed : (at : Span) (bs : List (Check × Check)) (els : Option Check) → P at → AllBy (λ b. GivesPlaced b.0 × GivesPlaced b.1) bs → GivesPlacedMaybe els → GivesPlaced (choice_of at bs els)
  choice_placed at bs els here h k env =
      gives_then AreBranched (IsPlaced P) (loop (branch_next env) (record { conds = []; thens = [] }) bs) (λ b. maybe_part els env >>= λ e. decided at b.conds b.thens e)
      (loop_gives AreBranched (branch_next env) (record { conds = []; thens = [] }) bs (tt, tt) (nexts_placed env bs h)) (λ b l.
      gives_then (IsPlacedMaybe P) (IsPlaced P) (maybe_part els env) (λ e. decided at b.conds b.thens e) (maybe_placed els env k) (λ e r. nodes.decided_placed P at b.conds b.thens e here l.0 l.1 r))

  -- ---- comprehensions

  abbrev AreGenerated : Generated → Type 0
  AreGenerated g = AllBy (IsPlacedGen P) g.gens

  one_gen : (start : ℕ) (g : GenCheck) (s : Generated) → GivesPlacedGen g → AreGenerated s → Gives (gen_next start s g) AreGenerated
  one_gen start g s h k =
      let last : Tree → Bound → Option Tree → Test Generated = λ e b c. Ok (record { gens = s.gens ++ record { slots = b.slots; set = e; cond = c } ∷ []; env = b.env }) in
      let with_names : Tree → Bound → Test Generated = λ e b. maybe_part g.cond b.env >>= λ c. last e b c in
      let with_type : Tree → PlainType → Test Generated = λ e t. bind_names start t g.names s.env >>= λ b. with_names e b in
      let with_set : Tree → Test Generated = λ e. running_type e >>= λ t. with_type e t in
      gives_then (IsPlaced P) AreGenerated (g.set s.env) with_set (h.0 s.env) (λ e l.
      gives_after AreGenerated (running_type e) (with_type e) (λ t.
      gives_after AreGenerated (bind_names start t g.names s.env) (with_names e) (λ b.
      gives_then (IsPlacedMaybe P) AreGenerated (maybe_part g.cond b.env) (last e b) (maybe_placed g.cond b.env h.1) (λ c r.
      all_both (IsPlacedGen P) s.gens (record { slots = b.slots; set = e; cond = c } ∷ []) k ((l, r), tt)))))

  gens_next : (start : ℕ) (gs : List GenCheck) → AllBy GivesPlacedGen gs → AllBy (λ g. (s : Generated) → AreGenerated s → Gives (gen_next start s g) AreGenerated) gs
  gens_next start [] h = tt
  gens_next start (g ∷ gs) h = ((λ s k. one_gen start g s h.0 k), gens_next start gs h.1)

  comp_placed : (at : Span) (braces : Bool) (gs : List GenCheck) (head : Check) → P at → AllBy GivesPlacedGen gs → GivesPlaced head → GivesPlaced (comp_of at braces gs head)
  comp_placed at braces gs head here h k env =
      gives_then AreGenerated (IsPlaced P) (generators gs env) (λ g. head g.env >>= λ e. comprehended at braces g.gens e)
      (loop_gives AreGenerated (gen_next env.next) (record { gens = []; env = env }) gs tt (gens_next env.next gs h)) (λ g l.
      gives_then (IsPlaced P) (IsPlaced P) (head g.env) (λ e. comprehended at braces g.gens e) (k g.env) (λ e r. nodes.comprehended_placed P at braces g.gens e here l r))

  gen_call_placed : (m : Model) (at : Span) (n : Name) (gs : List GenCheck) (head : Check) → P at → AllBy GivesPlacedGen gs → GivesPlaced head → GivesPlaced (gen_call_of m at n gs head)
  gen_call_placed m at n gs head here h k env = gives_then (IsPlaced P) (IsPlaced P) (comp_of at false gs head env) (λ e. applied m at n (e ∷ [])) (comp_placed at false gs head here h k env) (λ e l. nodes.applied_placed P m at n (e ∷ []) here (l, tt))

  -- ---- written types

  one_based : (env : Env) (b : Based Check) → GivesPlacedBased b → Gives (based_part env b) (IsPlacedBased P)
  one_based env of_bool h = tt
  one_based env of_int h = tt
  one_based env (of_set go) h = gives_then (IsPlaced P) (IsPlacedBased P) (go env) (λ e. Ok (of_set e)) (h env) (λ e k. k)

  all_based : (env : Env) (bs : List (Based Check)) → AllBy GivesPlacedBased bs → AllBy (λ b. Gives (based_part env b) (IsPlacedBased P)) bs
  all_based env [] h = tt
  all_based env (b ∷ bs) h = (one_based env b h.0, all_based env bs h.1)

  written_placed : (at : Span) (var opt set : Bool) (dims : List (Based Check)) (b : Based Check) → P at → AllBy GivesPlacedBased dims → GivesPlacedBased b → GivesPlacedType (written_of at var opt set dims b)
  written_placed at var opt set dims b here h k env =
      gives_then (AllBy (IsPlacedBased P)) (IsPlacedType P) (each (based_part env) dims) (λ ds. based_part env b >>= λ c. declared at var opt set ds c) (each_gives (IsPlacedBased P) (based_part env) dims (all_based env dims h)) (λ ds l.
      gives_then (IsPlacedBased P) (IsPlacedType P) (based_part env b) (λ c. declared at var opt set ds c) (one_based env b k) (λ c r. nodes.declared_placed P at var opt set ds c here l r))

  -- ---- lets

  none_placed : (at : Span) (b : Bool) → Gives (if b then Ok None else refuse kind.MissingData at) (IsPlacedMaybe P)
  none_placed at true = tt
  none_placed at false = tt

  value_placed : (at : Span) (t : PlainType) (v : Option Check) (env : Env) → GivesPlacedMaybe v → Gives (local_value at t v env) (IsPlacedMaybe P)
  value_placed at t None env h = none_placed at t.var
  value_placed at t (Some go) env h =
      gives_then (IsPlaced P) (IsPlacedMaybe P) (go env) (λ e. fitted e t >>= λ w. Ok (Some w)) (h env) (λ e k.
      gives_then (IsPlaced P) (IsPlacedMaybe P) (fitted e t) (λ w. Ok (Some w)) (nodes.fitted_placed P e t k) (λ w l. l))

  abbrev AreDeclared : Declared → Type 0
  AreDeclared d = AllBy (IsPlacedItem P) d.items

  one_let : (start : ℕ) (l : LetCheck) (s : Declared) → GivesPlacedLet l → AreDeclared s → Gives (let_next start s l) AreDeclared
  one_let start (declares_by go n at v) s h k =
      let last : DeclaredType → Option Tree → Test Declared = λ t w. Ok (record { items = s.items ++ declares (decl_of s.env n at t w) ∷ []; env = bind n t.ty s.env }) in
      let with_value : DeclaredType → Test Declared = λ t. local_value at t.ty v s.env >>= λ w. last t w in
      let with_type : DeclaredType → Test Declared = λ t. new_name start n at s.env >> with_value t in
      gives_then (IsPlacedType P) AreDeclared (go s.env) with_type (h.0 s.env) (λ t l.
      gives_after AreDeclared (new_name start n at s.env) (λ u. with_value t) (λ u.
      gives_then (IsPlacedMaybe P) AreDeclared (local_value at t.ty v s.env) (last t) (value_placed at t.ty v s.env h.2) (λ w r.
      all_both (IsPlacedItem P) s.items (declares (decl_of s.env n at t w) ∷ []) k (record { span = h.1; ty = l; value = r }, tt))))
  one_let start (constrains_by go) s h k =
      gives_then (IsPlaced P) AreDeclared (go s.env) (λ e. Ok (record { items = s.items ++ constrains e ∷ []; env = s.env })) (h s.env) (λ e l. all_both (IsPlacedItem P) s.items (constrains e ∷ []) k (l, tt))

  all_lets : (start : ℕ) (ls : List LetCheck) → AllBy GivesPlacedLet ls → AllBy (λ l. (s : Declared) → AreDeclared s → Gives (let_next start s l) AreDeclared) ls
  all_lets start [] h = tt
  all_lets start (l ∷ ls) h = ((λ s k. one_let start l s h.0 k), all_lets start ls h.1)

  let_placed : (at : Span) (ls : List LetCheck) (body : Check) → P at → AllBy GivesPlacedLet ls → GivesPlaced body → GivesPlaced (let_of at ls body)
  let_placed at ls body here h k env =
      gives_then AreDeclared (IsPlaced P) (loop (let_next env.next) (record { items = []; env = env }) ls) (λ d. body d.env >>= λ e. let_node at d.items e)
      (loop_gives AreDeclared (let_next env.next) (record { items = []; env = env }) ls tt (all_lets env.next ls h)) (λ d l.
      gives_then (IsPlaced P) (IsPlaced P) (body d.env) (λ e. let_node at d.items e) (k d.env) (λ e r. nodes.let_placed P at d.items e here l r))

  -- ---- texts

  piece_placed : (at : Span) (env : Env) (p : PieceCheck) → P at → GivesPlacedPiece p → Gives (piece at env p) (IsPlaced P)
  unfolding nodes_in
  piece_placed at env (plain_by n) here h = ((here, tt), tt)
  piece_placed at env (shown_by go) here h = gives_then (IsPlaced P) (IsPlaced P) (go env) (λ e. row_node (place_of e) (codes "show") (e ∷ [])) (h env) (λ e k. nodes.row_placed P (place_of e) (codes "show") (e ∷ []) (nodes.place_placed P e k) (k, tt))

  all_pieces : (at : Span) (env : Env) (ps : List PieceCheck) → P at → AllBy GivesPlacedPiece ps → AllBy (λ p. Gives (piece at env p) (IsPlaced P)) ps
  all_pieces at env [] here h = tt
  all_pieces at env (p ∷ ps) here h = (piece_placed at env p here h.0, all_pieces at env ps here h.1)

  concatenated_placed : (at : Span) (es : List Tree) → P at → ArePlaced P es → Gives (texted at es) (IsPlaced P)
  concatenated_placed at [] here h = tt
  concatenated_placed at (e ∷ []) here h = h.0
  concatenated_placed at (e ∷ f ∷ es) here h = nodes.appended_placed P at e (map next_piece (f ∷ es)) here h.0 (all_mapped (IsPlaced P) (IsPlacedOperand P) next_piece (f ∷ es) (λ x k. (nodes.place_placed P x k, k)) h.1)

  text_placed : (at : Span) (ps : List PieceCheck) → P at → AllBy GivesPlacedPiece ps → GivesPlaced (text_of at ps)
  text_placed at ps here h env = gives_then (ArePlaced P) (IsPlaced P) (each (piece at env) ps) (λ es. texted at es) (each_gives (IsPlaced P) (piece at env) ps (all_pieces at env ps here h)) (λ es k. concatenated_placed at es here k)

  -- ---- all forms

  module _ (N : Name → Type 0) where
    mutual
      unfolding OfTree check nodes_in

      pub tree_gives : (m : Model) (e : source.Tree) → OfTree N P e → GivesPlaced (check m e)
      tree_gives m (source.node at f) h = form_gives m f at h.0 h.1

      form_gives : (m : Model) (f : Shape) (at : Span) → P at → OfShape N P f → GivesPlaced (check_form m f at)
      form_gives m (source.int n) at here h env = ((here, tt), tt)
      form_gives m (source.bool b) at here h env = ((here, tt), tt)
      form_gives m source.absent at here h env = ((here, tt), tt)
      form_gives m (source.text n) at here h env = ((here, tt), tt)
      form_gives m (source.ident n) at here h env = named_placed m env at n here
      form_gives m (source.interp ps) at here h env = text_placed at (check_pieces m ps) here (pieces_give m ps h) env
      form_gives m (source.unary o e) at here h env = unary_placed at o (check m e) here (tree_gives m e h) env
      form_gives m (source.chain e ls) at here h env = chain_placed at (check m e) (check_links m ls) here (tree_gives m e h.0) (links_give m ls h.1) env
      form_gives m (source.call n es) at here h env = call_placed m at n (checks m es) here (trees_give m es h.1) env
      form_gives m (source.gen_call n gs e) at here h env = gen_call_placed m at n (check_gens m gs) (check m e) here (gens_give m gs h.1) (tree_gives m e h.2) env
      form_gives m (source.access e es) at here h env = access_placed at (check m e) (checks m es) here (tree_gives m e h.0) (trees_give m es h.1) env
      form_gives m (source.array es) at here h env = array_placed at (checks m es) here (trees_give m es h) env
      form_gives m (source.rows rs) at here h env = rows_placed at (check_rows m rs) here (rows_give m rs h) env
      form_gives m (source.set es) at here h env = set_placed at (checks m es) here (trees_give m es h) env
      form_gives m (source.array_comp e gs) at here h env = comp_placed at false (check_gens m gs) (check m e) here (gens_give m gs h.1) (tree_gives m e h.0) env
      form_gives m (source.set_comp e gs) at here h env = comp_placed at true (check_gens m gs) (check m e) here (gens_give m gs h.1) (tree_gives m e h.0) env
      form_gives m (source.choice bs e) at here h env = choice_placed at (check_branches m bs) (check_maybe m e) here (branches_give m bs h.0) (maybe_gives m e h.1) env
      form_gives m (source.let_in ls e) at here h env = let_placed at (check_lets m ls) (check m e) here (lets_give m ls h.0) (tree_gives m e h.1) env
      form_gives m source.whole at here h env = tt

      pub maybe_gives : (m : Model) (e : Maybe) → OfMaybe N P e → GivesPlacedMaybe (check_maybe m e)
      maybe_gives m source.nothing h = tt
      maybe_gives m (source.just e) h = tree_gives m e h

      trees_give : (m : Model) (es : Trees) → OfTrees N P es → AllBy GivesPlaced (checks m es)
      trees_give m source.no_trees h = tt
      trees_give m (source.a_tree e es) h = (tree_gives m e h.0, trees_give m es h.1)

      links_give : (m : Model) (ls : Links) → OfLinks N P ls → AllBy GivesPlacedLink (check_links m ls)
      links_give m source.no_links h = tt
      links_give m (source.a_link o e ls) h = ((h.0, tree_gives m e h.1), links_give m ls h.2)

      rows_give : (m : Model) (rs : Rows) → OfRows N P rs → AllBy (AllBy GivesPlaced) (check_rows m rs)
      rows_give m source.no_rows h = tt
      rows_give m (source.a_row r rs) h = (trees_give m r h.0, rows_give m rs h.1)

      branches_give : (m : Model) (bs : Branches) → OfBranches N P bs → AllBy (λ b. GivesPlaced b.0 × GivesPlaced b.1) (check_branches m bs)
      branches_give m source.no_branches h = tt
      branches_give m (source.a_branch c e bs) h = ((tree_gives m c h.0, tree_gives m e h.1), branches_give m bs h.2)

      piece_gives : (m : Model) (p : Part) → OfPart N P p → GivesPlacedPiece (check_piece m p)
      piece_gives m (source.plain n) h = tt
      piece_gives m (source.shown e) h = tree_gives m e h

      pieces_give : (m : Model) (ps : Parts) → OfParts N P ps → AllBy GivesPlacedPiece (check_pieces m ps)
      pieces_give m source.no_parts h = tt
      pieces_give m (source.a_part p ps) h = (piece_gives m p h.0, pieces_give m ps h.1)

      gen_gives : (m : Model) (g : Generator) → OfGenerator N P g → GivesPlacedGen (check_gen m g)
      gen_gives m (source.generator ns e c) h = (tree_gives m e h.1, maybe_gives m c h.2)

      gens_give : (m : Model) (gs : Gens) → OfGens N P gs → AllBy GivesPlacedGen (check_gens m gs)
      gens_give m source.no_gens h = tt
      gens_give m (source.a_gen g gs) h = (gen_gives m g h.0, gens_give m gs h.1)

      let_gives : (m : Model) (l : Let) → OfLet N P l → GivesPlacedLet (check_let m l)
      let_gives m (source.declared d) h = declaration_gives m d h
      let_gives m (source.constrained e) h = tree_gives m e h

      lets_give : (m : Model) (ls : Lets) → OfLets N P ls → AllBy GivesPlacedLet (check_lets m ls)
      lets_give m source.no_lets h = tt
      lets_give m (source.a_let l ls) h = (let_gives m l h.0, lets_give m ls h.1)

      declaration_gives : (m : Model) (d : Declaration) → OfDeclaration N P d → GivesPlacedLet (check_declaration m d)
      declaration_gives m (source.declaration t n at e) h = (written_gives m t h.0, h.2, maybe_gives m e h.3)

      pub written_gives : (m : Model) (t : Written) → OfWritten N P t → GivesPlacedType (check_written m t)
      written_gives m (source.written at ds var opt set b) h env = written_placed at var opt set (check_dims m ds) (check_based m b) h.0 (dims_give m ds h.1) (based_gives m b h.2) env

      based_gives : (m : Model) (b : source.Based) → OfBased N P b → GivesPlacedBased (check_based m b)
      based_gives m source.base_bool h = tt
      based_gives m source.base_int h = tt
      based_gives m (source.base_of e) h = tree_gives m e h

      dims_give : (m : Model) (ds : Dims) → OfDims N P ds → AllBy GivesPlacedBased (check_dims m ds)
      dims_give m source.no_array h = tt
      dims_give m (source.array_of bs) h = bases_give m bs h

      bases_give : (m : Model) (bs : Bases) → OfBases N P bs → AllBy GivesPlacedBased (check_bases m bs)
      bases_give m source.no_bases h = tt
      bases_give m (source.a_base b bs) h = (based_gives m b h.0, bases_give m bs h.1)
