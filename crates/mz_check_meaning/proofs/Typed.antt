-- The nodes of what an expression is typed to are so, where the texts in the expression are allowed.
use Rattle.std.proofs.Common.{◌≡◌, ℕ, Bool, true, false, List, [], ◌∷◌, ◌++◌, Option, Some, None, Ok, Err, map, refl}
use Rattle.std.specs.Prelude.{codes, is_none, if◌then◌else◌}
use Rattle.mz_base.specs.declared.kind.Kind.TheVariants as kind
use Rattle.mz_base.specs.declared.fault.Span.{Span}
use Rattle.mz_core.specs.Types.{PlainType}
use Rattle.mz_core.specs.Tree.{Tree, DeclaredType, declares, constrains, type_of, place_of}
use Rattle.mz_tree.specs.declared.expr.UnOp.{UnOp}
use Rattle.mz_tree.specs.declared.expr.PlacedOp.{PlacedOp}
use Rattle.mz_tree.specs.Tree as source
use Rattle.mz_tree.specs.Tree.{Name, Shape, Maybe, Trees, Links, Rows, Branches, Part, Parts, Generator, Gens, Let, Lets, Declaration, Written, Dims, Bases}
use Rattle.mz_tree.specs.Kinds.{OfTree, OfShape, OfMaybe, OfTrees, OfLinks, OfRows, OfBranches, OfPart, OfParts, OfGenerator, OfGens, OfLet, OfLets, OfDeclaration, OfWritten, OfBased, OfDims, OfBases}
use Rattle.mz_tree.proofs.Anything.{AnyPlace}
use Rattle.mz_check_meaning.specs.declared.meaning.Meaning.{Meaning}
use Rattle.mz_check_meaning.specs.declared.meaning.Meaning.TheVariants as meaning
use Rattle.mz_check_meaning.specs.Tests.{Test, ◌>>=◌, ◌>>◌, refuse, loop, each, maybe_some}
use Rattle.mz_check_meaning.specs.Models.{Model, Env, Local, bind, local_in, entry_of, type_of_decl, heading_of}
use Rattle.mz_check_meaning.specs.Coerced.{fitted}
use Rattle.mz_check_meaning.specs.Calls.{applied, row_node}
use Rattle.mz_check_meaning.specs.Chains.{Chained, prefix_name, from_left, appended, chain_node}
use Rattle.mz_check_meaning.specs.Arrays.{listed, tabled, set_literal, accessed}
use Rattle.mz_check_meaning.specs.Branches.{decided}
use Rattle.mz_check_meaning.specs.Comprehensions.{Bound, running_type, bind_names, comprehended}
use Rattle.mz_check_meaning.specs.Lets.{new_name, decl_of, let_node}
use Rattle.mz_check_meaning.specs.Names.{decl_node, bare_node, meant, named_or, named, function_meant, bare_or, bare_call}
use Rattle.mz_check_meaning.specs.WrittenTypes.{Based, of_bool, of_int, of_set, declared}
use Rattle.mz_check_meaning.specs.Forms.{Check, TypeCheck, part, parts, maybe_part, unary_of, operand_of, next_piece, left_next, from_left_of, operand, from_right_of, grouped_of, group_right, chain_of, call_of, array_of, row_parts, rows_of, set_of, access_of, Branched, branch_next, choice_of, GenCheck, Generated, gen_next, generators, comp_of, gen_call_of, based_part, written_of, LetCheck, declares_by, constrains_by, Declared, local_value, let_next, let_of, PieceCheck, plain_by, shown_by, piece, texted, text_of}
use Rattle.mz_check_meaning.specs.Typing.{check, check_form, check_maybe, checks, check_links, check_rows, check_branches, check_piece, check_pieces, check_gen, check_gens, check_let, check_lets, check_declaration, check_written, check_based, check_dims, check_bases}
use Rattle.mz_core.specs.Nodes.{nodes_in}
use Rattle.mz_check_meaning.proofs.Giving.{AllBy, all_both, all_mapped, Gives, gives_then, gives_after, loop_gives, each_gives}
use Rattle.mz_check_meaning.proofs.Rules.{Rules}
use Rattle.mz_check_meaning.proofs.Leaves as leaves
use Rattle.mz_check_meaning.proofs.Leaves.{IsKept, AreKept, IsKeptMaybe, IsKeptOperand, IsKeptChain, IsKeptGen, IsKeptType, IsKeptLocal, IsKeptBased}

module _ (rules : Rules) where
  -- ---- names

  meant_kept : (m : Model) (output : Bool) (at : Span) (o : Option Meaning) → Gives (meant m output at o) (IsKept rules)
  unfolding meant nodes_in
  meant_kept m output at None = tt
  meant_kept m output at (Some (meaning.Decl d)) = gives_after (IsKept rules) (type_of_decl m at d) (λ t. Ok (decl_node output at d t)) (λ t. (rules.plain _ _ _ tt, tt))
  meant_kept m output at (Some (meaning.Function f)) = gives_after (IsKept rules) (heading_of m at f) (λ h. Ok (bare_node at f h)) (λ h. (rules.plain _ _ _ tt, tt))
  meant_kept m output at (Some (meaning.Enum e)) = (rules.plain _ _ _ tt, tt)
  meant_kept m output at (Some (meaning.Case e k)) = (rules.plain _ _ _ tt, tt)

  named_or_kept : (m : Model) (env : Env) (at : Span) (n : Name) (o : Option Local) → Gives (named_or m env at n o) (IsKept rules)
  unfolding nodes_in
  named_or_kept m env at n (Some l) = (rules.plain _ _ _ tt, tt)
  named_or_kept m env at n None = meant_kept m env.output at (entry_of n m.names)

  named_kept : (m : Model) (env : Env) (at : Span) (n : Name) → Gives (named m env at n) (IsKept rules)
  unfolding named
  named_kept m env at n = named_or_kept m env at n (local_in n env.locals)

  function_kept : (m : Model) (at : Span) (o : Option Meaning) → Gives (function_meant m at o) (IsKept rules)
  unfolding nodes_in
  function_kept m at (Some (meaning.Function f)) = gives_after (IsKept rules) (heading_of m at f) (λ h. Ok (bare_node at f h)) (λ h. (rules.plain _ _ _ tt, tt))
  function_kept m at (Some (meaning.Decl d)) = tt
  function_kept m at (Some (meaning.Enum e)) = tt
  function_kept m at (Some (meaning.Case e k)) = tt
  function_kept m at None = tt

  bare_or_kept : (m : Model) (at : Span) (n : Name) (o : Option Local) → Gives (bare_or m at n o) (IsKept rules)
  bare_or_kept m at n (Some l) = tt
  bare_or_kept m at n None = function_kept m at (entry_of n m.names)

  bare_kept : (m : Model) (env : Env) (at : Span) (n : Name) → Gives (bare_call m env at n) (IsKept rules)
  unfolding bare_call
  bare_kept m env at n = bare_or_kept m at n (local_in n env.locals)

  -- ---- parts

  abbrev pub Keeps : Check → Type 0
  Keeps go = (env : Env) → Gives (go env) (IsKept rules)

  abbrev pub KeepsMaybe : Option Check → Type 0
  KeepsMaybe None = Unit {0}
  KeepsMaybe (Some go) = Keeps go

  abbrev pub KeepsType : TypeCheck → Type 0
  KeepsType go = (env : Env) → Gives (go env) (IsKeptType rules)

  abbrev pub KeepsGen : GenCheck → Type 0
  KeepsGen g = Keeps g.set × KeepsMaybe g.cond

  abbrev pub KeepsBased : Based Check → Type 0
  KeepsBased of_bool = Unit {0}
  KeepsBased of_int = Unit {0}
  KeepsBased (of_set go) = Keeps go

  abbrev pub KeepsLet : LetCheck → Type 0
  KeepsLet (declares_by go n at v) = KeepsType go × KeepsMaybe v
  KeepsLet (constrains_by go) = Keeps go

  abbrev pub KeepsPiece : PieceCheck → Type 0
  KeepsPiece (plain_by n) = rules.allows n
  KeepsPiece (shown_by go) = Keeps go

  at_env : (gos : List Check) (env : Env) → AllBy Keeps gos → AllBy (λ go. Gives (part env go) (IsKept rules)) gos
  at_env [] env h = tt
  at_env (go ∷ gos) env h = (h.0 env, at_env gos env h.1)

  parts_kept : (gos : List Check) (env : Env) → AllBy Keeps gos → Gives (parts gos env) (AreKept rules)
  parts_kept gos env h = each_gives (IsKept rules) (part env) gos (at_env gos env h)

  some_kept : (t : Test Tree) → Gives t (IsKept rules) → Gives (maybe_some t) (IsKeptMaybe rules)
  some_kept (Ok e) h = h
  some_kept (Err f) h = tt

  maybe_kept : (go : Option Check) (env : Env) → KeepsMaybe go → Gives (maybe_part go env) (IsKeptMaybe rules)
  maybe_kept None env h = tt
  maybe_kept (Some go) env h = some_kept (go env) (h env)

  -- ---- operators

  unary_kept : (at : Span) (o : UnOp) (go : Check) → Keeps go → Keeps (unary_of at o go)
  unary_kept at o go h env = gives_then (IsKept rules) (IsKept rules) (go env) (λ e. row_node at (prefix_name o) (e ∷ [])) (h env) (λ e k. leaves.row_kept rules at (prefix_name o) (e ∷ []) (k, tt))

  lefts_kept : (at : Span) (env : Env) (os : List (PlacedOp × Check)) → AllBy (λ o. Keeps o.1) os → AllBy (λ o. (s : Chained) → IsKeptChain rules s → Gives (left_next at env s o) (IsKeptChain rules)) os
  lefts_kept at env [] h = tt
  lefts_kept at env (o ∷ os) h =
      ((λ s k. gives_then (IsKept rules) (IsKeptChain rules) (o.1 env) (λ e. from_left at s (operand_of o.0 e)) (h.0 env) (λ e l. leaves.left_kept rules at s (operand_of o.0 e) k l)), lefts_kept at env os h.1)

  from_left_kept : (at : Span) (e : Tree) (os : List (PlacedOp × Check)) (env : Env) → IsKept rules e → AllBy (λ o. Keeps o.1) os → Gives (from_left_of at e os env) (IsKept rules)
  from_left_kept at e os env h k =
      gives_then (IsKeptChain rules) (IsKept rules) (loop (left_next at env) (record { ty = type_of e; done = [] }) os) (λ c. Ok (chain_node at e c))
      (loop_gives (IsKeptChain rules) (left_next at env) (record { ty = type_of e; done = [] }) os tt (lefts_kept at env os k))
      (λ c l. leaves.chain_kept rules at e c h l)

  operands_kept : (env : Env) (os : List (PlacedOp × Check)) → AllBy (λ o. Keeps o.1) os → AllBy (λ o. Gives (operand env o) (IsKeptOperand rules)) os
  operands_kept env [] h = tt
  operands_kept env (o ∷ os) h = (gives_then (IsKept rules) (IsKeptOperand rules) (o.1 env) (λ e. Ok (operand_of o.0 e)) (h.0 env) (λ e k. k), operands_kept env os h.1)

  from_right_kept : (at : Span) (e : Tree) (os : List (PlacedOp × Check)) (env : Env) → IsKept rules e → AllBy (λ o. Keeps o.1) os → Gives (from_right_of at e os env) (IsKept rules)
  from_right_kept at e os env h k =
      gives_then (AllBy (IsKeptOperand rules)) (IsKept rules) (each (operand env) os) (λ es. appended at e es) (each_gives (IsKeptOperand rules) (operand env) os (operands_kept env os k))
      (λ es l. leaves.appended_kept rules at e es h l)

  grouped_kept : (b : Bool) (at : Span) (e : Tree) (os : List (PlacedOp × Check)) (env : Env) → IsKept rules e → AllBy (λ o. Keeps o.1) os → Gives (grouped_of b at e os env) (IsKept rules)
  grouped_kept true at e os env h k = from_right_kept at e os env h k
  grouped_kept false at e os env h k = from_left_kept at e os env h k

  chain_kept : (at : Span) (go : Check) (os : List (PlacedOp × Check)) → Keeps go → AllBy (λ o. Keeps o.1) os → Keeps (chain_of at go os)
  chain_kept at go os h k env = gives_then (IsKept rules) (IsKept rules) (go env) (λ e. grouped_of (group_right os) at e os env) (h env) (λ e l. grouped_kept (group_right os) at e os env l k)

  -- ---- calls, literals and accesses

  call_kept : (m : Model) (at : Span) (n : Name) (gos : List Check) → AllBy Keeps gos → Keeps (call_of m at n gos)
  call_kept m at n [] h env = bare_kept m env at n
  call_kept m at n (go ∷ gos) h env = gives_then (AreKept rules) (IsKept rules) (parts (go ∷ gos) env) (λ es. applied m at n es) (parts_kept (go ∷ gos) env h) (λ es k. leaves.applied_kept rules m at n es k)

  array_kept : (at : Span) (gos : List Check) → AllBy Keeps gos → Keeps (array_of at gos)
  array_kept at gos h env = gives_then (AreKept rules) (IsKept rules) (parts gos env) (λ es. listed at es) (parts_kept gos env h) (λ es k. leaves.listed_kept rules at es k)

  all_rows_kept : (env : Env) (rs : List (List Check)) → AllBy (AllBy Keeps) rs → AllBy (λ r. Gives (row_parts env r) (AreKept rules)) rs
  all_rows_kept env [] h = tt
  all_rows_kept env (r ∷ rs) h = (parts_kept r env h.0, all_rows_kept env rs h.1)

  rows_kept : (at : Span) (rs : List (List Check)) → AllBy (AllBy Keeps) rs → Keeps (rows_of at rs)
  rows_kept at rs h env = gives_then (AllBy (AreKept rules)) (IsKept rules) (each (row_parts env) rs) (λ ts. tabled at ts) (each_gives (AreKept rules) (row_parts env) rs (all_rows_kept env rs h)) (λ ts k. leaves.tabled_kept rules at ts k)

  set_kept : (at : Span) (gos : List Check) → AllBy Keeps gos → Keeps (set_of at gos)
  set_kept at gos h env = gives_then (AreKept rules) (IsKept rules) (parts gos env) (λ es. set_literal at es) (parts_kept gos env h) (λ es k. leaves.set_kept rules at es k)

  access_kept : (at : Span) (go : Check) (gos : List Check) → Keeps go → AllBy Keeps gos → Keeps (access_of at go gos)
  access_kept at go gos h k env =
      gives_then (IsKept rules) (IsKept rules) (go env) (λ a. parts gos env >>= λ es. accessed at a es) (h env) (λ a l.
      gives_then (AreKept rules) (IsKept rules) (parts gos env) (λ es. accessed at a es) (parts_kept gos env k) (λ es r. leaves.access_kept rules at a es l r))

  -- ---- `if`

  abbrev AreBranched : Branched → Type 0
  AreBranched b = AreKept rules b.conds × AreKept rules b.thens

  one_branch : (env : Env) (b : Check × Check) (s : Branched) → Keeps b.0 × Keeps b.1 → AreBranched s → Gives (branch_next env s b) AreBranched
  one_branch env b s h k =
      let last : Tree → Tree → Test Branched = λ c e. Ok (record { conds = s.conds ++ c ∷ []; thens = s.thens ++ e ∷ [] }) in
      let next : Tree → Test Branched = λ c. b.1 env >>= λ e. last c e in
      gives_then (IsKept rules) AreBranched (b.0 env) next (h.0 env) (λ c l.
      gives_then (IsKept rules) AreBranched (b.1 env) (last c) (h.1 env) (λ e r.
      (all_both (IsKept rules) s.conds (c ∷ []) k.0 (l, tt), all_both (IsKept rules) s.thens (e ∷ []) k.1 (r, tt))))

  nexts_kept : (env : Env) (bs : List (Check × Check)) → AllBy (λ b. Keeps b.0 × Keeps b.1) bs → AllBy (λ b. (s : Branched) → AreBranched s → Gives (branch_next env s b) AreBranched) bs
  nexts_kept env [] h = tt
  nexts_kept env (b ∷ bs) h =
      ((λ s k. one_branch env b s h.0 k), nexts_kept env bs h.1)

  choice_kept : (at : Span) (bs : List (Check × Check)) (els : Option Check) → AllBy (λ b. Keeps b.0 × Keeps b.1) bs → KeepsMaybe els → Keeps (choice_of at bs els)
  choice_kept at bs els h k env =
      gives_then AreBranched (IsKept rules) (loop (branch_next env) (record { conds = []; thens = [] }) bs) (λ b. maybe_part els env >>= λ e. decided at b.conds b.thens e)
      (loop_gives AreBranched (branch_next env) (record { conds = []; thens = [] }) bs (tt, tt) (nexts_kept env bs h)) (λ b l.
      gives_then (IsKeptMaybe rules) (IsKept rules) (maybe_part els env) (λ e. decided at b.conds b.thens e) (maybe_kept els env k) (λ e r. leaves.decided_kept rules at b.conds b.thens e l.0 l.1 r))

  -- ---- comprehensions

  abbrev AreGenerated : Generated → Type 0
  AreGenerated g = AllBy (IsKeptGen rules) g.gens

  one_gen : (start : ℕ) (g : GenCheck) (s : Generated) → KeepsGen g → AreGenerated s → Gives (gen_next start s g) AreGenerated
  one_gen start g s h k =
      let last : Tree → Bound → Option Tree → Test Generated = λ e b c. Ok (record { gens = s.gens ++ record { slots = b.slots; set = e; cond = c } ∷ []; env = b.env }) in
      let with_names : Tree → Bound → Test Generated = λ e b. maybe_part g.cond b.env >>= λ c. last e b c in
      let with_type : Tree → PlainType → Test Generated = λ e t. bind_names start t g.names s.env >>= λ b. with_names e b in
      let with_set : Tree → Test Generated = λ e. running_type e >>= λ t. with_type e t in
      gives_then (IsKept rules) AreGenerated (g.set s.env) with_set (h.0 s.env) (λ e l.
      gives_after AreGenerated (running_type e) (with_type e) (λ t.
      gives_after AreGenerated (bind_names start t g.names s.env) (with_names e) (λ b.
      gives_then (IsKeptMaybe rules) AreGenerated (maybe_part g.cond b.env) (last e b) (maybe_kept g.cond b.env h.1) (λ c r.
      all_both (IsKeptGen rules) s.gens (record { slots = b.slots; set = e; cond = c } ∷ []) k ((l, r), tt)))))

  gens_next : (start : ℕ) (gs : List GenCheck) → AllBy KeepsGen gs → AllBy (λ g. (s : Generated) → AreGenerated s → Gives (gen_next start s g) AreGenerated) gs
  gens_next start [] h = tt
  gens_next start (g ∷ gs) h = ((λ s k. one_gen start g s h.0 k), gens_next start gs h.1)

  comp_kept : (at : Span) (braces : Bool) (gs : List GenCheck) (head : Check) → AllBy KeepsGen gs → Keeps head → Keeps (comp_of at braces gs head)
  comp_kept at braces gs head h k env =
      gives_then AreGenerated (IsKept rules) (generators gs env) (λ g. head g.env >>= λ e. comprehended at braces g.gens e)
      (loop_gives AreGenerated (gen_next env.next) (record { gens = []; env = env }) gs tt (gens_next env.next gs h)) (λ g l.
      gives_then (IsKept rules) (IsKept rules) (head g.env) (λ e. comprehended at braces g.gens e) (k g.env) (λ e r. leaves.comprehended_kept rules at braces g.gens e l r))

  gen_call_kept : (m : Model) (at : Span) (n : Name) (gs : List GenCheck) (head : Check) → AllBy KeepsGen gs → Keeps head → Keeps (gen_call_of m at n gs head)
  gen_call_kept m at n gs head h k env = gives_then (IsKept rules) (IsKept rules) (comp_of at false gs head env) (λ e. applied m at n (e ∷ [])) (comp_kept at false gs head h k env) (λ e l. leaves.applied_kept rules m at n (e ∷ []) (l, tt))

  -- ---- written types

  one_based : (env : Env) (b : Based Check) → KeepsBased b → Gives (based_part env b) (IsKeptBased rules)
  one_based env of_bool h = tt
  one_based env of_int h = tt
  one_based env (of_set go) h = gives_then (IsKept rules) (IsKeptBased rules) (go env) (λ e. Ok (of_set e)) (h env) (λ e k. k)

  all_based : (env : Env) (bs : List (Based Check)) → AllBy KeepsBased bs → AllBy (λ b. Gives (based_part env b) (IsKeptBased rules)) bs
  all_based env [] h = tt
  all_based env (b ∷ bs) h = (one_based env b h.0, all_based env bs h.1)

  written_kept : (at : Span) (var opt set : Bool) (dims : List (Based Check)) (b : Based Check) → AllBy KeepsBased dims → KeepsBased b → KeepsType (written_of at var opt set dims b)
  written_kept at var opt set dims b h k env =
      gives_then (AllBy (IsKeptBased rules)) (IsKeptType rules) (each (based_part env) dims) (λ ds. based_part env b >>= λ c. declared at var opt set ds c) (each_gives (IsKeptBased rules) (based_part env) dims (all_based env dims h)) (λ ds l.
      gives_then (IsKeptBased rules) (IsKeptType rules) (based_part env b) (λ c. declared at var opt set ds c) (one_based env b k) (λ c r. leaves.declared_kept rules at var opt set ds c l r))

  -- ---- lets

  -- a declared value, which a par name has
  abbrev pub IsKeptValue : Bool → Option Tree → Type 0
  IsKeptValue var v = IsKeptMaybe rules v × (var ≡ false → is_none v ≡ false)

  none_kept : (at : Span) (b : Bool) → Gives (if b then Ok None else refuse kind.MissingData at) (IsKeptValue b)
  none_kept at true = (tt, λ p. absurd (cc p))
  none_kept at false = tt

  value_kept : (at : Span) (t : PlainType) (v : Option Check) (env : Env) → KeepsMaybe v → Gives (local_value at t v env) (IsKeptValue t.var)
  value_kept at t None env h = none_kept at t.var
  value_kept at t (Some go) env h =
      gives_then (IsKept rules) (IsKeptValue t.var) (go env) (λ e. fitted e t >>= λ w. Ok (Some w)) (h env) (λ e k.
      gives_then (IsKept rules) (IsKeptValue t.var) (fitted e t) (λ w. Ok (Some w)) (leaves.fitted_kept rules e t k) (λ w l. (l, λ p. refl)))

  abbrev AreDeclared : Declared → Type 0
  AreDeclared d = AllBy (IsKeptLocal rules) d.items

  one_let : (start : ℕ) (l : LetCheck) (s : Declared) → KeepsLet l → AreDeclared s → Gives (let_next start s l) AreDeclared
  one_let start (declares_by go n at v) s h k =
      let last : DeclaredType → Option Tree → Test Declared = λ t w. Ok (record { items = s.items ++ declares (decl_of s.env n at t w) ∷ []; env = bind n t.ty s.env }) in
      let with_value : DeclaredType → Test Declared = λ t. local_value at t.ty v s.env >>= λ w. last t w in
      let with_type : DeclaredType → Test Declared = λ t. new_name start n at s.env >> with_value t in
      gives_then (IsKeptType rules) AreDeclared (go s.env) with_type (h.0 s.env) (λ t l.
      gives_after AreDeclared (new_name start n at s.env) (λ u. with_value t) (λ u.
      gives_then (IsKeptValue t.ty.var) AreDeclared (local_value at t.ty v s.env) (last t) (value_kept at t.ty v s.env h.1) (λ w r.
      all_both (IsKeptLocal rules) s.items (declares (decl_of s.env n at t w) ∷ []) k (((l, r.0), r.1), tt))))
  one_let start (constrains_by go) s h k =
      gives_then (IsKept rules) AreDeclared (go s.env) (λ e. Ok (record { items = s.items ++ constrains e ∷ []; env = s.env })) (h s.env) (λ e l. all_both (IsKeptLocal rules) s.items (constrains e ∷ []) k ((l, tt), tt))

  all_lets : (start : ℕ) (ls : List LetCheck) → AllBy KeepsLet ls → AllBy (λ l. (s : Declared) → AreDeclared s → Gives (let_next start s l) AreDeclared) ls
  all_lets start [] h = tt
  all_lets start (l ∷ ls) h = ((λ s k. one_let start l s h.0 k), all_lets start ls h.1)

  let_kept : (at : Span) (ls : List LetCheck) (body : Check) → AllBy KeepsLet ls → Keeps body → Keeps (let_of at ls body)
  let_kept at ls body h k env =
      gives_then AreDeclared (IsKept rules) (loop (let_next env.next) (record { items = []; env = env }) ls) (λ d. body d.env >>= λ e. let_node at d.items e)
      (loop_gives AreDeclared (let_next env.next) (record { items = []; env = env }) ls tt (all_lets env.next ls h)) (λ d l.
      gives_then (IsKept rules) (IsKept rules) (body d.env) (λ e. let_node at d.items e) (k d.env) (λ e r. leaves.let_kept rules at d.items e l r))

  -- ---- texts

  piece_kept : (at : Span) (env : Env) (p : PieceCheck) → KeepsPiece p → Gives (piece at env p) (IsKept rules)
  unfolding nodes_in
  piece_kept at env (plain_by n) h = (rules.text _ _ n h, tt)
  piece_kept at env (shown_by go) h = gives_then (IsKept rules) (IsKept rules) (go env) (λ e. row_node (place_of e) (codes "show") (e ∷ [])) (h env) (λ e k. leaves.row_kept rules (place_of e) (codes "show") (e ∷ []) (k, tt))

  all_pieces : (at : Span) (env : Env) (ps : List PieceCheck) → AllBy KeepsPiece ps → AllBy (λ p. Gives (piece at env p) (IsKept rules)) ps
  all_pieces at env [] h = tt
  all_pieces at env (p ∷ ps) h = (piece_kept at env p h.0, all_pieces at env ps h.1)

  concatenated_kept : (at : Span) (es : List Tree) → AreKept rules es → Gives (texted at es) (IsKept rules)
  concatenated_kept at [] h = tt
  concatenated_kept at (e ∷ []) h = h.0
  concatenated_kept at (e ∷ f ∷ es) h = leaves.appended_kept rules at e (map next_piece (f ∷ es)) h.0 (all_mapped (IsKept rules) (IsKeptOperand rules) next_piece (f ∷ es) (λ x k. k) h.1)

  text_kept : (at : Span) (ps : List PieceCheck) → AllBy KeepsPiece ps → Keeps (text_of at ps)
  text_kept at ps h env = gives_then (AreKept rules) (IsKept rules) (each (piece at env) ps) (λ es. texted at es) (each_gives (IsKept rules) (piece at env) ps (all_pieces at env ps h)) (λ es k. concatenated_kept at es k)

  -- ---- all forms

  mutual
    unfolding OfTree check nodes_in

    pub tree_keeps : (m : Model) (e : source.Tree) → OfTree rules.allows AnyPlace e → Keeps (check m e)
    tree_keeps m (source.node at f) h = form_keeps m f at h.1

    form_keeps : (m : Model) (f : Shape) (at : Span) → OfShape rules.allows AnyPlace f → Keeps (check_form m f at)
    form_keeps m (source.int n) at h env = (rules.plain _ _ _ tt, tt)
    form_keeps m (source.bool b) at h env = (rules.plain _ _ _ tt, tt)
    form_keeps m source.absent at h env = (rules.plain _ _ _ tt, tt)
    form_keeps m (source.text n) at h env = (rules.text _ _ n h, tt)
    form_keeps m (source.ident n) at h env = named_kept m env at n
    form_keeps m (source.interp ps) at h env = text_kept at (check_pieces m ps) (pieces_keep m ps h) env
    form_keeps m (source.unary o e) at h env = unary_kept at o (check m e) (tree_keeps m e h) env
    form_keeps m (source.chain e ls) at h env = chain_kept at (check m e) (check_links m ls) (tree_keeps m e h.0) (links_keep m ls h.1) env
    form_keeps m (source.call n es) at h env = call_kept m at n (checks m es) (trees_keep m es h.1) env
    form_keeps m (source.gen_call n gs e) at h env = gen_call_kept m at n (check_gens m gs) (check m e) (gens_keep m gs h.1) (tree_keeps m e h.2) env
    form_keeps m (source.access e es) at h env = access_kept at (check m e) (checks m es) (tree_keeps m e h.0) (trees_keep m es h.1) env
    form_keeps m (source.array es) at h env = array_kept at (checks m es) (trees_keep m es h) env
    form_keeps m (source.rows rs) at h env = rows_kept at (check_rows m rs) (rows_keep m rs h) env
    form_keeps m (source.set es) at h env = set_kept at (checks m es) (trees_keep m es h) env
    form_keeps m (source.array_comp e gs) at h env = comp_kept at false (check_gens m gs) (check m e) (gens_keep m gs h.1) (tree_keeps m e h.0) env
    form_keeps m (source.set_comp e gs) at h env = comp_kept at true (check_gens m gs) (check m e) (gens_keep m gs h.1) (tree_keeps m e h.0) env
    form_keeps m (source.choice bs e) at h env = choice_kept at (check_branches m bs) (check_maybe m e) (branches_keep m bs h.0) (maybe_keeps m e h.1) env
    form_keeps m (source.let_in ls e) at h env = let_kept at (check_lets m ls) (check m e) (lets_keep m ls h.0) (tree_keeps m e h.1) env
    form_keeps m source.whole at h env = tt

    pub maybe_keeps : (m : Model) (e : Maybe) → OfMaybe rules.allows AnyPlace e → KeepsMaybe (check_maybe m e)
    maybe_keeps m source.nothing h = tt
    maybe_keeps m (source.just e) h = tree_keeps m e h

    trees_keep : (m : Model) (es : Trees) → OfTrees rules.allows AnyPlace es → AllBy Keeps (checks m es)
    trees_keep m source.no_trees h = tt
    trees_keep m (source.a_tree e es) h = (tree_keeps m e h.0, trees_keep m es h.1)

    links_keep : (m : Model) (ls : Links) → OfLinks rules.allows AnyPlace ls → AllBy (λ o. Keeps o.1) (check_links m ls)
    links_keep m source.no_links h = tt
    links_keep m (source.a_link o e ls) h = (tree_keeps m e h.1, links_keep m ls h.2)

    rows_keep : (m : Model) (rs : Rows) → OfRows rules.allows AnyPlace rs → AllBy (AllBy Keeps) (check_rows m rs)
    rows_keep m source.no_rows h = tt
    rows_keep m (source.a_row r rs) h = (trees_keep m r h.0, rows_keep m rs h.1)

    branches_keep : (m : Model) (bs : Branches) → OfBranches rules.allows AnyPlace bs → AllBy (λ b. Keeps b.0 × Keeps b.1) (check_branches m bs)
    branches_keep m source.no_branches h = tt
    branches_keep m (source.a_branch c e bs) h = ((tree_keeps m c h.0, tree_keeps m e h.1), branches_keep m bs h.2)

    piece_keeps : (m : Model) (p : Part) → OfPart rules.allows AnyPlace p → KeepsPiece (check_piece m p)
    piece_keeps m (source.plain n) h = h
    piece_keeps m (source.shown e) h = tree_keeps m e h

    pieces_keep : (m : Model) (ps : Parts) → OfParts rules.allows AnyPlace ps → AllBy KeepsPiece (check_pieces m ps)
    pieces_keep m source.no_parts h = tt
    pieces_keep m (source.a_part p ps) h = (piece_keeps m p h.0, pieces_keep m ps h.1)

    gen_keeps : (m : Model) (g : Generator) → OfGenerator rules.allows AnyPlace g → KeepsGen (check_gen m g)
    gen_keeps m (source.generator ns e c) h = (tree_keeps m e h.1, maybe_keeps m c h.2)

    gens_keep : (m : Model) (gs : Gens) → OfGens rules.allows AnyPlace gs → AllBy KeepsGen (check_gens m gs)
    gens_keep m source.no_gens h = tt
    gens_keep m (source.a_gen g gs) h = (gen_keeps m g h.0, gens_keep m gs h.1)

    let_keeps : (m : Model) (l : Let) → OfLet rules.allows AnyPlace l → KeepsLet (check_let m l)
    let_keeps m (source.declared d) h = declaration_keeps m d h
    let_keeps m (source.constrained e) h = tree_keeps m e h

    lets_keep : (m : Model) (ls : Lets) → OfLets rules.allows AnyPlace ls → AllBy KeepsLet (check_lets m ls)
    lets_keep m source.no_lets h = tt
    lets_keep m (source.a_let l ls) h = (let_keeps m l h.0, lets_keep m ls h.1)

    declaration_keeps : (m : Model) (d : Declaration) → OfDeclaration rules.allows AnyPlace d → KeepsLet (check_declaration m d)
    declaration_keeps m (source.declaration t n at e) h = (written_keeps m t h.0, maybe_keeps m e h.3)

    pub written_keeps : (m : Model) (t : Written) → OfWritten rules.allows AnyPlace t → KeepsType (check_written m t)
    written_keeps m (source.written at ds var opt set b) h env = written_kept at var opt set (check_dims m ds) (check_based m b) (dims_keep m ds h.1) (based_keeps m b h.2) env

    based_keeps : (m : Model) (b : source.Based) → OfBased rules.allows AnyPlace b → KeepsBased (check_based m b)
    based_keeps m source.base_bool h = tt
    based_keeps m source.base_int h = tt
    based_keeps m (source.base_of e) h = tree_keeps m e h

    dims_keep : (m : Model) (ds : Dims) → OfDims rules.allows AnyPlace ds → AllBy KeepsBased (check_dims m ds)
    dims_keep m source.no_array h = tt
    dims_keep m (source.array_of bs) h = bases_keep m bs h

    bases_keep : (m : Model) (bs : Bases) → OfBases rules.allows AnyPlace bs → AllBy KeepsBased (check_bases m bs)
    bases_keep m source.no_bases h = tt
    bases_keep m (source.a_base b bs) h = (based_keeps m b h.0, bases_keep m bs h.1)
