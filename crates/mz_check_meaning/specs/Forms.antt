-- Each form of an expression, by what types its parts: parts first, from left to right, and then the form's own premises.
use Rattle.std.specs.Prelude.{ℕ, Bool, true, false, List, [], ◌∷◌, ◌++◌, map, Option, Some, None, if◌then◌else◌, codes, Ok}
use Rattle.mz_base.specs.declared.fault.Span.{Span}
use Rattle.mz_base.specs.declared.kind.Kind.TheVariants as kind
use Rattle.mz_core.specs.Types.{PlainType}
use Rattle.mz_core.specs.Tree.{Tree, Gen, DeclaredType, Item, declares, constrains, node, text, type_of, place_of}
use Rattle.mz_tree.specs.Tree.{Name, op_before}
use Rattle.mz_tree.specs.declared.expr.UnOp.{UnOp}
use Rattle.mz_tree.specs.declared.expr.PlacedOp.{PlacedOp}
use Rattle.mz_tree.specs.declared.expr.BinOp.TheVariants as op
use Rattle.mz_check_meaning.specs.Tests.{Test, ◌>>=◌, ◌>>◌, refuse, loop, each, if_there}
use Rattle.mz_check_meaning.specs.Models.{Model, Env, bind}
use Rattle.mz_check_meaning.specs.Coerced.{fitted, text_type}
use Rattle.mz_check_meaning.specs.Calls.{applied, row_node}
use Rattle.mz_check_meaning.specs.Chains.{Operand, Chained, prefix_name, groups_right, from_left, appended, chain_node}
use Rattle.mz_check_meaning.specs.Arrays.{listed, tabled, set_literal, accessed}
use Rattle.mz_check_meaning.specs.Branches.{decided}
use Rattle.mz_check_meaning.specs.Comprehensions.{running_type, bind_names, comprehended}
use Rattle.mz_check_meaning.specs.WrittenTypes.{Based, of_bool, of_int, of_set, declared}
use Rattle.mz_check_meaning.specs.Lets.{new_name, decl_of, let_node}
use Rattle.mz_check_meaning.specs.Names.{bare_call}

-- how a part is typed
abbrev pub Check : Type 0
Check = Env → Test Tree

abbrev pub TypeCheck : Type 0
TypeCheck = Env → Test DeclaredType

abbrev pub part : Env → Check → Test Tree
part env go = go env

abbrev pub parts : List Check → Env → Test (List Tree)
parts gos env = each (part env) gos

abbrev pub maybe_part : Option Check → Env → Test (Option Tree)
maybe_part go env = if_there (part env) go

-- ---- operators

abbrev pub unary_of : Span → UnOp → Check → Check
unary_of at o go env = go env >>= λ e. row_node at (prefix_name o) (e ∷ [])

abbrev pub operand_of : PlacedOp → Tree → Operand
operand_of o e = record { operator = o; tree = e }

abbrev pub left_next : Span → Env → Chained → PlacedOp × Check → Test Chained
left_next at env acc o = o.1 env >>= λ e. from_left at acc (operand_of o.0 e)

abbrev pub from_left_of : Span → Tree → List (PlacedOp × Check) → Check
from_left_of at e os env = loop (left_next at env) (record { ty = type_of e; done = [] }) os >>= λ c. Ok (chain_node at e c)

abbrev pub operand : Env → PlacedOp × Check → Test Operand
operand env o = o.1 env >>= λ e. Ok (operand_of o.0 e)

abbrev pub from_right_of : Span → Tree → List (PlacedOp × Check) → Check
from_right_of at e os env = each (operand env) os >>= λ es. appended at e es

abbrev pub grouped_of : Bool → Span → Tree → List (PlacedOp × Check) → Check
grouped_of true at e os env = from_right_of at e os env
grouped_of false at e os env = from_left_of at e os env

-- the operators of a chain are of one level
abbrev pub group_right : List (PlacedOp × Check) → Bool
group_right [] = false
group_right (o ∷ os) = groups_right o.0.op

abbrev pub chain_of : Span → Check → List (PlacedOp × Check) → Check
chain_of at go os env = go env >>= λ e. grouped_of (group_right os) at e os env

-- ---- calls

-- `f()` is a bare name
abbrev pub call_of : Model → Span → Name → List Check → Check
call_of m at n [] env = bare_call m env at n
call_of m at n (go ∷ gos) env = parts (go ∷ gos) env >>= λ es. applied m at n es

-- ---- arrays, sets, accesses

abbrev pub array_of : Span → List Check → Check
array_of at gos env = parts gos env >>= λ es. listed at es

abbrev pub row_parts : Env → List Check → Test (List Tree)
row_parts env gos = parts gos env

abbrev pub rows_of : Span → List (List Check) → Check
rows_of at rs env = each (row_parts env) rs >>= λ ts. tabled at ts

abbrev pub set_of : Span → List Check → Check
set_of at gos env = parts gos env >>= λ es. set_literal at es

abbrev pub access_of : Span → Check → List Check → Check
access_of at go gos env = do
  a ← go env
  es ← parts gos env
  accessed at a es

-- ---- `if`

-- conditions, and what stands after the `then` of each
pub record Branched : Type 0 where
  pub conds : List Tree
  pub thens : List Tree

abbrev pub branch_next : Env → Branched → Check × Check → Test Branched
branch_next env acc b = do
  c ← b.0 env
  e ← b.1 env
  Ok (record { conds = acc.conds ++ c ∷ []; thens = acc.thens ++ e ∷ [] })

abbrev pub choice_of : Span → List (Check × Check) → Option Check → Check
choice_of at bs els env = do
  b ← loop (branch_next env) (record { conds = []; thens = [] }) bs
  e ← maybe_part els env
  decided at b.conds b.thens e

-- ---- comprehensions

pub record GenCheck : Type 0 where
  pub names : List (Name × Span)
  pub set : Check
  pub cond : Option Check

-- the generators that are typed, and the names in scope after them
pub record Generated : Type 0 where
  pub gens : List Gen
  pub env : Env

-- A set is tested before its names are bound, and a name that was bound in this comprehension before is refused then. The `where` comes
-- after them
abbrev pub gen_next : ℕ → Generated → GenCheck → Test Generated
gen_next start acc g = do
  s ← g.set acc.env
  t ← running_type s
  b ← bind_names start t g.names acc.env
  c ← maybe_part g.cond b.env
  Ok (record { gens = acc.gens ++ record { slots = b.slots; set = s; cond = c } ∷ []; env = b.env })

abbrev pub generators : List GenCheck → Env → Test Generated
generators gs env = loop (gen_next env.next) (record { gens = []; env = env }) gs

abbrev pub comp_of : Span → Bool → List GenCheck → Check → Check
comp_of at braces gs head env = do
  g ← generators gs env
  e ← head g.env
  comprehended at braces g.gens e

-- `f(i in S)(e)` is `f([e | i in S])`, and the comprehension has the place of the call
abbrev pub gen_call_of : Model → Span → Name → List GenCheck → Check → Check
gen_call_of m at n gs head env = comp_of at false gs head env >>= λ e. applied m at n (e ∷ [])

-- ---- written types

abbrev pub based_part : Env → Based Check → Test (Based Tree)
based_part env of_bool = Ok of_bool
based_part env of_int = Ok of_int
based_part env (of_set go) = go env >>= λ e. Ok (of_set e)

abbrev pub written_of : Span → Bool → Bool → Bool → List (Based Check) → Based Check → TypeCheck
written_of at var opt set dims base env = do
  ds ← each (based_part env) dims
  b ← based_part env base
  declared at var opt set ds b

-- ---- lets

pub data LetCheck : Type 0 where
  declares_by : TypeCheck → Name → Span → Option Check → LetCheck
  constrains_by : Check → LetCheck

pub record Declared : Type 0 where
  pub items : List Item
  pub env : Env

-- a par name has a value, which the tests of names find too
abbrev pub local_value : Span → PlainType → Option Check → Env → Test (Option Tree)
local_value at t None env = if t.var then Ok None else refuse kind.MissingData at
local_value at t (Some go) env = do
  e ← go env
  v ← fitted e t
  Ok (Some v)

-- the type, then the name, then the value, in which the name isn't bound yet
abbrev pub let_next : ℕ → Declared → LetCheck → Test Declared
let_next start acc (declares_by go n at value) = do
  t ← go acc.env
  new_name start n at acc.env
  v ← local_value at t.ty value acc.env
  Ok (record { items = acc.items ++ declares (decl_of acc.env n at t v) ∷ []; env = bind n t.ty acc.env })
let_next start acc (constrains_by go) = do
  e ← go acc.env
  Ok (record { items = acc.items ++ constrains e ∷ []; env = acc.env })

abbrev pub let_of : Span → List LetCheck → Check → Check
let_of at ls body env = do
  d ← loop (let_next env.next) (record { items = []; env = env }) ls
  e ← body d.env
  let_node at d.items e

-- ---- texts

pub data PieceCheck : Type 0 where
  plain_by : Name → PieceCheck
  shown_by : Check → PieceCheck

-- a piece has the text's place; what is shown in it, its own
abbrev pub piece : Span → Env → PieceCheck → Test Tree
piece at env (plain_by n) = Ok (node at text_type (text n))
piece at env (shown_by go) = go env >>= λ e. row_node (place_of e) (codes "show") (e ∷ [])

-- a piece after the first one
abbrev pub next_piece : Tree → Operand
next_piece e = operand_of (op_before op.Concat (place_of e)) e

-- `"a\(e)b"` is `"a" ++ (show(e) ++ "b")`. A text has a piece
abbrev pub texted : Span → List Tree → Test Tree
texted at [] = refuse kind.Syntax at
texted at (e ∷ []) = Ok e
texted at (e ∷ f ∷ es) = appended at e (map next_piece (f ∷ es))

abbrev pub text_of : Span → List PieceCheck → Check
text_of at ps env = each (piece at env) ps >>= λ es. texted at es
