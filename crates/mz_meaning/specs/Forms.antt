-- What an expression means, form by form: names and literals, operators and built-ins, chains, arrays, sets, accesses and `if`. Parts are evaluated from left to right before the node; then the node's own work is counted, and then its own faults come.
use Rattle.std.specs.Prelude.{ℕ, ◌+◌, ℤ, pos, Bool, true, false, ◌||◌, List, [], ◌∷◌, ◌++◌, length, nat_eq, Option, Some, None, if◌then◌else◌}
use Rattle.mz_base.specs.declared.fault.Span.{Span}
use Rattle.mz_value.specs.Ranges.{range_of}
use Rattle.mz_value.specs.Contents as values
use Rattle.mz_value.specs.Contents.{Content}
use Rattle.mz_value.specs.Shown.{Names, names_of}
use Rattle.mz_core.specs.declared.types.Base.{Base}
use Rattle.mz_core.specs.Types.{PlainType}
use Rattle.mz_core.specs.Coercions.{PathLink}
use Rattle.mz_core.specs.Program.{Function}
use Rattle.mz_core.specs.Tree.{Tree, Step, type_of, place_of}
use Rattle.mz_operations.specs.declared.row.Row.{Row}
use Rattle.mz_globals.specs.declared.global.Global.{Global}
use Rattle.mz_meaning.specs.Runs.{Run, ◌>>=◌, ◌>>◌, give, spend, loop, when, weigh}
use Rattle.mz_meaning.specs.Cells.{Cell, Mode, Env, Test, Settled, Open, test_of, undefined, par_value, typed, length_of, or_zero}
use Rattle.mz_meaning.specs.Coerced.{coerced, coercion_work}
use Rattle.mz_meaning.specs.Operations.{row_at, row_cost, row_cell}
use Rattle.mz_meaning.specs.Globals.{global_of, call_cost, global_cell}
use Rattle.mz_meaning.specs.Arrays.{line_cell, table_cell, set_cell, access_cell, branch_cell}
use Rattle.mz_meaning.specs.Contexts.{Context, Untested, Positive, Other, elsewhere, elsewhere_if, closes, global_closes}
use Rattle.mz_meaning.specs.Chains.{Operator, Innermost, chained, same_level, before, first_in, right_in, closed_by, operand_base}

-- WHAT STAYS THE SAME IN A RUN: the program's functions, the names of its enums' cases and its texts; the budget; the range of a free `int`, from -n to n; the cells of top-level names; and the mode
pub record World : Type 0 where
  pub functions : List Function
  pub cases : Names
  pub texts : List (ℕ × List ℕ)
  pub budget : ℕ
  pub int_range : ℤ
  pub top : Env
  pub mode : Mode

-- how a part is evaluated
abbrev pub Eval : Type 0
Eval = Context → Tree → Env → Run Cell

-- a node's own work, and then its cell
abbrev pub done : World → Span → Cell → Run Cell
done w at c = spend w.budget at 1 >> give c

-- the elements of an array that is handed on are weight
abbrev pub handed : Mode → Cell → Run (Unit {0})
handed m c = weigh m (or_zero (length_of c))

-- one more of several parts
abbrev pub part : Eval → Context → Env → List Cell → Tree → Run (List Cell)
part go ctx env cells e = do
  c ← go ctx e env
  give (cells ++ c ∷ [])

abbrev pub parts : Eval → Context → List Tree → Env → Run (List Cell)
parts go ctx es env = loop (part go ctx env) [] es

-- ---- literals

abbrev pub text_at : List (ℕ × List ℕ) → ℕ → Option (List ℕ)
text_at [] n = None
text_at (t ∷ ts) n = if nat_eq t.0 n then Some t.1 else text_at ts n

abbrev pub text_cell : Option (List ℕ) → Cell
text_cell None = undefined
text_cell (Some t) = par_value (values.text t)

-- all cases of an enum, which are numbered from 1
abbrev pub all_cases : Names → ℕ → Content
all_cases names e = values.set (Some e) (range_of (pos 1) (pos (length (names_of names e))))

-- ---- coercions

abbrev pub coerced_once : World → Span → Cell → PathLink → Run Cell
coerced_once w at c l = spend w.budget at (coercion_work l.0 c) >> give (coerced w.mode l c)

-- at the place of the coerced node
abbrev pub coerced_by : World → Span → List PathLink → Cell → Run Cell
coerced_by w at ls c = loop (coerced_once w at) c ls

-- ---- operators and built-ins

-- a node counts 1, and its row's cost besides
abbrev pub operated_by : World → Span → PlainType → List Cell → Option Row → Run Cell
operated_by w at t cells None = done w at undefined
operated_by w at t cells (Some r) = do
  spend w.budget at (1 + row_cost r cells)
  row_cell w.mode w.cases r t at cells

-- the node of a row with this number, whose arguments have this base
abbrev pub operated : World → Span → PlainType → ℕ → Base → List Cell → Run Cell
operated w at t n b cells = do
  c ← operated_by w at t cells (row_at n b)
  give (typed w.mode false t c)

abbrev pub arguments_base : List Tree → PlainType → Base
arguments_base [] t = t.base
arguments_base (e ∷ es) t = (type_of e).base

abbrev pub arguments_in : Context → ℕ → Base → Context
arguments_in Untested n b = Untested
arguments_in Positive n b = elsewhere_if (closed_by closes b (row_at n b) || global_closes (global_of n)) Positive
arguments_in Other n b = Other

-- and so with a global
abbrev pub global_by : World → Span → List Cell → Option Global → Run Cell
global_by w at cells None = done w at undefined
global_by w at cells (Some g) = do
  spend w.budget at (1 + call_cost g cells)
  global_cell w.mode g at cells

-- a row, or a global where the number is none of a row
abbrev pub row_or_global : World → Span → PlainType → List Cell → Option Global → Option Row → Run Cell
row_or_global w at t cells g None = global_by w at cells g
row_or_global w at t cells g (Some r) = operated_by w at t cells (Some r)

abbrev pub builtin : World → Eval → Context → ℕ → List Tree → Span → PlainType → Env → Run Cell
builtin w go ctx n es at t env = do
  cells ← parts go (arguments_in ctx n (arguments_base es t)) es env
  row_or_global w at t cells (global_of n) (row_at n (arguments_base es t))

-- ---- chains

abbrev pub operand_place : Step → Span
operand_place s = place_of s.operand

-- each operator: its left operand's coercions, its right operand with its coercions, its node; this node is the next one's left operand
abbrev pub operators : World → Eval → Context → Env → Span → Cell → List Operator → Run Cell
operators w go ctx env at left [] = give left
operators w go ctx env at left (o ∷ os) = do
  a ← coerced_by w at o.step.left left
  c ← go (right_in (before ctx os) o.step) o.step.operand env
  b ← coerced_by w (operand_place o.step) o.step.right c
  next ← operated w o.at o.step.ty o.step.row (operand_base o.step) (a ∷ b ∷ [])
  operators w go ctx env o.at next os

-- of `++`: all operands with their left coercions come first ..
pub record Appended : Type 0 where
  pub lefts : List (Operator × Cell)
  pub place : Span
  pub last : Cell

-- here the place of this operand
abbrev pub append_operand : World → Eval → Context → Env → Appended → Operator → Run Appended
append_operand w go ctx env x o = do
  a ← coerced_by w x.place o.step.left x.last
  c ← go ctx o.step.operand env
  give (record { lefts = (o, a) ∷ x.lefts; place = operand_place o.step; last = c })

-- here the place of the first of these operators' nodes
abbrev pub append_operands : World → Eval → Context → Env → Appended → List Operator → Run Appended
append_operands w go ctx env x [] = give x
append_operands w go ctx env x (o ∷ os) = do
  y ← append_operand w go (first_in (right_in ctx o.step) os) env x o
  append_operands w go (right_in ctx o.step) env y os

-- .. and then the nodes, from the last on; each is the last operand of the one before
abbrev pub append_node : World → Span × Cell → Operator × Cell → Run (Span × Cell)
append_node w right p = do
  b ← coerced_by w right.0 p.0.step.right right.1
  next ← operated w p.0.at p.0.step.ty p.0.step.row (operand_base p.0.step) (p.1 ∷ b ∷ [])
  give (p.0.at, next)

abbrev pub appended : World → Eval → Context → Env → Innermost → Cell → Run Cell
appended w go ctx env f first = do
  x ← append_operands w go ctx env (record { lefts = []; place = place_of f.first; last = first }) f.operators
  r ← loop (append_node w) (x.place, x.last) x.lefts
  give r.1

abbrev pub chain_by : World → Eval → Context → Env → Bool → Innermost → Run Cell
chain_by w go ctx env true f = go (first_in ctx f.operators) f.first env >>= appended w go ctx env f
chain_by w go ctx env false f = go (before ctx f.operators) f.first env >>= λ left. operators w go ctx env (place_of f.first) left f.operators

abbrev pub chain : World → Eval → Context → Tree → List Step → Span → Env → Run Cell
chain w go ctx e ss at env = chain_by w go ctx env (same_level 12 ss) (chained at e ss)

-- ---- arrays, sets, accesses

abbrev pub array : World → Eval → Context → List Tree → Span → Env → Run Cell
array w go ctx es at env = parts go ctx es env >>= λ cells. done w at (line_cell w.mode cells)

abbrev pub row_of_parts : Eval → Context → Env → List (List Cell) → List Tree → Run (List (List Cell))
row_of_parts go ctx env rows es = do
  cells ← parts go ctx es env
  give (rows ++ cells ∷ [])

abbrev pub table : World → Eval → Context → List (List Tree) → Span → Env → Run Cell
table w go ctx rs at env = do
  rows ← loop (row_of_parts go ctx env) [] rs
  spend w.budget at 1
  table_cell w.mode at rows

abbrev pub set : World → Eval → Context → List Tree → Span → PlainType → Env → Run Cell
set w go ctx es at t env = parts go ctx es env >>= λ cells. done w at (set_cell t cells)

abbrev pub access : World → Eval → Context → Tree → List Tree → Span → PlainType → Env → Run Cell
access w go ctx e es at t env = do
  a ← go ctx e env
  cells ← parts go ctx es env
  done w at (access_cell w.mode t a cells)

-- ---- IF: a par condition that is true makes its branch the last, one that is false drops its branch unevaluated; under a var condition all goes on

-- one more branch under a var condition
abbrev pub open_branch : World → Eval → Context → Tree → Env → List (Cell × Cell) → Cell → Test → Run (List (Cell × Cell))
open_branch w go ctx e env acc c (Settled b) = give acc
open_branch w go ctx e env acc c Open = do
  x ← go ctx e env
  handed w.mode x
  give (acc ++ (c, x) ∷ [])

abbrev pub last_branch : World → Eval → Context → Tree → Span → PlainType → Env → List (Cell × Cell) → Run Cell
last_branch w go ctx e at t env acc = do
  x ← go ctx e env
  handed w.mode x
  spend w.budget at 1
  branch_cell w.mode t at acc x

-- a missing `else` is true
abbrev pub otherwise : World → Eval → Context → Option Tree → Span → PlainType → Env → List (Cell × Cell) → Run Cell
otherwise w go ctx None at t env acc = spend w.budget at 1 >> branch_cell w.mode t at acc (par_value (values.bool true))
otherwise w go ctx (Some e) at t env acc = last_branch w go ctx e at t env acc

abbrev pub is_met : Test → Bool
is_met (Settled b) = b
is_met Open = false

-- after the branches whose conditions are var
abbrev pub branches : World → Eval → Context → List (Tree × Tree) → Option Tree → Span → PlainType → Env → List (Cell × Cell) → Run Cell
branches w go ctx [] els at t env acc = otherwise w go ctx els at t env acc
branches w go ctx (b ∷ bs) els at t env acc = do
  c ← go (elsewhere ctx) b.0 env
  when (is_met (test_of c)) (last_branch w go ctx b.1 at t env acc) (open_branch w go ctx b.1 env acc c (test_of c) >>= branches w go ctx bs els at t env)
