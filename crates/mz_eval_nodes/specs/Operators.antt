-- The steps of evaluations that definitions take within one line.
use Rattle.std.specs.Prelude.{List, [], ◌∷◌, map}
use Rattle.mz_base.specs.declared.fault.Span.{Span}
use Rattle.mz_eval_cells.specs.Views.{seen}
use Rattle.mz_eval_cells.specs.declared.types.Known.{Known}
use Rattle.mz_meaning.specs.Runs.{Run, ◌>>=◌, give, loop}
use Rattle.mz_meaning.specs.Cells.{Cell, Env}
use Rattle.mz_meaning.specs.Contexts.{Context}
use Rattle.mz_meaning.specs.Chains as chains
use Rattle.mz_meaning.specs.Chains.{operand_base}
use Rattle.mz_meaning.specs.Forms as forms
use Rattle.mz_meaning.specs.Forms.{World, Eval, coerced_by, operated, operand_place, append_node}
use Rattle.mz_eval_chains.specs.declared.types.Operator.{Operator}
use Rattle.mz_eval_chains.specs.Innermosts.{operator_of}
use Rattle.mz_symbol.specs.Readings.{Reading}
use Rattle.mz_eval_nodes.specs.declared.types.Appended.{Appended}

-- ---- one operator: its left operand's coercions, its right operand with its coercions, its node

abbrev pub operator_node : World → chains.Operator → Cell → Cell → Run Cell
operator_node w o a b = operated w o.at o.step.ty o.step.row (operand_base o.step) (a ∷ b ∷ [])

abbrev pub operated_on : World → Cell → chains.Operator → Cell → Run Cell
operated_on w a o c = do
  b ← coerced_by w (operand_place o.step) o.step.right c
  operator_node w o a b

-- its right operand stands in a place of this context
abbrev pub operator_step : World → Eval → Context → Env → Span → Cell → chains.Operator → Run Cell
operator_step w go ctx env at left o = do
  a ← coerced_by w at o.step.left left
  c ← go ctx o.step.operand env
  operated_on w a o c

-- ---- `++`: operators with their left operands, the last one first

abbrev pub reversed_onto : {A : Type 0} → List A → List A → List A
reversed_onto acc [] = acc
reversed_onto acc (x ∷ xs) = reversed_onto (x ∷ acc) xs

-- a cell with the place of its node
abbrev pub placed_seen : Reading → Span → Known → Span × Cell
placed_seen r at k = (at, seen r k)

abbrev pub left_by : (Known → Cell) → Operator × Known → chains.Operator × Cell
left_by see p = (operator_of p.0, see p.1)

abbrev pub left_seen : Reading → Operator × Known → chains.Operator × Cell
left_seen r p = left_by (seen r) p

abbrev pub lefts_by : (Known → Cell) → List (Operator × Known) → List (chains.Operator × Cell)
lefts_by see ps = reversed_onto [] (map (left_by see) ps)

abbrev pub lefts_seen : Reading → List (Operator × Known) → List (chains.Operator × Cell)
lefts_seen r ps = lefts_by (seen r) ps

-- the first operand alone
abbrev pub nothing_appended : Span → Cell → forms.Appended
nothing_appended place first = record { lefts = []; place = place; last = first }

abbrev pub appended_by : (Known → Cell) → Appended → forms.Appended
appended_by see x = record { lefts = lefts_by see x.lefts.items; place = x.place; last = see x.last }

abbrev pub appended_seen : Reading → Appended → forms.Appended
appended_seen r x = appended_by (seen r) x

-- the nodes of its operators, from the last one on
abbrev pub appended_nodes : World → forms.Appended → Run Cell
appended_nodes w x = do
  r ← loop (append_node w) (x.place, x.last) x.lefts
  give r.1
