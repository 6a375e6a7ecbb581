-- Rows of operators over numbers.
use Rattle.std.specs.Prelude.{◌≡◌, List, Some, ℤ}
use Rattle.mz_base.specs.declared.fault.Span.{Span}
use Rattle.mz_value.specs.Contents as values
use Rattle.mz_core.specs.declared.types.Coercion.{Coercion}
use Rattle.mz_core.specs.declared.types.TypeInst.{TypeInst}
use Rattle.mz_core.specs.Coercions.{PathLink}
use Rattle.mz_core.specs.Paths.{path_links}
use Rattle.mz_operations.specs.declared.row.Row.TheVariants.{Scalar}
use Rattle.mz_operations.specs.Bounds as bounds
use Rattle.mz_meaning.specs.Chains.{operand_base}
use Rattle.mz_meaning.specs.Runs.{State, spend, give, then_do}
use Rattle.mz_meaning.specs.Cells.{Cell, Mode, Var, held, par_value}
use Rattle.mz_meaning.specs.Forms.{World, coerced_by}
use Rattle.mz_meaning.specs.Operations.{row_at}
use Rattle.mz_symbol.specs.Readings.{Reading}
use Rattle.mz_eval_cells.specs.declared.types.Known.{Known}
use Rattle.mz_eval_cells.specs.Views.{seen}
use Rattle.mz_eval_chains.specs.declared.types.Operator.{Operator}
use Rattle.mz_eval_chains.specs.Innermosts.{operator_of}
use Rattle.mz_eval_row_symbols.specs.declared.types.NumberRow.{NumberRow}

-- it is the row of the operator
abbrev pub IsRowOf : Operator → NumberRow → Type 0
IsRowOf o n = row_at (operator_of o).step.row (operand_base (operator_of o).step) ≡ Some (Scalar n.row)

-- a par integer that became var
abbrev pub open_integer : Mode → ℤ → Cell
open_integer m n = Var (bounds.one (bounds.number (n, n))) (held m (Some (values.int n)))

-- these coercions make it of a cell
abbrev pub IsOpened : List PathLink → Known → ℤ → Type 0
IsOpened ls k n = (w : World) (at : Span) (r : Reading) (s : State) → coerced_by w at ls (seen r k) s ≡ then_do (spend w.budget at 0 s) (λ _. give (open_integer w.mode n))

-- of each par integer
abbrev pub Opens : List (Coercion × TypeInst) → Type 0
Opens ls = (k : Known) (n : ℤ) → ((r : Reading) → seen r k ≡ par_value (values.int n)) → IsOpened (path_links ls) k n
