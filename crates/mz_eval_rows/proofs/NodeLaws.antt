-- The node of a row, once the row's cell is known.
use Rattle.std.proofs.Common.{◌≡◌, false, List, Result, sym, ap, subst}
use Rattle.mz_base.specs.declared.fault.Span.{Span}
use Rattle.mz_base.specs.declared.stop.Stop.{Stop}
use Rattle.mz_value.specs.Shown.{Names}
use Rattle.mz_core.specs.Types.{PlainType}
use Rattle.mz_operations.specs.declared.row.Row.{Row}
use Rattle.mz_meaning.specs.Runs.{State, Out, then_do}
use Rattle.mz_meaning.specs.Cells.{Cell, Mode, typed}
use Rattle.mz_meaning.specs.Operations.{row_cell}
use Rattle.mz_symbol.specs.Makes as makes
use Rattle.mz_eval_row_symbols.specs.NodeRows.{row_node}

-- after the row
pub node_meets : {A : Type 0} (m : Mode) (names : Names) (row : Row) (t : PlainType) (at : Span) (cs : List Cell) (c : Cell) (s u : State) (see : A → Cell) (x : Result A Stop) → row_cell m names row t at cs s ≡ Out c s → makes.MeetsAt see x u (Out (typed m false t c) s) → makes.MeetsAt see x u (row_node m names row t at cs s)
node_meets m names row t at cs c s u see x e h = subst (makes.MeetsAt see x u) (sym (ap (λ a. then_do a (λ y w. Out (typed m false t y) w)) e)) h
