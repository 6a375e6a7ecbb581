-- A node's cell, once its row's cell is known.
use Rattle.std.proofs.Common.{◌≡◌, ◌∙◌, false, List, Option, Some, Result, Ok, Err, ap}
use Rattle.mz_base.specs.declared.fault.Span.{Span}
use Rattle.mz_base.specs.declared.stop.Stop.{Stop}
use Rattle.mz_base.specs.declared.stop.Stop.TheVariants.{Refused, Memory}
use Rattle.mz_core.specs.Types.{PlainType}
use Rattle.mz_operations.specs.declared.row.Row.{Row}
use Rattle.mz_meaning.specs.Runs.{State, Answer, Out, then_do, give}
use Rattle.mz_meaning.specs.Cells.{Cell, Mode, typed}
use Rattle.mz_meaning.specs.Forms.{World}
use Rattle.mz_symbol.specs.Readings.{Reading}
use Rattle.mz_symbol.specs.Makes.{MeetsAt}
use Rattle.mz_eval_cells.specs.declared.types.Known.{Known}
use Rattle.mz_eval_cells.specs.Views.{seen}
use Rattle.mz_eval_row_symbols.specs.NodeRows.{stamped}
use Rattle.mz_eval_nodes.specs.RowNodes.{node_by}

pub typed_meets : (m : Mode) (t : PlainType) (a : Answer Cell) (x y : Cell) (s : State) → a ≡ Out x s → typed m false t x ≡ y → then_do a (λ c. give (typed m false t c)) ≡ Out y s
typed_meets m t a x y s e f = ap (λ b. then_do b (λ c. give (typed m false t c))) e ∙ ap (λ c. Out c s) f

pub row_meets : (w : World) (place : Span) (t : PlainType) (cs : List Cell) (o : Option Row) (row : Row) (x y : Cell) (s v : State) → o ≡ Some row → node_by w place t cs (Some row) s ≡ Out x v → x ≡ y → node_by w place t cs o s ≡ Out y v
row_meets w place t cs o row x y s v i e f = ap (λ p. node_by w place t cs p s) i ∙ e ∙ ap (λ c. Out c v) f

-- a cell before its type is the cell with it, once that is stamped on both
pub stamps : (t : PlainType) (r : Reading) (x : Result Known Stop) (s : State) (a : Answer Cell) → MeetsAt (seen r) x s a → MeetsAt (stamped t r) x s (then_do a (λ c. give (typed r.mode false t c)))
stamps t r (Ok k) s a h = ap (λ b. then_do b (λ c. give (typed r.mode false t c))) h
stamps t r (Err (Refused f)) s a h = ap (λ b. then_do b (λ c. give (typed r.mode false t c))) h
stamps t r (Err Memory) s a h = tt
