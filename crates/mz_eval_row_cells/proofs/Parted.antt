-- A row over cells, by whether all its arguments are par.
use Rattle.std.proofs.Common.{◌≡◌, List, [], ◌∷◌, map, refl, sym, subst}
use Rattle.std.specs.Prelude.{ℤ, Bool, true, false, ◌&&◌, Some, Result, if◌then◌else◌}
use Rattle.mz_base.specs.declared.fault.Span.{Span}
use Rattle.mz_base.specs.declared.stop.Stop.{Stop}
use Rattle.mz_value.specs.Contents.{int}
use Rattle.mz_value.specs.Shown.{Names}
use Rattle.mz_core.specs.Types.{PlainType}
use Rattle.mz_operations.specs.declared.row.Row.{Row}
use Rattle.mz_meaning.specs.Runs.{Run}
use Rattle.mz_meaning.specs.Cells.{Bare, Cell, all_par, is_par, par_value, value_of}
use Rattle.mz_meaning.specs.Operations.{par_row, row_cell}
use Rattle.mz_eval_cells.specs.declared.types.Known.{Known}
use Rattle.mz_eval_cells.specs.Views.{cell_of}
use Rattle.mz_eval_cells.specs.Meets.{Tells}
use Rattle.mz_eval_row_cells.specs.Steps.{open_row}

abbrev row_if : Names → Row → PlainType → Span → List Cell → Bool → Run Cell
row_if names r t at cs b = if b then par_row names r t.base at (map value_of cs) else open_row names r t at cs

pub row_par : (names : Names) (r : Row) (t : PlainType) (at : Span) (cs : List Cell) (res : Result Known Stop) → all_par cs ≡ true → Tells cell_of res (par_row names r t.base at (map value_of cs)) → Tells cell_of res (row_cell Bare names r t at cs)
row_par names r t at cs res h u = subst (λ b. Tells cell_of res (row_if names r t at cs b)) (sym h) u

pub row_open : (names : Names) (r : Row) (t : PlainType) (at : Span) (cs : List Cell) (res : Result Known Stop) → all_par cs ≡ false → Tells cell_of res (open_row names r t at cs) → Tells cell_of res (row_cell Bare names r t at cs)
row_open names r t at cs res h u = subst (λ b. Tells cell_of res (row_if names r t at cs b)) (sym h) u

pub one_par : (c : Cell) (b : Bool) → is_par c ≡ b → all_par (c ∷ []) ≡ b
one_par c true h = rw h refl
one_par c false h = rw h refl

both_and : (a b : Bool) → (a && b) ≡ (a && (b && true))
both_and true true = refl
both_and true false = refl
both_and false b = refl

pub two_par : (c d : Cell) → (is_par c && is_par d) ≡ all_par (c ∷ d ∷ [])
two_par c d = both_and (is_par c) (is_par d)

-- a row of two integers
pub integers_row : (names : Names) (r : Row) (t : PlainType) (at : Span) (c d : Cell) (x y : ℤ) (res : Result Known Stop) → c ≡ par_value (int x) → d ≡ par_value (int y) → Tells cell_of res (par_row names r t.base at (Some (int x) ∷ Some (int y) ∷ [])) → Tells cell_of res (row_cell Bare names r t at (c ∷ d ∷ []))
integers_row names r t at c d x y res e h u = subst (λ k. Tells cell_of res (row_cell Bare names r t at (k ∷ d ∷ []))) (sym e) (subst (λ k. Tells cell_of res (row_cell Bare names r t at (par_value (int x) ∷ k ∷ []))) (sym h) u)
