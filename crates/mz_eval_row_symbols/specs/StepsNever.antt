-- Mirror of src/told.rt: rows of truth values of which an argument is undefined wherever it is read.
use Rattle.std.specs.Prelude.{◌≡◌, Bool, true, false, [], ◌∷◌, None}
use Rattle.mz_value.specs.Shown.{Names}
use Rattle.mz_operations.specs.declared.row.ScalarRow.{ScalarRow}
use Rattle.mz_operations.specs.declared.row.ScalarRow.TheVariants as scalar
use Rattle.mz_operations.specs.declared.row.Row.TheVariants.{Scalar}
use Rattle.mz_meaning.specs.Exact.{exact_value}
use Rattle.mz_symbol.specs.Readings.{Reading}
use Rattle.mz_eval_cells.specs.declared.types.Known.{Known}
use Rattle.mz_eval_symbols.specs.Taken.{cell_value}
use Rattle.mz_eval_row_symbols.specs.StepsRows.{gives_truth}

-- rows of two truth values, and comparisons
abbrev pub is_strict : ScalarRow → Bool
is_strict (scalar.Logic op) = true
is_strict (scalar.Order op) = true
is_strict scalar.Equal = true
is_strict scalar.Unequal = true
is_strict scalar.SetEqual = true
is_strict scalar.SetUnequal = true
is_strict scalar.In = true
is_strict w = false

-- a row of truth values that has none of these cells
pub record IsNever (w : ScalarRow) (a b : Known) : Type 0 where
  pub truth : gives_truth w ≡ true
  pub value : (r : Reading) (names : Names) → exact_value names (Scalar w) (cell_value r a ∷ cell_value r b ∷ []) ≡ None
