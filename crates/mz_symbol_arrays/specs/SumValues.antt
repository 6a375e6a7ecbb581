-- What a row over a var array gives that is exact under each reading: a sum or a product of the values, in the limit or not.
use Rattle.std.specs.Prelude.{ℕ, List, [], ◌∷◌, Option}
use Rattle.mz_value.specs.Ranges.{Range}
use Rattle.mz_value.specs.Contents.{Content}
use Rattle.mz_value.specs.Shown.{Names}
use Rattle.mz_operations.specs.declared.row.ScalarRow.{ScalarRow}
use Rattle.mz_operations.specs.declared.row.Row.TheVariants.{Scalar}
use Rattle.mz_meaning.specs.Exact.{exact_value}
use Rattle.mz_symbol.specs.Readings.{Reading}
use Rattle.mz_symbol_arrays.specs.LineValues.{array_argument}

abbrev pub exact_row : Reading → Names → ScalarRow → List Range → ℕ → Option Content
exact_row r names w ix k = exact_value names (Scalar w) (array_argument r ix k ∷ [])
