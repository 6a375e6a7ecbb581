-- What the union or the intersection of a var array of sets is asked to give.
use Rattle.std.specs.Prelude.{ℕ, List, [], ◌∷◌, Option}
use Rattle.mz_value.specs.Ranges.{Range}
use Rattle.mz_value.specs.Contents.{Content}
use Rattle.mz_operations.specs.declared.row.MadeRow.{MadeRow}
use Rattle.mz_operations.specs.Values.{made_value}
use Rattle.mz_symbol.specs.Readings.{Reading}
use Rattle.mz_symbol_arrays.specs.LineValues.{array_argument}

-- a row over the var array with this number, under any index ranges
abbrev pub sets_row : Reading → MadeRow → List Range → ℕ → Option Content
sets_row r w ix k = made_value w (array_argument r ix k ∷ [])
