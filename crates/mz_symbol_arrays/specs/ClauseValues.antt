-- What `clause` of two var arrays is asked to give.
use Rattle.std.specs.Prelude.{ℕ, List, [], ◌∷◌, Option}
use Rattle.mz_value.specs.Ranges.{Range}
use Rattle.mz_value.specs.Contents.{Content}
use Rattle.mz_operations.specs.declared.row.ScalarRow.TheVariants as row
use Rattle.mz_operations.specs.Values.{scalar_value}
use Rattle.mz_symbol.specs.Readings.{Reading}
use Rattle.mz_symbol_arrays.specs.LineValues.{array_argument}

-- over the var arrays with these numbers, under any index ranges
abbrev pub clause_value : Reading → List Range → ℕ → List Range → ℕ → Option Content
clause_value r ix k jx l = scalar_value row.Clause (array_argument r ix k ∷ array_argument r jx l ∷ [])
