-- What a row over a var array is asked to give.
use Rattle.std.specs.Prelude.{◌≡◌, ℕ, List, [], ◌∷◌, length, slice_get, Option, Some, None}
use Rattle.std.specs.Option.{option_map}
use Rattle.mz_value.specs.Ranges.{Range}
use Rattle.mz_value.specs.Contents.{Content, contents}
use Rattle.mz_value.specs.Contents as values
use Rattle.mz_operations.specs.declared.row.ScalarRow.{ScalarRow}
use Rattle.mz_operations.specs.Values.{scalar_value}
use Rattle.mz_arena.specs.Values.{Term}
use Rattle.mz_meaning.specs.Cells.{held}
use Rattle.mz_symbol.specs.declared.types.Line.{Line}
use Rattle.mz_symbol.specs.Symbols.{AreWhole}
use Rattle.mz_symbol.specs.Runs.{Run, ReadsNodes}
use Rattle.mz_symbol.specs.Readings.{Reading}

-- the var array with this number, under any index ranges
abbrev pub array_argument : Reading → List Range → ℕ → Option Content
array_argument r ix k = held r.mode (option_map (λ xs. values.array ix (contents xs)) (r.line k))

abbrev pub array_row : Reading → ScalarRow → List Range → ℕ → Option Content
array_row r w ix k = scalar_value w (array_argument r ix k ∷ [])

-- how many elements it has; 0 where there is none
abbrev pub count_of : Option Line → ℕ
count_of None = 0
count_of (Some l) = length l.items.items

-- the node that is 1 where the array is defined, and how many elements it has there
pub record IsLineOf (s : Run) (k d n : ℕ) : Type 0 where
  pub line : Line
  pub stands : slice_get s.lines k ≡ Some line
  pub defined : line.defined ≡ d
  pub count : length line.items.items ≡ n
  pub whole : (t : ℕ → Term) → ReadsNodes t s.arena → AreWhole t d line.items.items
