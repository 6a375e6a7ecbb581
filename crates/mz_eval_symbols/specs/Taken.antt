-- What a cell is, once symbols and lines stand for it.
use Rattle.std.specs.Prelude.{ℕ, List, [], Option}
use Rattle.mz_value.specs.Ranges.{Range}
use Rattle.mz_value.specs.Contents.{Content}
use Rattle.mz_meaning.specs.Cells.{held, length_of, or_zero, value_of}
use Rattle.mz_symbol.specs.Readings.{Reading}
use Rattle.mz_symbol_arrays.specs.LineValues.{array_argument}
use Rattle.mz_eval_cells.specs.declared.types.Known.{Known}
use Rattle.mz_eval_cells.specs.declared.types.Known.TheVariants as known
use Rattle.mz_eval_cells.specs.Views.{cell_of, seen}
pub use Rattle.mz_symbol_arrays.specs.LineValues.{IsLineOf, array_argument}

-- the value of a cell, par or var; nothing in a run without values
abbrev pub cell_value : Reading → Known → Option Content
cell_value r k = held r.mode (value_of (seen r k))

-- the index ranges of an array; none of another cell
abbrev pub ranges_in : Known → List Range
ranges_in (known.Array ix xs) = ix.value.items
ranges_in (known.Row ix xs) = ix.value.items
ranges_in k = []

-- the var array with this number, under the index ranges of a cell
abbrev pub line_seen : Known → Reading → ℕ → Option Content
line_seen k r n = array_argument r (ranges_in k) n

-- how many elements an array has; 0 of one without a shape, and of what is no array
abbrev pub count_in : Known → ℕ
count_in k = or_zero (length_of (cell_of k))
