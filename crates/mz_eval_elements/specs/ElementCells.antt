-- What the elements of arrays are asked to be, under a reading.
use Rattle.std.specs.Prelude.{Bool, false, List, map, Option}
use Rattle.mz_value.specs.Contents.{Content}
use Rattle.mz_core.specs.declared.types.Base.{Base}
use Rattle.mz_core.specs.Types.{PlainType}
use Rattle.mz_meaning.specs.Arrays.{accessed}
use Rattle.mz_meaning.specs.Cells.{Cell, held, typed, value_of}
use Rattle.mz_symbol.specs.Readings.{Reading}
use Rattle.mz_eval_cells.specs.declared.types.Known.{Known}
use Rattle.mz_eval_cells.specs.Views.{all_seen, seen}
use Rattle.mz_eval_arrays.specs.ArrayCells.{counted, is_counted}

-- the element of an array at indices, at a node of this base, an option or not
abbrev pub element_value : Reading → Base → Bool → Known → List Known → Option Content
element_value r b o a at = held r.mode (counted (is_counted b o) (accessed (value_of (seen r a)) (map value_of (all_seen r at))))

-- a cell under a reading, as that of a node of this type
abbrev pub typed_seen : PlainType → Reading → Known → Cell
typed_seen t r k = typed r.mode false t (seen r k)
