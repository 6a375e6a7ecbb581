-- What lists of cells stand for under a reading.
use Rattle.std.specs.Prelude.{List}
use Rattle.mz_eval_cells.specs.declared.types.Known.{Known}
use Rattle.mz_eval_cells.specs.Views.{seen}
pub use Rattle.mz_eval_arrays.specs.declared.gathering.Gathered.{Gathered}
pub use Rattle.mz_eval_arrays.specs.declared.gathering.Gathered.TheVariants.{Items, Cells}
pub use Rattle.mz_eval_arrays.specs.Gathered.{gathered, gathered_by}
use Rattle.mz_eval_arrays.specs.Gathered.{pairs_by}
pub use Rattle.mz_eval_row_symbols.specs.NodeRows.{stamped}
use Rattle.mz_meaning.specs.Cells.{Cell}
use Rattle.mz_symbol.specs.Readings.{Reading}

abbrev pub gathered_seen : Reading → Gathered → List Cell
gathered_seen r g = gathered_by (seen r) g

abbrev pub pairs_seen : Reading → List (Known × Known) → List (Cell × Cell)
pairs_seen r ps = pairs_by (seen r) ps
