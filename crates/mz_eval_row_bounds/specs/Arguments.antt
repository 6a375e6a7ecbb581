-- What is read of the arguments' bounds.
use Rattle.std.specs.Prelude.{List, map}
use Rattle.mz_interval.specs.Ends.{Ends}
use Rattle.mz_operations.specs.Bounds.{Bounds}
use Rattle.mz_operations.specs.Bounds as bounds
use Rattle.mz_meaning.specs.Cells.{bounds_in}
use Rattle.mz_eval_cells.specs.declared.types.Known.{Known}
use Rattle.mz_eval_cells.specs.Views.{cells_of}

-- the bounds of all arguments
abbrev pub all_bounds : List Known → List Bounds
all_bounds ks = map bounds_in (cells_of ks)

-- the bounds of a number
abbrev pub numbers : Ends → Bounds
numbers e = bounds.one (bounds.number e)
