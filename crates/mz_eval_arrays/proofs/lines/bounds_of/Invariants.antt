use Rattle.std.proofs.Common.{◌≡◌, map, take}
use Rattle.mz_eval_cells.specs.Views.{cells_of, known_bound}
use Rattle.mz_eval_arrays.specs.ArrayCells.{bound_in}
use Rattle.mz_eval_arrays.proofs.lines.bounds_of.Given as goal

abbrev pub invariant-loop-k : goal.invariant-loop-k
invariant-loop-k l = map known_bound l.bounds.items ≡ map bound_in (cells_of (take l.k-index l.all))
