use Rattle.std.proofs.Common.{◌≡◌, map, take}
use Rattle.mz_meaning.specs.Cells.{bounds_in, scalar_bound}
use Rattle.mz_eval_cells.specs.Views.{cells_of, known_bound}
use Rattle.mz_eval_arrays.proofs.joining.cell_bounds.Given as goal

abbrev pub invariant-loop-k : goal.invariant-loop-k
invariant-loop-k l = map known_bound l.all.items ≡ map (λ c. scalar_bound (bounds_in c)) (cells_of (take l.k-index l.cells))
