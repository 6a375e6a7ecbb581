use Rattle.std.proofs.Common.{◌≡◌, ◌++◌, map, drop}
use Rattle.mz_meaning.specs.Operations.{size_of}
use Rattle.mz_eval_cells.specs.Views.{cells_of}
use Rattle.mz_eval_row_cells.proofs.costs.sizes_of.Given as goal

abbrev pub invariant-loop-k : goal.invariant-loop-k
invariant-loop-k l = l.sizes.items ++ map size_of (cells_of (drop l.k-index l.cells)) ≡ map size_of (cells_of l.cells)
