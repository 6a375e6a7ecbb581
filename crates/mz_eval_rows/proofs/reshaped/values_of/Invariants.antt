use Rattle.std.proofs.Common.{◌≡◌, ◌++◌, drop, map}
use Rattle.mz_operations.specs.Arguments.{arguments}
use Rattle.mz_meaning.specs.Cells.{value_of}
use Rattle.mz_eval_cells.specs.Views.{cells_of}
use Rattle.mz_eval_rows.proofs.reshaped.values_of.Given as goal

abbrev pub invariant-loop-k : goal.invariant-loop-k
invariant-loop-k l = map value_of (cells_of l.cells) ≡ arguments l.all.items ++ map value_of (cells_of (drop l.k-index l.cells))
