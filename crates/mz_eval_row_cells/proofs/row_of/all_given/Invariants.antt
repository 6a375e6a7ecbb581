use Rattle.std.proofs.Common.{◌≡◌, map}
use Rattle.mz_operations.specs.Arguments.{arguments}
use Rattle.mz_meaning.specs.Cells.{value_of}
use Rattle.mz_eval_cells.specs.Views.{cells_of}
use Rattle.mz_eval_row_cells.proofs.row_of.all_given.Given as goal

abbrev pub invariant-loop-k : goal.invariant-loop-k
invariant-loop-k l = arguments l.all.items ≡ map value_of (cells_of l.yielded)
