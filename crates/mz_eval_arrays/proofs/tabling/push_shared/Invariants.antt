use Rattle.std.proofs.Common.{◌≡◌, ◌++◌, drop}
use Rattle.mz_eval_cells.specs.Views.{cells_of}
use Rattle.mz_eval_arrays.proofs.tabling.push_shared.Given as goal

abbrev pub invariant-loop-k : goal.invariant-loop-k
invariant-loop-k l = cells_of l.fn.all.items ++ cells_of l.row ≡ cells_of l.all.items ++ cells_of (drop l.k-index l.row)
