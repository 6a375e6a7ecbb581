use Rattle.std.proofs.Common.{◌≡◌, drop}
use Rattle.mz_operations.specs.Bounds.{extreme_from}
use Rattle.mz_operations_bounds.proofs.lists.extreme_from.Given as goal

abbrev pub invariant-loop-e : goal.invariant-loop-e
invariant-loop-e l = extreme_from l.side l.acc (drop l.e-index l.others) ≡ extreme_from l.side l.first l.others
