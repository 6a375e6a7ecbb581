use Rattle.std.proofs.Common.{◌≡◌, drop}
use Rattle.mz_operations.specs.Bounds.{hull_from}
use Rattle.mz_operations_bounds.proofs.lists.hull_from.Given as goal

abbrev pub invariant-loop-e : goal.invariant-loop-e
invariant-loop-e l = hull_from l.acc (drop l.e-index l.others) ≡ hull_from l.first l.others
