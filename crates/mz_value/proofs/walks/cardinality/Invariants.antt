use Rattle.std.proofs.Common.{◌≡◌, ◌+◌, drop}
use Rattle.mz_value.specs.Ranges.{cardinality}
use Rattle.mz_value.proofs.walks.cardinality.Given as goal

abbrev pub invariant-loop-r : goal.invariant-loop-r
invariant-loop-r l = l.total + cardinality (drop l.r-index l.ranges) ≡ cardinality l.ranges
