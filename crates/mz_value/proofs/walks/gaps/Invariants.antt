use Rattle.std.proofs.Common.{◌≡◌, ◌++◌, drop}
use Rattle.std.specs.Prelude.{pos, ◌+ℤ◌, ◌≤ℤ◌}
use Rattle.mz_value.specs.Ranges.{least, greatest}
use Rattle.mz_value.specs.StepsWalks as walks
use Rattle.mz_value.proofs.walks.gaps.Given as goal

abbrev pub invariant-loop-r : goal.invariant-loop-r
invariant-loop-r l = record {
  low : least ≤ℤ l.lo;
  high : l.lo ≤ℤ (greatest +ℤ pos 1);
  walk : l.all.items ++ walks.gaps l.lo (drop l.r-index l.ranges) ≡ walks.gaps least l.ranges;
}
