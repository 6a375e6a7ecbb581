use Rattle.std.proofs.Common.{length}
use Rattle.mz_value.proofs.walks.+has.Given as goal

abbrev pub decreases-has : goal.decreases-has
decreases-has l = length l.ranges.now
