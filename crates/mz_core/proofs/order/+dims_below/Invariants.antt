use Rattle.std.proofs.Common.{length}
use Rattle.mz_core.proofs.order.+dims_below.Given as goal

abbrev pub decreases-dims_below : goal.decreases-dims_below
decreases-dims_below l = length l.xs.now
