use Rattle.std.proofs.Common.{length}
use Rattle.mz_core.proofs.order.+same_dims.Given as goal

abbrev pub decreases-same_dims : goal.decreases-same_dims
decreases-same_dims l = length l.xs.now
