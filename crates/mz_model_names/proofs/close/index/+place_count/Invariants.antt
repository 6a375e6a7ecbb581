use Rattle.std.proofs.Common.{length}
use Rattle.mz_model_names.proofs.close.index.+place_count.Given as goal

abbrev pub decreases-place_count : goal.decreases-place_count
decreases-place_count l = length l.ranges.now
