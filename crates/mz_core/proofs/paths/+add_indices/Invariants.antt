use Rattle.std.proofs.Common.{length}
use Rattle.mz_core.proofs.paths.+add_indices.Given as goal

abbrev pub decreases-add_indices : goal.decreases-add_indices
decreases-add_indices l = length l.xs.now
