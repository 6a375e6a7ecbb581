use Rattle.std.proofs.Common.{length}
use Rattle.mz_eval_arrays.proofs.branches.+chosen.Given as goal

abbrev pub decreases-chosen : goal.decreases-chosen
decreases-chosen l = length l.branches.now
