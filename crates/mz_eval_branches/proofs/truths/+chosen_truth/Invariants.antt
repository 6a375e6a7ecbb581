use Rattle.std.proofs.Common.{length}
use Rattle.mz_eval_branches.proofs.truths.+chosen_truth.Given as goal

abbrev pub decreases-chosen_truth : goal.decreases-chosen_truth
decreases-chosen_truth l = length l.branches.now
