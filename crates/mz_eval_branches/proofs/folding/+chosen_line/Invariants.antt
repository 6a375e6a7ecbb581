use Rattle.std.proofs.Common.{length}
use Rattle.mz_eval_branches.proofs.folding.+chosen_line.Given as goal

abbrev pub decreases-chosen_line : goal.decreases-chosen_line
decreases-chosen_line l = length l.branches.now
