use Rattle.std.proofs.Common.{length}
use Rattle.mz_eval_declared.proofs.want.+all_have_sets.Given as goal

abbrev pub decreases-all_have_sets : goal.decreases-all_have_sets
decreases-all_have_sets l = length l.ws.now
