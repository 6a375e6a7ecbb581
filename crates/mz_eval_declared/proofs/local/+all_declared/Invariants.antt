use Rattle.std.proofs.Common.{length}
use Rattle.mz_eval_declared.proofs.local.+all_declared.Given as goal

abbrev pub decreases-all_declared : goal.decreases-all_declared
decreases-all_declared l = length l.ws.now
