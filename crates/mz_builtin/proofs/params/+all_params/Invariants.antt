use Rattle.std.proofs.Common.{length}
use Rattle.mz_builtin.proofs.params.+all_params.Given as goal

abbrev pub decreases-all_params : goal.decreases-all_params
decreases-all_params l = length l.ps.now
