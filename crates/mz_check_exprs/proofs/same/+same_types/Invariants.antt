use Rattle.std.proofs.Common.{length}
use Rattle.mz_check_exprs.proofs.same.+same_types.Given as goal

abbrev pub decreases-same_types : goal.decreases-same_types
decreases-same_types l = length l.ts.now
