use Rattle.std.proofs.Common.{length}
use Rattle.mz_builtin.proofs.fits.+accepting.Given as goal

abbrev pub decreases-accepting : goal.decreases-accepting
decreases-accepting l = length l.args.now
