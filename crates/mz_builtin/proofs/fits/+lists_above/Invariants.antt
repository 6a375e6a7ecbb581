use Rattle.std.proofs.Common.{length}
use Rattle.mz_builtin.proofs.fits.+lists_above.Given as goal

abbrev pub decreases-lists_above : goal.decreases-lists_above
decreases-lists_above l = length l.dims.now
