use Rattle.std.proofs.Common.{length}
use Rattle.mz_check_forms.proofs.coerce.+wrapped.Given as goal

abbrev pub decreases-wrapped : goal.decreases-wrapped
decreases-wrapped l = length l.links.now
