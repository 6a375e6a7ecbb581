use Rattle.flat.proofs.Joining.{faithful}
use Rattle.flat.proofs.law.flattening_is_faithful.Goals as goal

pub returns : goal.returns
returns c = faithful
