use Rattle.mz_value.proofs.Determined.{determined}
use Rattle.mz_value.proofs.laws.same_members.Goals as goal

pub returns : goal.returns
returns c = determined
