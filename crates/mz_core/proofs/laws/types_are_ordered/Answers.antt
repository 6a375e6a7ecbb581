use Rattle.mz_core.proofs.TypeLaws.{types_ordered}
use Rattle.mz_core.proofs.laws.types_are_ordered.Goals as goal

pub returns : goal.returns
returns c = types_ordered
