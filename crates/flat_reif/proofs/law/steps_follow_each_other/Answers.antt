use Rattle.flat_reif.proofs.Steps.{flattened_twice}
use Rattle.flat_reif.proofs.law.steps_follow_each_other.Goals as goal

pub returns : goal.returns
returns c = flattened_twice
