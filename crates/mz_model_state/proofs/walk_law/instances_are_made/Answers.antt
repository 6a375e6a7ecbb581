use Rattle.mz_model_state.proofs.Instance.{is_instance}
use Rattle.mz_model_state.proofs.walk_law.instances_are_made.Goals as goal

pub returns : goal.returns
returns c = is_instance
