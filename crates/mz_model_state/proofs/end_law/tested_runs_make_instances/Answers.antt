use Rattle.mz_model_state.proofs.Ends.{tested_makes}
use Rattle.mz_model_state.proofs.end_law.tested_runs_make_instances.Goals as goal

pub returns : goal.returns
returns c = tested_makes c.instances_are_made.ensures
