use Rattle.mz_model_state.proofs.Variables.{whole_by_test}
use Rattle.mz_model_state.proofs.walk_law.one_pass_tells_choices.Goals as goal

pub returns : goal.returns
returns c = whole_by_test
