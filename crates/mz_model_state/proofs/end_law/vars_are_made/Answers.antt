use Rattle.mz_model_state.proofs.VarsOver.{var_made, array_made}
use Rattle.mz_model_state.proofs.end_law.vars_are_made.Goals as goal

pub returns : goal.returns
returns c = record { one = var_made; many = array_made }
