use Rattle.mz_model_state.proofs.Forms.{declared_by_form}
use Rattle.mz_model_state.proofs.NextNames.{form_faults, par_is_next, var_is_next}
use Rattle.mz_model_state.proofs.step_law.names_are_added.Goals as goal

pub returns : goal.returns
returns c = record { form = declared_by_form; stops = form_faults; par = par_is_next; var = var_is_next c.variables_are_made.ensures.seen }
