use Rattle.mz_model_state.proofs.Progress.{begins, one_more_name, all_names, one_more_constraint}
use Rattle.mz_model_state.proofs.step_law.walks_go_on.Goals as goal

pub returns : goal.returns
returns c = record {
  begins = begins c.declarations_are_walked.ensures.started;
  name = one_more_name c.declarations_are_walked.ensures.more c.roots_are_kept.ensures.more_names c.variables_are_made.ensures.slots;
  all = all_names c.constraints_are_walked.ensures.declared;
  constraint = one_more_constraint c.constraints_are_walked.ensures.more c.roots_are_kept.ensures.names c.roots_are_kept.ensures.more_constraints;
}
