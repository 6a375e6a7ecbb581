use Rattle.mz_model_state.proofs.Progress.{declaration_halts, constraint_halts, objective_halts, halted_stops, closed_models}
use Rattle.mz_model_state.proofs.step_law.walks_are_closed.Goals as goal

pub returns : goal.returns
returns c = record {
  declaration = declaration_halts c.declarations_are_walked.ensures.stops;
  constraint = constraint_halts c.constraints_are_walked.ensures.stops;
  objective = objective_halts c.constraints_are_walked.ensures.objective;
  stops = halted_stops c.hands_are_models.ensures.stops;
  models = closed_models c.constraints_are_walked.ensures.whole c.hands_are_models.ensures.models c.variables_are_made.ensures.names c.roots_are_kept.ensures.names c.roots_are_kept.ensures.constraints c.tested_runs_make_instances.ensures;
}
