use Rattle.mz_model_state.proofs.Walking.{all_declared, one_constraint, constraint_stops, objective_stops, whole_walk}
use Rattle.mz_model_state.proofs.walk_law.constraints_are_walked.Goals as goal

pub returns : goal.returns
returns c = record { declared = all_declared; more = one_constraint; stops = constraint_stops; objective = objective_stops; whole = whole_walk }
