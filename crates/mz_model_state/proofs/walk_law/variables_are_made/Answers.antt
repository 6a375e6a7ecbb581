use Rattle.mz_model_state.proofs.Variables.{variable_seen, parts_made, nodes_made, names_made, vars_kept, more_vars, more_slots}
use Rattle.mz_model_state.proofs.walk_law.variables_are_made.Goals as goal

pub returns : goal.returns
returns c = record { seen = variable_seen; parts = parts_made; nodes = nodes_made; names = names_made; kept = vars_kept; more = more_vars; slots = more_slots }
