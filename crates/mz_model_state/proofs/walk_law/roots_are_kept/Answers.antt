use Rattle.mz_model_state.proofs.Roots.{more_rooted, rooted_kept, more_met, met_kept}
use Rattle.mz_model_state.proofs.walk_law.roots_are_kept.Goals as goal

pub returns : goal.returns
returns c = record { more_names = more_rooted; names = rooted_kept; more_constraints = more_met; constraints = met_kept }
