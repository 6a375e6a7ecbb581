use Rattle.mz_model_state.proofs.PartNodes.{placed_is_next, placed_counts}
use Rattle.mz_model_state.proofs.end_law.places_are_variables.Goals as goal

pub returns : goal.returns
returns c = record { next = placed_is_next; counts = placed_counts }
