use Rattle.mz_model_state.proofs.Names.{all_assigned}
use Rattle.mz_model_state.proofs.Models.{models}
use Rattle.mz_model_state.proofs.Stopped.{stops}
use Rattle.mz_model_state.proofs.walk_law.hands_are_models.Goals as goal

pub returns : goal.returns
returns c = record { assigned = λ s ns d a x y. all_assigned s ns a x y; models = models; stops = stops }
