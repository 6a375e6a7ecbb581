use Rattle.mz_eval_elements.proofs.PlaceLaws.{nowhere}
use Rattle.mz_eval_elements.proofs.placing.place_at.Goals as goal

pub returns-in-None : goal.returns-in-None
returns-in-None c = nowhere _ c.in_ok-capped.capped c.in_ok-capped.ensures c.in-None.is
