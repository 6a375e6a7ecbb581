use Rattle.std.proofs.Common.{map, subst}
use Rattle.mz_model_state.specs.Hands.{SlotsFrom}
use Rattle.mz_model_names.specs.Named.{held_name}
use Rattle.mz_model.proofs.ending.are_in_order.Goals as goal

pub returns : goal.returns
returns c h = subst (λ hs. SlotsFrom 0 (map held_name hs)) c.deref.ensures.value (c.are_numbered.ensures h)
