use Rattle.mz_model_state.proofs.Walking.{started, unbounded, one_more, one_stops}
use Rattle.mz_model_state.proofs.walk_law.declarations_are_walked.Goals as goal

pub returns : goal.returns
returns c = record { started = started; unbounded = unbounded; more = one_more; stops = one_stops }
