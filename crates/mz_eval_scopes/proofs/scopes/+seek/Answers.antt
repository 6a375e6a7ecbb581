use Rattle.std.proofs.Common.{refl}
use Rattle.mz_eval_scopes.proofs.Slots.{absent_outside, frame_env}
use Rattle.mz_eval_scopes.proofs.scopes.+seek.Goals as goal

pub returns-in-Some : goal.returns-in-Some
returns-in-Some t c = λ see.
    rw (c.in-Frame.is, frame_env see c.args.world.now c.in-Frame.slots c.in-Frame.cells c.in-Frame.rest, c.in-Some.ensures see _) refl

pub returns-in-None : goal.returns-in-None
returns-in-None t c = absent_outside c.args.world.now c.args.scope.now c.in-Frame.slots c.in-Frame.cells c.in-Frame.rest c.args.slot c.seek-in-None.result c.in-Frame.is c.in-None.ensures c.seek-in-None.ensures
