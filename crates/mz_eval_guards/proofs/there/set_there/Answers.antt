use Rattle.mz_eval_guards.proofs.ThereLaws.{set_tells}
use Rattle.mz_eval_guards.proofs.there.set_there.Goals as goal

pub returns-clause-tells : goal.returns-clause-tells
returns-clause-tells c = set_tells _ _ c.args.x c.in_ok-id.id c.in_ok-id.ensures.gives
