use Rattle.mz_eval_guards.proofs.ThereLaws.{var_guards}
use Rattle.mz_eval_guards.proofs.there.var_there.Goals as goal

pub returns-clause-guards : goal.returns-clause-guards
returns-clause-guards c = var_guards _ _ c.args.v.now c.in_ok-id.id c.in_ok-id.ensures.tells
