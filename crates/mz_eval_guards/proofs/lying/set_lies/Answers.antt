use Rattle.mz_eval_guards.proofs.LyingLaws.{subset_tells}
use Rattle.mz_eval_guards.proofs.lying.set_lies.Goals as goal

pub returns-clause-tells : goal.returns-clause-tells
returns-clause-tells c = subset_tells _ _ c.args.x c.args.set c.in_ok-id.id c.in_ok-id.ensures.gives
