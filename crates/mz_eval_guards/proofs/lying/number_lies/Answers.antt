use Rattle.mz_eval_guards.proofs.LyingLaws.{member_tells}
use Rattle.mz_eval_guards.proofs.lying.number_lies.Goals as goal

pub returns-clause-tells : goal.returns-clause-tells
returns-clause-tells c = member_tells _ _ c.args.x c.args.set c.in_ok-id.id c.in_ok-id.ensures.gives
