use Rattle.mz_eval_comprehensions.proofs.GuardLaws.{always_told}
use Rattle.mz_eval_comprehensions.proofs.drawn.guarding.is_always.Goals as goal

pub returns-clause-always : goal.returns-clause-always
returns-clause-always c = always_told _ _ c.in_ok-yes.yes c.args.d c.in_ok-yes.ensures.says
