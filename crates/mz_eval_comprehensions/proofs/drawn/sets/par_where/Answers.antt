use Rattle.mz_eval_comprehensions.proofs.SetLaws.{there_where, none_where}
use Rattle.mz_eval_comprehensions.proofs.drawn.sets.par_where.Goals as goal

pub returns-then-b-clause-guards : goal.returns-then-b-clause-guards
returns-then-b-clause-guards c = there_where _ _ c.args.d c.in_ok-yes.yes c.args.b c.if-b.true c.in_ok-yes.ensures.says

pub returns-clause-guards : goal.returns-clause-guards
returns-clause-guards c = none_where _ _ _ c.args.d c.in_ok-no.no c.args.b c.if-b.false c.draw.ensures.same c.in_ok-no.ensures.says
