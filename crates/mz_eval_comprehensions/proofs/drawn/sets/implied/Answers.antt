use Rattle.mz_eval_comprehensions.proofs.SetLaws.{implied_tells}
use Rattle.mz_eval_comprehensions.proofs.drawn.sets.implied.Goals as goal

pub returns-clause-tells : goal.returns-clause-tells
returns-clause-tells c = implied_tells 6 _ _ _ c.args.a c.args.b c.in_ok-no.no c.in_ok-id.id c.in_ok-no.ensures.says c.in_ok-id.ensures.goes c.in_ok-id.ensures.says
