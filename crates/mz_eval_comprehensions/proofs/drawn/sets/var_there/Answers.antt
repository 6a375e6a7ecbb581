use Rattle.mz_eval_comprehensions.proofs.SetLaws.{drawn_sure}
use Rattle.mz_eval_comprehensions.proofs.drawn.sets.var_there.Goals as goal

pub returns-clause-guards : goal.returns-clause-guards
returns-clause-guards c = drawn_sure _ _ _ _ c.in_ok-g.g c.draw.ensures.same c.in_ok-g.ensures.guards
