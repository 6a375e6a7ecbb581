use Rattle.mz_eval_comprehensions.proofs.SetLaws.{drawn_tells}
use Rattle.mz_eval_comprehensions.proofs.drawn.sets.implied_drawn.Goals as goal

pub returns-clause-tells : goal.returns-clause-tells
returns-clause-tells c = drawn_tells _ _ _ _ c.in_ok-id.id c.draw.ensures.same c.in_ok-id.ensures.tells
