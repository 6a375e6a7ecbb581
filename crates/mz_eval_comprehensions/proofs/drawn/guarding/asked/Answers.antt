use Rattle.mz_eval_comprehensions.proofs.GuardLaws.{drawn_seen}
use Rattle.mz_eval_comprehensions.proofs.drawn.guarding.asked.Goals as goal

pub returns-clause-cell : goal.returns-clause-cell
returns-clause-cell c = drawn_seen _ _ _ _ c.in_ok-x.x c.draw_guard.ensures.same c.in_ok-x.ensures.cell
