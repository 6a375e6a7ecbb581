use Rattle.std.proofs.Common.{◌∙◌, ap}
use Rattle.mz_operations.specs.Bounds as bounds
use Rattle.mz_meaning.specs.Cells.{Var}
use Rattle.mz_meaning.specs.Comprehensions.{surely}
use Rattle.mz_eval_comprehensions.specs.Drawn.{row_item}
use Rattle.mz_eval_comprehensions.proofs.turns.place_turn.Goals as goal

pub returns-clause-turn : goal.returns-clause-turn
returns-clause-turn c = record {
  same = c.in_ok-cell.ensures.cell.same;
  is = λ r h. ap surely (c.in_ok-cell.ensures.cell.is r h ∙ ap (λ (b : bounds.Bound). Var (bounds.one b) (row_item r c.args.xs.now c.args.n)) c.in_ok-bound.ensures);
}
