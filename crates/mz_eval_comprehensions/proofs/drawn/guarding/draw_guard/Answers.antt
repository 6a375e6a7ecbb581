use Rattle.std.proofs.Common.{◌∙◌, ◌+◌, ◌*◌, IfOk, ap, subst}
use Rattle.mz_symbol.specs.Makes.{Spares}
use Rattle.mz_eval_comprehensions.proofs.drawn.guarding.draw_guard.Goals as goal

pub returns-clause-spares : goal.returns-clause-spares
returns-clause-spares c = subst (λ n. IfOk c.draw.result (λ _. Spares n c.args.run.now c.draw.new.self)) (c.in-Some.ensures ∙ ap (λ m. 28 + 36 * m) c.item_count.ensures) c.draw.ensures.spares
