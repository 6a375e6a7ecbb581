use Rattle.mz_eval_comprehensions.proofs.WhereLaws.{untold_means}
use Rattle.mz_eval_comprehensions.proofs.drawn.conditions.untold_or_asked.Goals as goal

pub returns-then-is_untold-clause-means : goal.returns-then-is_untold-clause-means
returns-then-is_untold-clause-means c r h = untold_means r c.args.run.now c.nowhere.new.run c.args.k.now c.in_ok-p.p (c.is_untold.ensures c.if-is_untold.true r) c.in_ok-p.ensures.presence h
