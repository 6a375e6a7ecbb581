use Rattle.mz_eval_guards.proofs.LyingLaws.{single_guards}
use Rattle.mz_eval_guards.proofs.lying.single_lies.Goals as goal

pub returns-clause-guards : goal.returns-clause-guards
returns-clause-guards c = single_guards 0 18 c.args.run.now c.symbol_in.new.run c.set_within.new.run c.symbol_lies.new.run c.args.k.now c.args.u.now c.in-Ok.s c.in_ok-w.w c.in_ok-id.id c.in-Ok.ensures.means c.in_ok-w.ensures.goes c.in_ok-w.ensures.within c.in_ok-id.ensures.goes c.in_ok-id.ensures.tells
