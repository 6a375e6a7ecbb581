use Rattle.mz_eval_guards.proofs.ArrayLaws.{array_guards}
use Rattle.mz_eval_guards.proofs.lying.array_lies.Goals as goal

pub returns-clause-guards : goal.returns-clause-guards
returns-clause-guards c = array_guards 0 _ c.args.run.now c.line_in.new.run c.set_within.new.run c.each_lies.new.run c.args.k.now c.args.u.now c.in-Ok.line c.in_ok-found.found.0 c.in_ok-found.found.1.items c.in_ok-w.w c.in_ok-id.id c.in-Ok.ensures.means c.in_ok-found.ensures.items c.in_ok-w.ensures.goes c.in_ok-w.ensures.within c.in_ok-id.ensures.goes c.in_ok-id.ensures.tells
