use Rattle.mz_eval_global_terms.proofs.ArgumentLaws.{array_after, array_later}
use Rattle.mz_eval_global_terms.proofs.arguments.two_in.Goals as goal

pub returns-clause-first : goal.returns-clause-first
returns-clause-first c = array_later c.args.a.now _ _ _ c.in_ok-x.x c.numbers_in-2.ensures.goes.back c.in_ok-y.ensures.array.same c.in_ok-x.ensures.array

pub returns-clause-second : goal.returns-clause-second
returns-clause-second c = array_after c.args.b.now _ _ _ c.in_ok-y.y c.numbers_in-2.ensures.goes.back c.in_ok-x.ensures.array.same c.in_ok-y.ensures.array
