use Rattle.std.proofs.Common.{ap, sym}
use Rattle.mz_meaning.specs.Comprehensions.{counted_set}
use Rattle.mz_eval_comprehensions.specs.Presences.{where_true}
use Rattle.mz_eval_comprehensions.proofs.SetLaws.{like_sure}
use Rattle.mz_eval_comprehensions.proofs.drawn.sets.counted_where.Goals as goal

pub returns-in-Some-clause-guards : goal.returns-in-Some-clause-guards
returns-in-Some-clause-guards c = like_sure c.par_where.result _ _ _ _ (λ r. ap (counted_set r.mode (where_true r c.args.d)) (sym (c.in-Some.ensures r))) c.par_where.ensures.guards
