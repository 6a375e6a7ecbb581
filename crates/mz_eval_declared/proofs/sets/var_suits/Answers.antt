use Rattle.std.proofs.Common.{ap}
use Rattle.mz_eval_declared.specs.Wants.{wanted}
use Rattle.mz_eval_declared.proofs.SuitingLaws.{missing_suits}
use Rattle.mz_eval_declared.proofs.sets.var_suits.Goals as goal

pub returns-in-Missing-clause-guards : goal.returns-in-Missing-clause-guards
returns-in-Missing-clause-guards c = missing_suits c.args.run.now (wanted c.args.w.now) c.args.k.now c.unsure.result (ap wanted c.in-Missing.is) c.unsure.ensures
