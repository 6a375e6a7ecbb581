use Rattle.mz_eval_names.proofs.CellLaws.{never_lies}
use Rattle.mz_eval_names.proofs.suiting.var_lies.Goals as goal

pub returns-in_ok-g-clause-guards : goal.returns-in_ok-g-clause-guards
returns-in_ok-g-clause-guards c = never_lies c.args.run.now c.never.new.run c.args.u.now c.args.k.now c.in_ok-g.g (c.has_no_value.ensures c.if-has_no_value.true) c.in_ok-g.ensures.guards
