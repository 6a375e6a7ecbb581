use Rattle.mz_eval_declared.specs.Wants.{wanted}
use Rattle.mz_eval_declared.proofs.SuitingLaws.{only_sets}
use Rattle.mz_eval_declared.proofs.sets.argument_suits_in.Goals as goal

pub returns-in-false-true-clause-guards : goal.returns-in-false-true-clause-guards
returns-in-false-true-clause-guards c = only_sets c.args.run.now c.args.result_var c.args.parameter_var (wanted c.args.w.now) c.args.k.now c.set_guard.result c.in-false-true.is-0 c.in-false-true.is-1 c.set_guard.ensures
