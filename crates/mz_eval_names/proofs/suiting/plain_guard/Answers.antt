use Rattle.mz_meaning.specs.Arrays as arrays
use Rattle.mz_eval_declared.proofs.SuitingLaws.{only_sets}
use Rattle.mz_eval_names.proofs.suiting.plain_guard.Goals as goal

pub returns-in-false-true-clause-guards : goal.returns-in-false-true-clause-guards
returns-in-false-true-clause-guards c = only_sets c.args.run.now c.args.var c.args.of_var arrays.Anything c.args.k.now c.surely.result c.in-false-true.is-0 c.in-false-true.is-1 c.surely.ensures
