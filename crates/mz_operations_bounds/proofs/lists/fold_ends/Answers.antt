use Rattle.std.proofs.Common.{rules}
use Rattle.mz_operations_bounds.proofs.Folding.{step_inside}
use Rattle.mz_operations_bounds.proofs.lists.fold_ends.Goals as goal

pub returns-in-Some : goal.returns-in-Some
returns-in-Some c = step_inside c.args.op c.args.acc.now c.in-Some.inside c.args.e.now c.taken_in.result (search rules) c.taken_in.ensures
