use Rattle.mz_scope.proofs.Refusing.{second_there}
use Rattle.mz_scope.proofs.refusals.solve_fault.Goals as goal

pub returns-in-len2-up : goal.returns-in-len2-up
returns-in-len2-up c = second_there c.args.end _ c.args.solves.now c.in-len2-up.len_at_least
