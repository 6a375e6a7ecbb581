use Rattle.std.proofs.Common.{◌≡◌, ◌++◌}
use Rattle.mz_expr_operands.proofs.argument.joined.Given as goal

abbrev pub invariant-loop-name : goal.invariant-loop-name
invariant-loop-name l = l.all.items ≡ l.fn.names.items ++ l.yielded
