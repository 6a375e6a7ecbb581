use Rattle.std.proofs.Common.{map}
use Rattle.mz_tree.specs.Views.{generator}
use Rattle.mz_expr_operands.specs.Views.{argument}
use Rattle.mz_expr_operands.proofs.Arguments.{Taken}
use Rattle.mz_expr_operands.proofs.argument.generators_of.Given as goal

abbrev pub invariant-loop-arg : goal.invariant-loop-arg
invariant-loop-arg l = Taken (map argument l.yielded) l.fit (map generator l.all.items) l.names.items
