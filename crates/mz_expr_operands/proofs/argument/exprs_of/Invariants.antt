use Rattle.std.proofs.Common.{◌≡◌, map}
use Rattle.std.specs.Prelude.{Some, None, if◌then◌else◌}
use Rattle.mz_tree.specs.Views.{tree}
use Rattle.mz_grammar.specs.Arguments.{trees_of}
use Rattle.mz_expr_operands.specs.Views.{argument}
use Rattle.mz_expr_operands.proofs.argument.exprs_of.Given as goal

abbrev pub invariant-loop-arg : goal.invariant-loop-arg
invariant-loop-arg l = trees_of (map argument l.yielded) ≡ (if l.fit then Some (map tree l.all.items) else None)
