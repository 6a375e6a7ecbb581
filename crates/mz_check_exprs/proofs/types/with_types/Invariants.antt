use Rattle.std.proofs.Common.{map, drop}
use Rattle.mz_scope_order.specs.Scoped.{scoped_tree}
use Rattle.mz_scope_order.specs.Subjects.{subject}
use Rattle.mz_check_context.specs.Known.{known}
use Rattle.mz_check_exprs.proofs.New.{AreLeft}
use Rattle.mz_check_exprs.proofs.types.with_types.Given as goal

abbrev pub invariant-loop-k : goal.invariant-loop-k
invariant-loop-k l = AreLeft (scoped_tree l.scoped) (known l.fn.context) (known l.context) (map subject (drop l.k l.order)) (map subject l.order)
