use Rattle.mz_scope_order.specs.Scoped.{scoped_tree}
use Rattle.mz_check_context.specs.Known.{known}
use Rattle.mz_check_exprs.proofs.Taken.{HavePassed}
use Rattle.mz_check_exprs.proofs.duplicates.duplicate.Given as goal

abbrev pub invariant-loop-f : goal.invariant-loop-f
invariant-loop-f l = HavePassed (scoped_tree l.scoped) (known l.context) l.functions l.f-index l.before
