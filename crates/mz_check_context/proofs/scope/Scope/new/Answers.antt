use Rattle.std.proofs.Common.{sym, subst}
use Rattle.mz_check_context.specs.Locals.{AreNewest}
use Rattle.mz_check_context.proofs.Hiding.{none_is_newest}
use Rattle.mz_check_context.proofs.scope.Scope.new.Goals as goal

pub invariant_of-result : goal.invariant_of-result
invariant_of-result c = (c.requires, subst (AreNewest c.new-2.result) (sym c.new.ensures.items) (none_is_newest c.new-2.result c.new-2.ensures))
