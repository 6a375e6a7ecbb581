use Rattle.mz_scope_order.proofs.Following as following
use Rattle.mz_scope_order.proofs.law.cycle_by_uses.Goals as goal

pub returns-clause-back : goal.returns-clause-back
returns-clause-back c = λ decls functions node base f types k h l. following.cycle_by_uses decls functions node base types k f h l

pub returns-clause-cycle : goal.returns-clause-cycle
returns-clause-cycle c = λ decls functions node base f types k h l. following.uses_by_cycle decls functions node base types k f h l
