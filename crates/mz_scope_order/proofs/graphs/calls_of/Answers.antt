use Rattle.mz_scope_order.proofs.Making.{members_after}
use Rattle.mz_scope_order.proofs.graphs.calls_of.Goals as goal

pub returns : goal.returns
returns c = members_after _ _ _ _ _ c.in_ok-own.ensures c.in_ok-all.ensures
