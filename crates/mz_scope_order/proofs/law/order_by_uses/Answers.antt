use Rattle.mz_scope_order.proofs.Following as following
use Rattle.mz_scope_order.proofs.law.order_by_uses.Goals as goal

pub returns : goal.returns
returns c = λ decls functions node calls mentions decl_calls decl_mentions order k o. following.order_by_uses decls functions node calls mentions decl_calls decl_mentions k order o
