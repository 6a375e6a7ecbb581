use Rattle.mz_scope_order.proofs.NameTables.{assigned_is}
use Rattle.mz_scope_order.proofs.assigned.assigned_in.Goals as goal

pub returns : goal.returns
returns c = λ n. assigned_is n c.args.files.now _ _ _ _ (c.in_ok-places.ensures n) c.as_slice.ensures.value c.in_ok-names.ensures c.in_ok-values.ensures
