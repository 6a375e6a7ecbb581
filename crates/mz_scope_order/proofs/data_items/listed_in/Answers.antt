use Rattle.mz_scope_order.proofs.NameTables.{listed_is}
use Rattle.mz_scope_order.proofs.data_items.listed_in.Goals as goal

pub returns : goal.returns
returns c = λ n. listed_is n c.args.items.now _ _ _ (c.in_ok-places.ensures n) c.as_slice.ensures.value c.in_ok-names.ensures
