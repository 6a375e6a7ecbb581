use Rattle.std.proofs.Common.{sym, ◌∙◌}
use Rattle.mz_scope_order.proofs.NameTables.{kept, added}
use Rattle.mz_scope_order.proofs.first_places.Places.add.Goals as goal

pub returns-then-contains_key : goal.returns-then-contains_key
returns-then-contains_key c = λ n. kept c.args.self.now.places.entries c.args.name n c.args.place (sym c.contains_key.ensures ∙ c.if-contains_key.true)

pub returns : goal.returns
returns c = λ n. added c.args.self.now.places.entries c.args.name n c.args.place _ (sym c.contains_key.ensures ∙ c.if-contains_key.false) (c.in_ok-insert.ensures.updates.0 n)
