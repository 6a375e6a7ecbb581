use Rattle.std.proofs.Common.{◌≡◌, ◌++◌, drop}
use Rattle.mz_scope_order.specs.StepsPlaces.{mentions_in}
use Rattle.mz_scope_order.proofs.listing.add_mentions.Given as goal

abbrev pub invariant-loop-u : goal.invariant-loop-u
invariant-loop-u l = l.fn.row.items ++ mentions_in l.base l.tables.decls l.uses ≡ l.row.items ++ mentions_in l.base l.tables.decls (drop l.u-index l.uses)
