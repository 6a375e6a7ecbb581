use Rattle.std.proofs.Common.{◌≡◌, ◌++◌, drop}
use Rattle.mz_scope_order.specs.StepsPlaces.{callees_in}
use Rattle.mz_scope_order.proofs.listing.add_callees.Given as goal

abbrev pub invariant-loop-u : goal.invariant-loop-u
invariant-loop-u l = l.fn.row.items ++ callees_in l.first l.tables.bare l.tables.applied l.uses ≡ l.row.items ++ callees_in l.first l.tables.bare l.tables.applied (drop l.u-index l.uses)
