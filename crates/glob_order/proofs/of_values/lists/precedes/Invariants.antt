use Rattle.std.proofs.Common.{◌≡◌, drop, false}
use Rattle.mz_globals.specs.Order.{precedes}
use Rattle.glob_order.proofs.of_values.lists.precedes.Given as goal

abbrev pub invariant-loop-x : goal.invariant-loop-x
invariant-loop-x l = precedes l.s l.t l.seen (drop l.x-index l.xs) ≡ precedes l.s l.t false l.xs
