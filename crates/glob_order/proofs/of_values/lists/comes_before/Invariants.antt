use Rattle.std.proofs.Common.{◌≡◌, ◌≤◌, drop, length}
use Rattle.mz_globals.specs.Order.{comes_before}
use Rattle.glob_order.proofs.of_values.lists.comes_before.Given as goal

abbrev pub invariant-loop-k : goal.invariant-loop-k
invariant-loop-k l = (l.k ≤ length l.ys) × (comes_before l.equal (drop l.k l.xs) (drop l.k l.ys) ≡ comes_before l.equal l.xs l.ys)
