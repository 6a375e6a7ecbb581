use Rattle.std.proofs.Common.{◌≡◌, drop}
use Rattle.mz_globals.specs.Order.{different_but_zero}
use Rattle.glob_order.proofs.of_values.lists.different_but_zero.Given as goal

abbrev pub invariant-loop-k : goal.invariant-loop-k
invariant-loop-k l = different_but_zero (drop l.k l.xs) ≡ different_but_zero l.xs
