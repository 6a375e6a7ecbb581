use Rattle.std.proofs.Common.{◌≡◌, drop}
use Rattle.mz_globals.specs.Order.{all_different}
use Rattle.glob_order.proofs.of_values.lists.all_different.Given as goal

abbrev pub invariant-loop-k : goal.invariant-loop-k
invariant-loop-k l = all_different (drop l.k l.xs) ≡ all_different l.xs
