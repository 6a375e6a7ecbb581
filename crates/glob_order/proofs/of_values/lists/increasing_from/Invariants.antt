use Rattle.std.proofs.Common.{◌≡◌, drop, int_le}
use Rattle.mz_globals.specs.Lists.{stepwise_from}
use Rattle.glob_order.proofs.of_values.lists.increasing_from.Given as goal

abbrev pub invariant-loop-y : goal.invariant-loop-y
invariant-loop-y l = stepwise_from int_le l.before (drop l.y-index l.others) ≡ stepwise_from int_le l.first l.others
