use Rattle.std.proofs.Common.{◌≡◌, drop}
use Rattle.mz_operations.specs.Numbers.{ordered}
use Rattle.mz_globals.specs.Lists.{stepwise_from}
use Rattle.glob_order.proofs.of_values.lists.ordered_from.Given as goal

abbrev pub invariant-loop-y : goal.invariant-loop-y
invariant-loop-y l = stepwise_from (ordered l.op) l.before (drop l.y-index l.others) ≡ stepwise_from (ordered l.op) l.first l.others
