use Rattle.std.proofs.Common.{◌≡◌, drop}
use Rattle.mz_globals.specs.Lists.{extreme_from}
use Rattle.glob_order.proofs.of_values.lists.extreme_from.Given as goal

abbrev pub invariant-loop-x : goal.invariant-loop-x
invariant-loop-x l = extreme_from l.side l.acc (drop l.x-index l.others) ≡ extreme_from l.side l.first l.others
