use Rattle.mz_globals.specs.Scheduling.{weight_in}
use Rattle.glob_order.proofs.Sums.{IsSoFar}
use Rattle.glob_sched.proofs.of_values.packing.load.Given as goal

abbrev pub invariant-loop-thing : goal.invariant-loop-thing
invariant-loop-thing l = IsSoFar (weight_in l.bin) l.things l.thing-index l.acc
