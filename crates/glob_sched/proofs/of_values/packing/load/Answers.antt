use Rattle.std.proofs.Common.{pos, arith}
use Rattle.std.proofs.lemmas.Int.{ints, to_z-of_z}
use Rattle.std.specs.Int.{w128}
use mir.Val.{to_z, of_z}
use Rattle.mz_globals.specs.Scheduling.{weight_in}
use Rattle.glob_order.proofs.Sums.{summed_more}
use Rattle.glob_sched.proofs.of_values.packing.load.Goals as goal

pub loop-thing-preserved : goal.loop-thing-preserved
loop-thing-preserved c = record {
  whole = summed_more (weight_in (to_z w128 (of_z w128 c.args.bin))) c.args.things.now c.loop-thing.thing-index (pos 0, pos 0) _ _ _ (omega arith) (grind (arith, ints, to_z-of_z)) c.loop-thing.invariant.whole;
  low = omega (arith, ints);
  high = omega (arith, ints);
}
