use Rattle.std.proofs.Common.{pos, arith, w64}
use Rattle.std.proofs.lemmas.Int.{ints, to_z-of_z}
use mir.Val.{to_z, of_z}
use Rattle.mz_globals.specs.Scheduling.{taken_at}
use Rattle.glob_order.proofs.Sums.{summed_more}
use Rattle.glob_sched.proofs.of_values.tasks.used_at.Goals as goal

pub loop-u-preserved : goal.loop-u-preserved
loop-u-preserved c = record {
  whole = summed_more (taken_at (to_z w64 (of_z w64 c.args.t))) c.args.us.now c.loop-u.u-index ((pos 0, pos 0), pos 0) _ _ _ (omega arith) (grind (arith, ints, to_z-of_z)) c.loop-u.invariant.whole;
  low = omega (arith, ints);
  high = omega (arith, ints);
}
