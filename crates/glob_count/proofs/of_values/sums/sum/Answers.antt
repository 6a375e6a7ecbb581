use Rattle.std.proofs.Common.{pos, arith}
use Rattle.std.proofs.lemmas.Int.{ints, to_z-of_z}
use Rattle.glob_order.proofs.Sums.{summed_more}
use Rattle.glob_count.proofs.of_values.sums.sum.Goals as goal

pub loop-x-preserved : goal.loop-x-preserved
loop-x-preserved c = record {
  whole = summed_more (λ x. x) c.args.xs.now c.loop-x.x-index (pos 0) _ _ _ (omega arith) (grind (arith, ints, to_z-of_z)) c.loop-x.invariant.whole;
  low = omega (arith, ints);
  high = omega (arith, ints);
}
