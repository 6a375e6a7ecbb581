use Rattle.std.proofs.Common.{◌≡◌, arith, get_or}
use Rattle.std.specs.Prelude.{pos, ◌+ℤ◌, ◌-ℤ◌}
use Rattle.std.proofs.lemmas.Int.{ints}
use mir.Val.{to_z, of_z}
use mir.Syntax.{w64}
use Rattle.mz_value.proofs.Sizes.{limit_at}
use Rattle.mz_value.proofs.Steps.{gaps_step, gaps_last}
use Rattle.mz_value.proofs.walks.gaps.Goals as goal

pub overflow_sub-r : goal.overflow_sub-r
overflow_sub-r c = let limits = limit_at c.args.ranges.now c.loop-r.r-index (pos 0, pos 0) c.requires (omega arith) in omega (arith, ints)

pub overflow_add-lo : goal.overflow_add-lo
overflow_add-lo c = let limits = limit_at c.args.ranges.now c.loop-r.r-index (pos 0, pos 0) c.requires (omega arith) in omega (arith, ints)

pub loop-r-preserved : goal.loop-r-preserved
loop-r-preserved c =
    let r = get_or c.args.ranges.now c.loop-r.r-index (pos 0, pos 0) in
    let limits = limit_at c.args.ranges.now c.loop-r.r-index (pos 0, pos 0) c.requires (omega arith) in
    let next : to_z w64 (of_z w64 (to_z w64 (of_z w64 r.1) +ℤ pos 1)) ≡ r.1 +ℤ pos 1 = omega (arith, ints) in
    let before : to_z w64 (of_z w64 (to_z w64 (of_z w64 r.0) -ℤ pos 1)) ≡ r.0 -ℤ pos 1 = omega (arith, ints) in
    record {
      low = omega (arith, ints);
      high = omega (arith, ints);
      walk = rw next (gaps_step c.args.ranges.now _ _ _ c.loop-r.r-index (pos 0, pos 0) (to_z w64 c.loop-r.lo-bits) (omega arith) c.loop-r.invariant.walk (rw before at c.in_ok-push_range.ensures));
    }

pub returns : goal.returns
returns c =
    gaps_last c.args.ranges.now _ _ _ c.loop-r.r-index (to_z w64 c.loop-r.lo-bits) (omega arith) c.loop-r.invariant.walk c.in_ok-push_range-2.ensures
