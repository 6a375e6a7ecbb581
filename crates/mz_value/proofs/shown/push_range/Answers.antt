use Rattle.std.proofs.Common.{◌≡◌, arith}
use Rattle.std.specs.Prelude.{ℤ, pos, ◌+ℤ◌, ◌<ℤ◌}
use Rattle.std.proofs.lemmas.Int.{ints}
use mir.Val.{to_z, of_z}
use mir.Syntax.{w64}
use Rattle.mz_value.specs.Spelling.{spell}
use Rattle.mz_value.proofs.Listed.{above_first, above_more}
use Rattle.mz_value.proofs.shown.push_range.Goals as goal

pub loop-n-init : goal.loop-n-init
loop-n-init c =
    let same : to_z w64 (of_z w64 c.args.range.0) ≡ c.args.range.0 = omega (arith, ints) in
    record {
      low = omega (arith, ints);
      high = omega (arith, ints);
      walk = rw same (above_first (spell c.args.s) c.args.range _ _ (rw same at c.in_ok-push_element.ensures));
    }

pub loop-n-preserved : goal.loop-n-preserved
loop-n-preserved c =
    let n : ℤ = to_z w64 c.loop-n.n-bits in
    let m : ℤ = to_z w64 (of_z w64 (n +ℤ pos 1)) in
    let next : m ≡ n +ℤ pos 1 = omega (arith, ints) in
    let below : n <ℤ c.args.range.1 = omega (arith, ints) in
    record {
      low = omega (arith, ints);
      high = omega (arith, ints);
      walk = above_more (spell c.args.s) n m c.args.range.1 _ _ _ _ below next c.in_ok-push_str.ensures.bytes c.in_ok-push_element-2.ensures c.loop-n.invariant.walk;
    }
