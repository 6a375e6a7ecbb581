use Rattle.std.proofs.Common.{rules, arith, inl, inr, get_or}
use Rattle.std.specs.Prelude.{pos, ◌≤ℤ◌, ◌<ℤ◌}
use Rattle.std.proofs.lemmas.Int.{ints}
use mir.Val.{SFits}
use mir.Syntax.{w64}
use Rattle.mz_value.proofs.Steps.{merge_left, merge_right, merge_rests}
use Rattle.mz_value.proofs.walks.merged.Goals as goal
use Rattle.mz_value.proofs.walks.merged.Goals.{then-loop-i-test+else-j-b, else-loop-i-test}

pub loop-i-preserved-then-a-i : goal.loop-i-preserved-then-a-i
loop-i-preserved-then-a-i c =
    let r = get_or c.args.a.now c.loop-i.i (pos 0, pos 0) in
    let s = get_or c.args.b.now c.loop-i.j (pos 0, pos 0) in
    let f : SFits w64 r.0 = search rules in
    let g : SFits w64 s.0 = search rules in
    let le : r.0 ≤ℤ s.0 = omega (arith, ints) in
    record {
      in_a = omega arith;
      in_b = c.loop-i.invariant.in_b;
      walk = merge_left c.args.a.now c.args.b.now _ _ _ c.loop-i.i c.loop-i.j (pos 0, pos 0) (omega arith) (omega arith) le c.loop-i.invariant.walk (c.in_ok-push.ensures.items);
    }

pub loop-i-preserved : goal.loop-i-preserved
loop-i-preserved c =
    let r = get_or c.args.a.now c.loop-i.i (pos 0, pos 0) in
    let s = get_or c.args.b.now c.loop-i.j (pos 0, pos 0) in
    let f : SFits w64 r.0 = search rules in
    let g : SFits w64 s.0 = search rules in
    let lt : s.0 <ℤ r.0 = omega (arith, ints) in
    record {
      in_a = c.loop-i.invariant.in_a;
      in_b = omega arith;
      walk = merge_right c.args.a.now c.args.b.now _ _ _ c.loop-i.i c.loop-i.j (pos 0, pos 0) (omega arith) (omega arith) lt c.loop-i.invariant.walk (c.in_ok-push-2.ensures.items);
    }

pub returns : goal.returns
returns c =
    merge_rests c.args.a.now c.args.b.now _ _ _ _ c.loop-i.i c.loop-i.j
    (elim c.loop-i-test.branch [ then-loop-i-test+else-j-b w ↦ inr (omega arith) | else-loop-i-test w ↦ inl (omega arith) ])
    c.loop-i.invariant.walk c.in_ok-extend_from_slice.ensures.items c.in_ok-extend_from_slice-2.ensures.items
