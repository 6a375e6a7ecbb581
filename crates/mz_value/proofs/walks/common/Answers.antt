use Rattle.std.proofs.Common.{rules, arith, inl, inr, get_or}
use Rattle.std.specs.Prelude.{pos, ◌≤ℤ◌, ◌<ℤ◌}
use Rattle.std.proofs.lemmas.Int.{ints}
use mir.Val.{SFits}
use mir.Syntax.{w64}
use Rattle.mz_value.proofs.Steps.{common_step_left, common_step_right, common_end}
use Rattle.mz_value.proofs.walks.common.Goals as goal
use Rattle.mz_value.proofs.walks.common.Goals.{then-loop-i-test+else-j-b, else-loop-i-test}

pub loop-i-preserved-then-a-i : goal.loop-i-preserved-then-a-i
loop-i-preserved-then-a-i c =
    let r = get_or c.args.a.now c.loop-i.i (pos 0, pos 0) in
    let s = get_or c.args.b.now c.loop-i.j (pos 0, pos 0) in
    let f : SFits w64 r.1 = search rules in
    let g : SFits w64 s.1 = search rules in
    let lt : r.1 <ℤ s.1 = omega (arith, ints) in
    record {
      in_a = omega arith;
      in_b = c.loop-i.invariant.in_b;
      walk = common_step_left c.args.a.now c.args.b.now _ _ _ c.loop-i.i c.loop-i.j (pos 0, pos 0) (omega arith) (omega arith) lt c.loop-i.invariant.walk c.in_ok-push_overlap.ensures;
    }

pub loop-i-preserved : goal.loop-i-preserved
loop-i-preserved c =
    let r = get_or c.args.a.now c.loop-i.i (pos 0, pos 0) in
    let s = get_or c.args.b.now c.loop-i.j (pos 0, pos 0) in
    let f : SFits w64 r.1 = search rules in
    let g : SFits w64 s.1 = search rules in
    let le : s.1 ≤ℤ r.1 = omega (arith, ints) in
    record {
      in_a = c.loop-i.invariant.in_a;
      in_b = omega arith;
      walk = common_step_right c.args.a.now c.args.b.now _ _ _ c.loop-i.i c.loop-i.j (pos 0, pos 0) (omega arith) (omega arith) le c.loop-i.invariant.walk c.in_ok-push_overlap.ensures;
    }

pub returns : goal.returns
returns c =
    common_end c.args.a.now c.args.b.now _ _ c.loop-i.i c.loop-i.j
    (elim c.loop-i-test.branch [ then-loop-i-test+else-j-b w ↦ inr (omega arith) | else-loop-i-test w ↦ inl (omega arith) ])
    c.loop-i.invariant.walk
