use Rattle.std.proofs.Common.{arith, ◌∙◌, get_or}
use Rattle.std.specs.Prelude.{pos, ◌+ℤ◌}
use Rattle.std.proofs.lemmas.Int.{ints, clamps}
use Rattle.mz_value.proofs.Sizes.{limit_at}
use Rattle.mz_value.proofs.Comparisons.{fails}
use Rattle.mz_value.proofs.Steps.{join_on, join_apart, join_last}
use Rattle.mz_value.proofs.walks.joined_from.Goals as goal
use Rattle.mz_value.proofs.walks.joined_from.Goals.{then-touches, else-touches+in_ok-push}

pub loop-next-preserved : goal.loop-next-preserved
loop-next-preserved c =
    let next = get_or c.args.rest.now c.loop-next.next-index (pos 0, pos 0) in
    let limits = limit_at c.args.rest.now c.loop-next.next-index (pos 0, pos 0) c.requires.2 (omega arith) in
    elim c.if-touches.branch [
      | then-touches w ↦
          (let now = w.last-is ∙ w.grown-last.ensures in
          record {
            least = rw now c.loop-next.invariant.least;
            greatest = rw now (omega (arith, ints, clamps), omega (arith, ints, clamps));
            walk = rw (w.all-is, now) (join_on c.args.rest.now _ _ c.loop-next.next-index (pos 0, pos 0) c.loop-next.last (omega arith) (c.touches.ensures.0 w.if-touches.true) c.loop-next.invariant.walk);
          })
      | else-touches+in_ok-push w ↦
          (record {
            least = rw w.last-is limits.0;
            greatest = rw w.last-is limits.1;
            walk = rw (w.all-is, w.last-is) (join_apart c.args.rest.now _ _ _ c.loop-next.next-index (pos 0, pos 0) c.loop-next.last (omega arith) (fails _ next.0 (c.loop-next.last.1 +ℤ pos 1) c.touches.ensures w.if-touches.false) c.loop-next.invariant.walk w.in_ok-push.ensures.items);
          })
    ]

pub returns : goal.returns
returns c = join_last c.args.rest.now _ _ _ c.loop-next.next-index c.loop-next.last (omega arith) c.loop-next.invariant.walk c.in_ok-push-2.ensures.items
