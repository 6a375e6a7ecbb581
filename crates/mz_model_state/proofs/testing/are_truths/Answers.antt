use Rattle.std.proofs.Common.{◌<◌, arith}
use Rattle.mz_arena.proofs.Folds.{get-below}
use Rattle.mz_model_state.proofs.Ends.{truth_more, all_truths}
use Rattle.mz_model_state.proofs.testing.are_truths.Goals as goal

pub loop-i-preserved : goal.loop-i-preserved
loop-i-preserved c = truth_more c.args.arena.now c.args.roots.now c.loop-i.i c.loop-i.invariant (c.is_truth_at.ensures c.if-not-is_truth_at.false)

pub returns : goal.returns
returns c h = all_truths c.args.arena.now c.args.roots.now (λ i r at. c.loop-i.invariant i r (omega (arith, get-below c.args.roots.now i r at, c.loop-i-test.false)) at)
