use Rattle.std.proofs.Common.{arith, take, get_or}
use Rattle.std.proofs.lemmas.List.{take_more}
use Rattle.mz_graph.proofs.Membership.{in_at}
use Rattle.mz_graph.proofs.Reading.{marks_more}
use Rattle.mz_graph.proofs.evaluation.first_left.Goals as goal

pub index_mut-requires : goal.index_mut-requires
index_mut-requires c = let h = c.requires _ (in_at c.args.order.now c.loop-x.x-index 0 c.loop-x-test.true) in omega (arith, h, c.loop-x.invariant.sized)

pub loop-x-preserved : goal.loop-x-preserved
loop-x-preserved c = marks_more c.args.count (get_or c.args.order.now c.loop-x.x-index 0) (take c.loop-x.x-index c.args.order.now) _ c.loop-x.marks.items c.loop-x.invariant (take_more c.args.order.now c.loop-x.x-index 0 c.loop-x-test.true) (c.requires _ (in_at c.args.order.now c.loop-x.x-index 0 c.loop-x-test.true))
