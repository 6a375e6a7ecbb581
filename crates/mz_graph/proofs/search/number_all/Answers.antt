use Rattle.std.proofs.Common.{take, get_or, arith}
use Rattle.std.proofs.lemmas.List.{take_more}
use Rattle.mz_graph.proofs.Membership.{in_at}
use Rattle.mz_graph.proofs.Numbering.{one_more_numbered}
use Rattle.mz_graph.proofs.search.number_all.Goals as goal

pub index_mut-requires : goal.index_mut-requires
index_mut-requires c =
    let h = c.requires _ (in_at c.args.nodes.now c.loop-x.x-index 0 c.loop-x-test.true) in
    omega (arith, h, c.loop-x.invariant.sized)

pub loop-x-preserved : goal.loop-x-preserved
loop-x-preserved c =
    let h = c.requires _ (in_at c.args.nodes.now c.loop-x.x-index 0 c.loop-x-test.true) in
    one_more_numbered c.args.visits.now.items c.loop-x.visits.items (take c.loop-x.x-index c.args.nodes.now) _ (get_or c.args.nodes.now c.loop-x.x-index 0) c.args.number c.loop-x.invariant (take_more c.args.nodes.now c.loop-x.x-index 0 c.loop-x-test.true) (omega (arith, h, c.loop-x.invariant.sized))
