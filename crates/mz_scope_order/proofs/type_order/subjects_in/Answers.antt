use Rattle.mz_graph.proofs.Membership.{in_at}
use Rattle.mz_scope_order.proofs.type_order.subjects_in.Goals as goal

pub add_subject-requires : goal.add_subject-requires
add_subject-requires c = c.requires _ (in_at c.args.nodes.now c.loop-node.node-index 0 c.loop-node-test.true)
