use Rattle.mz_graph.specs.Graph.{graph_of}
use Rattle.mz_scope_order.proofs.graphs.with_members.Goals as goal

pub returns : goal.returns
returns c = record { members = graph_of c.in_ok-members.members.items; sorted = c.in_ok-members.ensures; is = c.in_ok-all.ensures }
