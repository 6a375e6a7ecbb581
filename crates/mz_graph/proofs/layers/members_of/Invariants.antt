use Rattle.mz_graph.specs.Graph.{graph_of}
use Rattle.mz_graph.specs.Members.{AreMembers}
use Rattle.mz_graph.proofs.layers.members_of.Given as goal

abbrev pub invariant-loop-f : goal.invariant-loop-f
invariant-loop-f l = AreMembers l.of.items l.count l.f (graph_of l.members.items)
