use Rattle.mz_graph.specs.Graph.{graph_of}
use Rattle.mz_graph.specs.Depends.{NoneOnCycle}
use Rattle.mz_graph.proofs.cycle.first_on_cycle.Given as goal

abbrev pub invariant-loop-x : goal.invariant-loop-x
invariant-loop-x l = NoneOnCycle (graph_of l.graph) l.from l.x
