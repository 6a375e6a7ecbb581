use Rattle.std.proofs.Common.{length, []}
use Rattle.mz_graph.specs.Graph.{graph_of}
use Rattle.mz_graph.specs.StepsTurns.{line, HasRows, Stands, open_turns}
use Rattle.mz_graph.proofs.order.order_of.Given as goal

abbrev pub invariant-turns : goal.invariant-turns
invariant-turns l = record { rows : HasRows (length (graph_of l.graph)) (line l.turns); stands : Stands (graph_of l.graph) [] (line l.turns) }

abbrev pub decreases-turns : goal.decreases-turns
decreases-turns l = open_turns l.turns.done.items
