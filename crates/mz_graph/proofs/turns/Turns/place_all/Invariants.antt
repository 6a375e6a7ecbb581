use Rattle.std.proofs.Common.{length, ◌-◌}
use Rattle.mz_graph.specs.Graph.{graph_of}
use Rattle.mz_graph.specs.StepsTurns.{line, HasRows, Stands, from_on}
use Rattle.mz_graph.proofs.turns.Turns.place_all.Given as goal

abbrev pub invariant-loop-x : goal.invariant-loop-x
invariant-loop-x l = record { rows : HasRows (length (graph_of l.graph)) (line l.self); stands : Stands (graph_of l.graph) (from_on l.x (length (graph_of l.graph) - l.x)) (line l.self) }
