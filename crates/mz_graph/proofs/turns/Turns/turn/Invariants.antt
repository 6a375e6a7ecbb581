use Rattle.std.proofs.Common.{◌≡◌, length, drop, set, true}
use Rattle.mz_graph.specs.Graph.{graph_of}
use Rattle.mz_graph.specs.StepsTurns.{line, HasRows, Stands}
use Rattle.mz_graph.proofs.turns.Turns.turn.Given as goal

abbrev pub invariant-loop-y : goal.invariant-loop-y
invariant-loop-y l = record { rows : HasRows (length (graph_of l.graph)) (line l.self); stands : Stands (graph_of l.graph) (drop l.y-index l.y-items) (line l.self); done : l.self.done.items ≡ set l.fn.self.done.items l.x true }
