use Rattle.mz_graph.specs.Graph.{graph_of}
use Rattle.mz_graph.specs.StepsLayers.{AreRows, in_layers}
use Rattle.mz_graph.proofs.layers.rows_of.Given as goal

abbrev pub invariant-loop-x : goal.invariant-loop-x
invariant-loop-x l = AreRows (in_layers (graph_of l.calls) (graph_of l.mentions) l.of.items l.own.items l.first l.base) l.x (graph_of l.rows.items)
