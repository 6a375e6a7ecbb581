use Rattle.std.proofs.Common.{◌≡◌, [], replicate}
use Rattle.mz_graph.specs.Graph.{graph_of}
use Rattle.mz_graph.proofs.rows.empty_rows.Given as goal

abbrev pub invariant-loop : goal.invariant-loop
invariant-loop l = graph_of l.rows.items ≡ replicate l.counter []
