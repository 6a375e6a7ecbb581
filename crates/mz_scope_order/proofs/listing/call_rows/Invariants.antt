use Rattle.std.proofs.Common.{◌≡◌, ◌++◌, drop, map}
use Rattle.mz_graph.specs.Graph.{graph_of}
use Rattle.mz_scope_names.specs.Sketches.{sketch}
use Rattle.mz_scope_order.specs.StepsGraphs.{call_rows}
use Rattle.mz_scope_order.proofs.listing.call_rows.Given as goal

abbrev pub invariant-loop-o : goal.invariant-loop-o
invariant-loop-o l = call_rows l.first l.tables.bare l.tables.applied (map sketch l.sketches) ≡ graph_of l.rows.items ++ call_rows l.first l.tables.bare l.tables.applied (map sketch (drop l.o-index l.sketches))
