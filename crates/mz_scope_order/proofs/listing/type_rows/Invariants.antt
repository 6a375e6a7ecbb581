use Rattle.std.proofs.Common.{◌≡◌, ◌++◌, drop, map}
use Rattle.mz_graph.specs.Graph.{graph_of}
use Rattle.mz_scope_names.specs.Sketches.{sketch}
use Rattle.mz_scope_order.specs.StepsGraphs.{type_rows}
use Rattle.mz_scope_order.proofs.listing.type_rows.Given as goal

abbrev pub invariant-loop-o : goal.invariant-loop-o
invariant-loop-o l = type_rows l.first l.base l.tables.bare l.tables.applied l.tables.decls (map sketch l.sketches) ≡ graph_of l.rows.items ++ type_rows l.first l.base l.tables.bare l.tables.applied l.tables.decls (map sketch (drop l.o-index l.sketches))
