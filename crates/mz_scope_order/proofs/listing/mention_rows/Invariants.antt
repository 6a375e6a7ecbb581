use Rattle.std.proofs.Common.{◌≡◌, ◌++◌, drop, map}
use Rattle.mz_graph.specs.Graph.{graph_of}
use Rattle.mz_scope_names.specs.Sketches.{sketch}
use Rattle.mz_scope_order.specs.StepsGraphs.{mention_rows}
use Rattle.mz_scope_order.proofs.listing.mention_rows.Given as goal

abbrev pub invariant-loop-o : goal.invariant-loop-o
invariant-loop-o l = mention_rows l.tables.decls (map sketch l.sketches) ≡ graph_of l.rows.items ++ mention_rows l.tables.decls (map sketch (drop l.o-index l.sketches))
