use Rattle.std.proofs.Common.{◌≡◌, ◌++◌, drop}
use Rattle.mz_graph.specs.StepsLayers.{raised}
use Rattle.mz_graph.proofs.layers.add_raised.Given as goal

abbrev pub invariant-loop-e : goal.invariant-loop-e
invariant-loop-e l = l.fn.row.items ++ raised l.base l.decls ≡ l.row.items ++ raised l.base (drop l.e-index l.decls)
