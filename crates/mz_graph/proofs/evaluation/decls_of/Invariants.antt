use Rattle.std.proofs.Common.{◌≡◌, ◌++◌, drop}
use Rattle.mz_graph.specs.StepsLayers.{decls_in}
use Rattle.mz_graph.proofs.evaluation.decls_of.Given as goal

abbrev pub invariant-loop-x : goal.invariant-loop-x
invariant-loop-x l = decls_in l.base l.order ≡ l.decls.items ++ decls_in l.base (drop l.x-index l.order)
