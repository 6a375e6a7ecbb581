use Rattle.std.proofs.Common.{◌≡◌, ◌<◌, ℕ, [], length}
use Rattle.mz_graph.specs.Graph.{graph_of}
use Rattle.mz_graph.specs.declared.search.Visit.TheVariants.{Unvisited}
use Rattle.mz_graph.specs.StepsSearch.{trail, visit_of, Holds}
use Rattle.mz_graph.proofs.components.components_of.Given as goal

abbrev pub invariant-loop-x : goal.invariant-loop-x
invariant-loop-x l = record {
  holds : Holds (graph_of l.graph) [] (trail l.search);
  empty : length l.search.path.items ≡ 0;
  visited : (y : ℕ) → y < l.x → visit_of l.search.visits.items y ≡ Unvisited → ⊥;
}
