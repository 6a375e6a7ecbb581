use Rattle.std.proofs.Common.{◌≡◌, []}
use Rattle.mz_graph.specs.Graph.{graph_of}
use Rattle.mz_graph.specs.declared.search.Visit.TheVariants.{Unvisited}
use Rattle.mz_graph.specs.StepsSearch.{trail, visit_of, Holds, StayVisited, left}
use Rattle.mz_graph.proofs.search.Search.explore.Given as goal

abbrev pub invariant-steps : goal.invariant-steps
invariant-steps l = record {
  holds : Holds (graph_of l.graph) [] (trail l.self);
  visited : StayVisited l.fn.self.visits.items l.self.visits.items;
  mine : visit_of l.self.visits.items l.x ≡ Unvisited → ⊥;
}

abbrev pub decreases-steps : goal.decreases-steps
decreases-steps l = left (graph_of l.graph) (trail l.self)
