use Rattle.std.proofs.Common.{◌≡◌, ℕ, [], ◌∷◌, length}
use Rattle.mz_graph.specs.Graph.{Graph}
use Rattle.mz_graph.specs.declared.search.Visit.TheVariants.{OnPath}
use Rattle.mz_graph.specs.StepsSearch.{trail, visit_of, Holds, AllReach, BeginsPath, HasSamePath}
use Rattle.mz_graph.proofs.search.Search.merge.Given as goal

abbrev pub invariant-loop-self : goal.invariant-loop-self
invariant-loop-self l = record {
  begins : BeginsPath l.self.starts.items;
  paired : length l.self.floors.items ≡ length l.self.starts.items;
  path : HasSamePath (trail l.fn.self) (trail l.self);
  holds : (g : Graph) (y : ℕ) → Holds g (y ∷ []) (trail l.fn.self) → visit_of l.fn.self.visits.items y ≡ OnPath l.p → AllReach g (trail l.fn.self) y → Holds g (y ∷ []) (trail l.self);
}

abbrev pub decreases-loop-self : goal.decreases-loop-self
decreases-loop-self l = length l.self.starts.items
