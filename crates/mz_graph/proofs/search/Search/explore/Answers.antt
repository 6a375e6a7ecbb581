use Rattle.std.proofs.Common.{◌≡◌, ◌<◌, [], length, sym, ◌∙◌, subst}
use Rattle.mz_graph.specs.Graph.{graph_of}
use Rattle.mz_graph.specs.declared.search.Visit.TheVariants.{Unvisited}
use Rattle.mz_graph.specs.StepsSearch.{trail, visit_of, Holds, StayVisited, Trail}
use Rattle.mz_graph.proofs.Tables.{below_as, none_below}
use Rattle.mz_graph.proofs.Visits.{visit_read}
use Rattle.mz_graph.proofs.Entering.{holds_entered, entered_visits, entered_is_visited}
use Rattle.mz_graph.proofs.search.Search.explore.Goals as goal

pub steps-init : goal.steps-init
steps-init c =
    let inside : c.args.x < length c.args.self.now.visits.items = below_as c.requires.counted c.requires.holds.path.sized in
    let is = visit_read c.args.self.now.visits.items c.args.x c.index.result.now inside c.index.ensures ∙ c.in-Unvisited.is in
    let e = sym c.in_ok-enter.ensures in
    record {
      holds = subst (λ z. Holds (graph_of c.args.graph.now) [] z) e (holds_entered (graph_of c.args.graph.now) [] (trail c.args.self.now) c.args.x c.requires.holds c.requires.counted is (λ q h. absurd (none_below h c.requires.empty)) (λ w a. absurd a));
      visited = subst (λ (z : Trail). StayVisited c.args.self.now.visits.items z.visits) e (entered_visits (graph_of c.args.graph.now) [] (trail c.args.self.now) c.args.x c.requires.holds c.requires.counted);
      mine = subst (λ (z : Trail). visit_of z.visits c.args.x ≡ Unvisited → ⊥) e (entered_is_visited (graph_of c.args.graph.now) [] (trail c.args.self.now) c.args.x c.requires.holds c.requires.counted);
    }
