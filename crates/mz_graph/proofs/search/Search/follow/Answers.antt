use Rattle.std.proofs.Common.{◌<◌, ◌≤◌, [], ◌∷◌, inl, inr, length, sym, ◌∙◌, subst}
use Rattle.mz_graph.specs.Graph.{graph_of}
use Rattle.mz_graph.specs.StepsSearch.{trail, Holds, left}
use Rattle.mz_graph.proofs.Tables.{below_as, upto_of}
use Rattle.mz_graph.proofs.Visits.{visit_read}
use Rattle.mz_graph.proofs.Entering.{holds_entered, entered_less}
use Rattle.mz_graph.proofs.Following.{to_number}
use Rattle.mz_graph.proofs.search.Search.follow.Goals as goal

pub returns-in_ok-enter-in-Unvisited-clause-holds : goal.returns-in_ok-enter-in-Unvisited-clause-holds
returns-in_ok-enter-in-Unvisited-clause-holds c =
    let inside : c.args.y < length c.args.self.now.visits.items = below_as c.requires.counted c.requires.holds.path.sized in
    let is = visit_read c.args.self.now.visits.items c.args.y c.index.result.now inside c.index.ensures ∙ c.in-Unvisited.is in
    subst (λ z. Holds (graph_of c.args.graph.now) [] z) (sym c.in_ok-enter-in-Unvisited.ensures)
    (holds_entered (graph_of c.args.graph.now) (c.args.y ∷ []) (trail c.args.self.now) c.args.y c.requires.holds c.requires.counted is c.requires.reach (λ w a. elim a [ inl e ↦ e | inr n ↦ absurd n ]))

pub returns-in_ok-enter-in-Unvisited-clause-left : goal.returns-in_ok-enter-in-Unvisited-clause-left
returns-in_ok-enter-in-Unvisited-clause-left c =
    let inside : c.args.y < length c.args.self.now.visits.items = below_as c.requires.counted c.requires.holds.path.sized in
    let is = visit_read c.args.self.now.visits.items c.args.y c.index.result.now inside c.index.ensures ∙ c.in-Unvisited.is in
    let less = entered_less (graph_of c.args.graph.now) (c.args.y ∷ []) (trail c.args.self.now) c.args.y c.requires.holds c.requires.counted is in
    subst (λ z. left (graph_of c.args.graph.now) z ≤ left (graph_of c.args.graph.now) (trail c.args.self.now)) (sym c.in_ok-enter-in-Unvisited.ensures) (upto_of less)

pub returns-in-OnPath-clause-holds : goal.returns-in-OnPath-clause-holds
returns-in-OnPath-clause-holds c =
    let inside : c.args.y < length c.args.self.now.visits.items = below_as c.requires.counted c.requires.holds.path.sized in
    c.merge.ensures.holds (graph_of c.args.graph.now) c.args.y c.requires.holds (visit_read c.args.self.now.visits.items c.args.y c.index.result.now inside c.index.ensures ∙ c.in-OnPath.is) c.requires.reach

pub returns-in-Numbered-clause-holds : goal.returns-in-Numbered-clause-holds
returns-in-Numbered-clause-holds c =
    let inside : c.args.y < length c.args.self.now.visits.items = below_as c.requires.counted c.requires.holds.path.sized in
    to_number (graph_of c.args.graph.now) (trail c.args.self.now) c.args.y c.in-Numbered.field-0 c.requires.holds (visit_read c.args.self.now.visits.items c.args.y c.index.result.now inside c.index.ensures ∙ c.in-Numbered.is)
