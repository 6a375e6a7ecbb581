use Rattle.std.proofs.Common.{refl, ap, sym, subst, ◌≤◌, length, arith}
use Rattle.mz_graph.specs.Graph.{graph_of}
use Rattle.mz_graph.proofs.Tables.{as_many, upto_as, below_upto, none_below}
use Rattle.mz_graph.specs.StepsSearch.{trail, IsNew}
use Rattle.mz_graph.proofs.Visits.{one_more_visited}
use Rattle.mz_graph.proofs.Entering.{nothing_visited}
use Rattle.mz_graph.proofs.Numbering.{code_components}
use Rattle.mz_graph.proofs.components.components_of.Goals as goal

pub explore-requires-clause-empty : goal.explore-requires-clause-empty
explore-requires-clause-empty c = c.loop-x.invariant.empty

pub loop-x-init : goal.loop-x-init
loop-x-init c =
    let start = trail c.in_ok-search.search in
    record {
      holds = nothing_visited (graph_of c.args.graph.now) start (subst (λ z. IsNew z start) (sym (as_many c.args.graph.now)) c.in_ok-search.ensures);
      empty = ap length c.in_ok-search.ensures.path;
      visited = λ y h e. none_below h refl;
    }

pub loop-x-preserved : goal.loop-x-preserved
loop-x-preserved c = record {
  holds = c.in_ok-explore.ensures.holds;
  empty = c.in_ok-explore.ensures.empty;
  visited = one_more_visited c.loop-x.search.visits.items c.explore.new.self.visits.items c.loop-x.x c.in_ok-explore.ensures.visited c.loop-x.invariant.visited c.in_ok-explore.ensures.explored;
}

pub returns-clause-components : goal.returns-clause-components
returns-clause-components c =
    let all : length (graph_of c.args.graph.now) ≤ c.loop-x.x = upto_as c.loop-x-test.false (as_many c.args.graph.now) in
    code_components (graph_of c.args.graph.now) (trail c.loop-x.search) c.in_ok-of.of.items c.as_slice.result.now c.len.result c.requires c.loop-x.invariant.holds c.loop-x.invariant.empty (λ x h. c.loop-x.invariant.visited x (below_upto h all))
    c.as_slice.ensures.value c.in_ok-of.ensures (omega (arith, c.len.ensures))
