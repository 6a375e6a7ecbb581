use Rattle.std.proofs.Common.{length, sym, subst}
use Rattle.mz_graph.specs.Graph.{graph_of, Edge}
use Rattle.mz_graph.specs.Order.{IsOrder}
use Rattle.mz_graph.proofs.Tables.{as_many}
use Rattle.mz_graph.specs.StepsTurns.{line, IsNew}
use Rattle.mz_graph.proofs.Placing.{none_placed, no_more_turns, stopped}
use Rattle.mz_graph.proofs.order.order_of.Goals as goal

pub place_all-requires-clause-stands : goal.place_all-requires-clause-stands
place_all-requires-clause-stands c = none_placed (graph_of c.args.graph.now) (line c.in_ok-turns.turns) (subst (λ z. IsNew z (line c.in_ok-turns.turns)) (sym (as_many c.args.graph.now)) c.in_ok-turns.ensures.fresh)

pub returns : goal.returns
returns c = subst (λ z. IsOrder (Edge (graph_of c.args.graph.now)) (length (graph_of c.args.graph.now)) z.items) (sym c.into_order.ensures)
    (no_more_turns (graph_of c.args.graph.now) (line c.turn.new.self) c.in_ok-turn.ensures.stands (stopped c.in_ok-turn.field-0 (line c.turns.turns) (line c.turn.new.self) (cc) c.in_ok-turn.ensures.turned))
