use Rattle.std.proofs.Common.{◌<◌, length, subst}
use Rattle.mz_graph.specs.Graph.{graph_of}
use Rattle.mz_graph.proofs.Tables.{as_many, below_as}
use Rattle.mz_graph.specs.StepsTurns.{line, Stands}
use Rattle.mz_graph.proofs.Placing.{first_from}
use Rattle.mz_graph.proofs.turns.Turns.place_all.Goals as goal

pub loop-x-preserved : goal.loop-x-preserved
loop-x-preserved c =
    let h : c.loop-x.x < length (graph_of c.args.graph.now) = below_as c.loop-x-test.true (as_many c.args.graph.now) in
    record {
      rows = c.in_ok-place.ensures.rows;
      stands = c.in_ok-place.ensures.stands _ (subst (λ z. Stands (graph_of c.args.graph.now) z (line c.loop-x.self)) (first_from c.loop-x.x (length (graph_of c.args.graph.now)) h) c.loop-x.invariant.stands);
    }
