use Rattle.std.proofs.Common.{arith}
use Rattle.glob_nodes.proofs.Saying.{ok_so}
use Rattle.glob_nodes.proofs.Telling.{goes_less, goes_more}
use Rattle.glob_graph.proofs.Rounds.{circuit_cost, circuit_row}
use Rattle.glob_graph.proofs.circuits.circuit.Goals as goal

pub returns-in_err-body-clause-goes : goal.returns-in_err-body-clause-goes
returns-in_err-body-clause-goes c =
    let most = circuit_cost c.args.xs.now.items.items in
    goes_less _ _ c.args.run.now c.round.new.run (omega (arith, most)) c.round.ensures.goes

pub returns-clause-goes : goal.returns-clause-goes
returns-clause-goes c = goes_more _ 6 _ c.args.run.now c.round.new.run c.joined.new.run (circuit_cost c.args.xs.now.items.items) c.in_ok-body.ensures.goes c.joined.ensures.goes

pub returns-clause-row : goal.returns-clause-row
returns-clause-row c = ok_so c.joined.result c.joined.ensures.says (λ id s. circuit_row c.args.run.now c.round.new.run c.joined.new.run c.args.xs.now c.in_ok-body.body id _ 6 c.requires c.in_ok-body.ensures.goes c.in_ok-body.ensures.round c.joined.ensures.goes s)
