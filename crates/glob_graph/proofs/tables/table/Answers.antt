use Rattle.std.proofs.Common.{arith}
use Rattle.glob_nodes.proofs.Saying.{ok_so}
use Rattle.glob_nodes.proofs.Telling.{goes_less, goes_more}
use Rattle.glob_graph.proofs.Rowwise.{table_cost, table_row}
use Rattle.glob_graph.proofs.tables.table.Goals as goal

pub returns-in_err-body-clause-goes : goal.returns-in_err-body-clause-goes
returns-in_err-body-clause-goes c =
    let most = table_cost c.args.xs.now.items.items c.args.t.now.cells.items in
    goes_less _ _ c.args.run.now c.one_of.new.run (omega (arith, most)) c.one_of.ensures.goes

pub returns-clause-goes : goal.returns-clause-goes
returns-clause-goes c = goes_more _ 6 _ c.args.run.now c.one_of.new.run c.joined.new.run (table_cost c.args.xs.now.items.items c.args.t.now.cells.items) c.in_ok-body.ensures.goes c.joined.ensures.goes

pub returns-clause-row : goal.returns-clause-row
returns-clause-row c = ok_so c.joined.result c.joined.ensures.says (λ id s. table_row c.args.run.now c.one_of.new.run c.joined.new.run c.args.xs.now c.args.t.now c.deref.result.now c.in_ok-body.body id _ 6 c.deref.ensures.value c.requires.count c.requires.whole c.in_ok-body.ensures.goes c.in_ok-body.ensures.tells c.joined.ensures.goes s)
