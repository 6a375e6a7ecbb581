use Rattle.std.proofs.Common.{arith}
use Rattle.glob_nodes.proofs.Saying.{ok_so}
use Rattle.glob_nodes.proofs.Telling.{goes_less, goes_more}
use Rattle.glob_sets.proofs.Together.{partition_cost, partition_row}
use Rattle.glob_sets.proofs.partition.partition_set.Goals as goal

pub returns-in_err-body-clause-goes : goal.returns-in_err-body-clause-goes
returns-in_err-body-clause-goes c =
    let most = partition_cost c.args.ss.now.items.items in
    goes_less _ _ c.args.run.now c.make_up.new.run (omega (arith, most)) c.make_up.ensures.goes

pub returns-clause-goes : goal.returns-clause-goes
returns-clause-goes c = goes_more _ 18 _ c.args.run.now c.make_up.new.run c.where_both.new.run (partition_cost c.args.ss.now.items.items) c.in_ok-body.ensures.goes c.where_both.ensures.goes

pub returns-clause-row : goal.returns-clause-row
returns-clause-row c = ok_so c.where_both.result c.where_both.ensures.says (λ id s. partition_row c.args.run.now c.make_up.new.run c.where_both.new.run c.args.ss.now c.args.u c.args.none c.in_ok-body.body id _ 18 c.requires.sets c.requires.none c.in_ok-body.ensures.goes c.in_ok-body.ensures.tells c.where_both.ensures.goes s)
