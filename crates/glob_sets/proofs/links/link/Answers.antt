use Rattle.std.proofs.Common.{arith}
use Rattle.glob_nodes.proofs.Saying.{ok_so}
use Rattle.glob_nodes.proofs.Telling.{goes_less, goes_more}
use Rattle.glob_sets.proofs.Linking.{link_cost, link_row}
use Rattle.glob_sets.proofs.links.link.Goals as goal

pub returns-in_err-body-clause-goes : goal.returns-in_err-body-clause-goes
returns-in_err-body-clause-goes c =
    let most = link_cost c.args.bs.now.items.items in
    goes_less _ _ c.args.run.now c.are_linked.new.run (omega (arith, most)) c.are_linked.ensures.goes

pub returns-clause-goes : goal.returns-clause-goes
returns-clause-goes c = goes_more _ 18 _ c.args.run.now c.are_linked.new.run c.where_both.new.run (link_cost c.args.bs.now.items.items) c.in_ok-body.ensures.goes c.where_both.ensures.goes

pub returns-clause-row : goal.returns-clause-row
returns-clause-row c = ok_so c.where_both.result c.where_both.ensures.says (λ id s. link_row c.args.run.now c.are_linked.new.run c.where_both.new.run c.args.s c.args.bs.now c.in_ok-body.body id _ 18 c.requires c.in_ok-body.ensures.goes c.in_ok-body.ensures.tells c.where_both.ensures.goes s)
