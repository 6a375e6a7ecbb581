use Rattle.std.proofs.Common.{arith}
use Rattle.glob_nodes.proofs.Saying.{ok_so}
use Rattle.glob_nodes.proofs.Telling.{goes_less, goes_more}
use Rattle.glob_sets.proofs.Apart.{disjoint_cost, disjoint_row}
use Rattle.glob_sets.proofs.disjoint.all_disjoint.Goals as goal

pub returns-in_err-body-clause-goes : goal.returns-in_err-body-clause-goes
returns-in_err-body-clause-goes c =
    let most = disjoint_cost c.args.ss.now.items.items in
    goes_less _ _ c.args.run.now c.all_apart.new.run (omega (arith, most)) c.all_apart.ensures.goes

pub returns-clause-goes : goal.returns-clause-goes
returns-clause-goes c = goes_more _ 6 _ c.args.run.now c.all_apart.new.run c.joined.new.run (disjoint_cost c.args.ss.now.items.items) c.in_ok-body.ensures.goes c.joined.ensures.goes

pub returns-clause-row : goal.returns-clause-row
returns-clause-row c = ok_so c.joined.result c.joined.ensures.says (λ id s. disjoint_row c.args.run.now c.all_apart.new.run c.joined.new.run c.args.ss.now c.args.none c.in_ok-body.body id _ 6 c.requires.sets c.requires.none c.in_ok-body.ensures.goes c.in_ok-body.ensures.tells c.joined.ensures.goes s)
