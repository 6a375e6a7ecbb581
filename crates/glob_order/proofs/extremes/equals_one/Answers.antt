use Rattle.std.proofs.Common.{◌*◌, false, length, refl, arith}
use Rattle.glob_nodes.specs.declared.nodes.Compare.TheVariants.{Equal}
use Rattle.glob_nodes.specs.declared.nodes.Join.TheVariants.{Either}
use Rattle.glob_nodes.specs.Says.{num, compares, joined_each}
use Rattle.glob_nodes.proofs.Saying.{ok_so}
use Rattle.glob_nodes.proofs.Telling.{goes_more, told_from, told_step}
use Rattle.glob_order.proofs.extremes.equals_one.Goals as goal

pub returns-clause-goes : goal.returns-clause-goes
returns-clause-goes c = goes_more 0 _ _ c.args.run.now c.truth.new.run c.to_each.new.run (omega arith) c.in_ok-start.ensures.goes c.to_each.ensures.goes

pub returns-clause-tells : goal.returns-clause-tells
returns-clause-tells c = ok_so c.to_each.result c.to_each.ensures.tells (λ id t.
    let all = told_step 0 (12 * length c.args.ids.now) (12 * length c.args.ids.now) c.args.run.now c.truth.new.run c.to_each.new.run (λ r. false) (λ r. joined_each Either (λ x. compares Equal (num r c.args.y) (num r x)) c.args.ids.now false) (λ r b. joined_each Either (λ x. compares Equal (num r c.args.y) (num r x)) c.args.ids.now b) c.in_ok-start.start id (omega arith)
    (told_from 0 c.args.run.now c.truth.new.run (λ r. false) (λ r. false) c.in_ok-start.start c.in_ok-start.ensures.goes c.in_ok-start.ensures.says (λ r. refl))
    c.to_each.ensures.goes t (λ r. refl) in
    all.tells)
