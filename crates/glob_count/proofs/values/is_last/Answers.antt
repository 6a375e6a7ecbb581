use Rattle.std.proofs.Common.{◌∙◌, ◌*◌, true, length, refl, arith}
use Rattle.std.specs.List.{list_all}
use Rattle.glob_nodes.specs.declared.nodes.Compare.TheVariants.{Differ}
use Rattle.glob_nodes.specs.declared.nodes.Join.TheVariants.{Both}
use Rattle.glob_nodes.specs.Says.{num, compares, joined_each}
use Rattle.glob_nodes.proofs.Saying.{ok_so}
use Rattle.glob_nodes.proofs.Telling.{goes_more, told_from, told_step, all_joined}
use Rattle.glob_count.proofs.Meanings.{and_true}
use Rattle.glob_count.proofs.values.is_last.Goals as goal

pub returns-clause-goes : goal.returns-clause-goes
returns-clause-goes c = goes_more 0 _ _ c.args.run.now c.truth.new.run c.to_each.new.run (omega arith) c.in_ok-start.ensures.goes c.to_each.ensures.goes

pub returns-clause-tells : goal.returns-clause-tells
returns-clause-tells c = ok_so c.to_each.result c.to_each.ensures.tells (λ id t.
    let all = told_step 0 (12 * length c.args.later.now) (12 * length c.args.later.now) c.args.run.now c.truth.new.run c.to_each.new.run (λ r. true) (λ r. list_all (λ y. compares Differ (num r c.args.x) (num r y)) c.args.later.now) (λ r b. joined_each Both (λ y. compares Differ (num r c.args.x) (num r y)) c.args.later.now b) c.in_ok-start.start id (omega arith)
    (told_from 0 c.args.run.now c.truth.new.run (λ r. true) (λ r. true) c.in_ok-start.start c.in_ok-start.ensures.goes c.in_ok-start.ensures.says (λ r. refl))
    c.to_each.ensures.goes t (λ r. all_joined (λ y. compares Differ (num r c.args.x) (num r y)) c.args.later.now true ∙ and_true (list_all (λ y. compares Differ (num r c.args.x) (num r y)) c.args.later.now)) in
    all.tells)
