use Rattle.std.proofs.Common.{◌+◌, ◌*◌, ◌∙◌, true, length, refl, arith}
use Rattle.std.specs.List.{list_all}
use Rattle.glob_nodes.specs.declared.nodes.Join.TheVariants.{Both}
use Rattle.glob_nodes.specs.Says.{joined_each}
use Rattle.glob_nodes.proofs.Saying.{ok_so}
use Rattle.glob_nodes.proofs.Telling.{goes_more, told_from, told_step, all_joined}
use Rattle.glob_nodes.proofs.IntegerNodes.{and_true}
use Rattle.glob_nodes.proofs.passing.all_pass.Goals as goal

pub returns-clause-goes : goal.returns-clause-goes
returns-clause-goes g c = goes_more 0 _ _ c.args.run.now c.truth.new.run c.each_passes.new.run (omega arith) c.in_ok-start.ensures.goes c.each_passes.ensures.goes

pub returns-clause-tells : goal.returns-clause-tells
returns-clause-tells g c = ok_so c.each_passes.result c.each_passes.ensures.tells (λ id t.
    let all = told_step 0 ((g.F.Test.room c.args.t.now + 6) * length c.args.items.now) ((g.F.Test.room c.args.t.now + 6) * length c.args.items.now) c.args.run.now c.truth.new.run c.each_passes.new.run (λ v. true) (λ v. list_all (λ x. g.F.Test.holds c.args.t.now x v) c.args.items.now) (λ v b. joined_each Both (λ x. g.F.Test.holds c.args.t.now x v) c.args.items.now b) c.in_ok-start.start id (omega arith)
    (told_from 0 c.args.run.now c.truth.new.run (λ v. true) (λ v. true) c.in_ok-start.start c.in_ok-start.ensures.goes c.in_ok-start.ensures.says (λ v. refl))
    c.each_passes.ensures.goes t (λ v. all_joined (λ x. g.F.Test.holds c.args.t.now x v) c.args.items.now true ∙ and_true (list_all (λ x. g.F.Test.holds c.args.t.now x v) c.args.items.now)) in
    all.tells)
