use Rattle.std.proofs.Common.{◌+◌, ◌*◌, false, length, refl, arith}
use Rattle.std.specs.List.{list_any}
use Rattle.glob_nodes.specs.declared.nodes.Join.TheVariants.{Either}
use Rattle.glob_nodes.specs.Says.{joined_each}
use Rattle.glob_nodes.proofs.Saying.{ok_so}
use Rattle.glob_nodes.proofs.Telling.{goes_more, told_from, told_step, any_joined}
use Rattle.glob_nodes.proofs.passing.some_pass.Goals as goal

pub returns-clause-goes : goal.returns-clause-goes
returns-clause-goes g c = goes_more 0 _ _ c.args.run.now c.truth.new.run c.each_passes.new.run (omega arith) c.in_ok-start.ensures.goes c.each_passes.ensures.goes

pub returns-clause-tells : goal.returns-clause-tells
returns-clause-tells g c = ok_so c.each_passes.result c.each_passes.ensures.tells (λ id t.
    let all = told_step 0 ((g.F.Test.room c.args.t.now + 6) * length c.args.items.now) ((g.F.Test.room c.args.t.now + 6) * length c.args.items.now) c.args.run.now c.truth.new.run c.each_passes.new.run (λ v. false) (λ v. list_any (λ x. g.F.Test.holds c.args.t.now x v) c.args.items.now) (λ v b. joined_each Either (λ x. g.F.Test.holds c.args.t.now x v) c.args.items.now b) c.in_ok-start.start id (omega arith)
    (told_from 0 c.args.run.now c.truth.new.run (λ v. false) (λ v. false) c.in_ok-start.start c.in_ok-start.ensures.goes c.in_ok-start.ensures.says (λ v. refl))
    c.each_passes.ensures.goes t (λ v. any_joined (λ x. g.F.Test.holds c.args.t.now x v) c.args.items.now) in
    all.tells)
