use Rattle.std.proofs.Common.{◌≡◌, ◌∙◌, ◌*◌, zip, subst}
use Rattle.mz_globals.specs.Lists.{pairwise}
use Rattle.mz_symbol.specs.Makes.{GoesOnBy}
use Rattle.glob_nodes.specs.Says.{Tells, pair_count}
use Rattle.glob_nodes.proofs.Saying.{ok_so}
use Rattle.glob_nodes.proofs.IntegerNodes.{stays}
use Rattle.glob_nodes.proofs.Several.{same_two}
use Rattle.glob_sched.specs.Senses.{are_apart_or_idle}
use Rattle.glob_sched.proofs.apart.all_apart_or_idle.Goals as goal

pub returns-in_err-tasks-clause-goes : goal.returns-in_err-tasks-clause-goes
returns-in_err-tasks-clause-goes c = stays _ c.args.run.now

pub returns-clause-goes : goal.returns-clause-goes
returns-clause-goes c =
    let tasks : c.deref-3.result.now ≡ zip c.args.s.now.items.items c.args.d.now.items.items = c.deref-3.ensures.value ∙ c.in_ok-tasks.ensures ∙ same_two zip c.deref.result.now c.args.s.now.items.items c.deref-2.result.now c.args.d.now.items.items c.deref.ensures.value c.deref-2.ensures.value in
    subst (λ ts. GoesOnBy (56 * pair_count ts) c.args.run.now c.each_two.new.run) tasks c.each_two.ensures.goes

pub returns-clause-tells : goal.returns-clause-tells
returns-clause-tells c =
    let tasks : c.deref-3.result.now ≡ zip c.args.s.now.items.items c.args.d.now.items.items = c.deref-3.ensures.value ∙ c.in_ok-tasks.ensures ∙ same_two zip c.deref.result.now c.args.s.now.items.items c.deref-2.result.now c.args.d.now.items.items c.deref.ensures.value c.deref-2.ensures.value in
    ok_so c.each_two.result c.each_two.ensures.tells (λ id t. subst (λ ts. Tells c.args.run.now c.each_two.new.run (λ r. pairwise (are_apart_or_idle r) ts) id) tasks t)
