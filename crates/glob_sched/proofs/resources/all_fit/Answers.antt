use Rattle.std.proofs.Common.{◌≡◌, ◌∙◌, ◌+◌, ◌*◌, length, zip, subst}
use Rattle.mz_symbol.specs.Makes.{GoesOnBy}
use Rattle.glob_nodes.specs.Says.{Tells}
use Rattle.glob_nodes.proofs.Saying.{ok_so}
use Rattle.glob_nodes.proofs.IntegerNodes.{stays}
use Rattle.glob_nodes.proofs.Several.{same_two}
use Rattle.glob_sched.specs.Senses.{is_enough}
use Rattle.glob_sched.proofs.resources.all_fit.Goals as goal

pub returns-in_err-tasks-clause-goes : goal.returns-in_err-tasks-clause-goes
returns-in_err-tasks-clause-goes c = stays _ c.args.run.now

pub returns-in_err-uses-clause-goes : goal.returns-in_err-uses-clause-goes
returns-in_err-uses-clause-goes c = stays _ c.args.run.now

pub returns-clause-goes : goal.returns-clause-goes
returns-clause-goes c =
    let tasks : c.deref-3.result.now ≡ zip c.args.s.now.items.items c.args.d.now.items.items = c.deref-3.ensures.value ∙ c.in_ok-tasks.ensures ∙ same_two zip c.deref.result.now c.args.s.now.items.items c.deref-2.result.now c.args.d.now.items.items c.deref.ensures.value c.deref-2.ensures.value in
    subst (λ ts. GoesOnBy ((34 * length ts + 6 + 6) * length ts + 12) c.args.run.now c.starts_fit.new.run) (c.deref-5.ensures.value ∙ c.in_ok-uses.ensures ∙ same_two zip c.deref-3.result.now (zip c.args.s.now.items.items c.args.d.now.items.items) c.deref-4.result.now c.args.u.now.items.items tasks c.deref-4.ensures.value) c.starts_fit.ensures.goes

pub returns-clause-tells : goal.returns-clause-tells
returns-clause-tells c =
    let tasks : c.deref-3.result.now ≡ zip c.args.s.now.items.items c.args.d.now.items.items = c.deref-3.ensures.value ∙ c.in_ok-tasks.ensures ∙ same_two zip c.deref.result.now c.args.s.now.items.items c.deref-2.result.now c.args.d.now.items.items c.deref.ensures.value c.deref-2.ensures.value in
    ok_so c.starts_fit.result c.starts_fit.ensures.tells (λ id t. subst (λ ts. Tells c.args.run.now c.starts_fit.new.run (λ r. is_enough r ts c.args.b) id) (c.deref-5.ensures.value ∙ c.in_ok-uses.ensures ∙ same_two zip c.deref-3.result.now (zip c.args.s.now.items.items c.args.d.now.items.items) c.deref-4.result.now c.args.u.now.items.items tasks c.deref-4.ensures.value) t)
