use Rattle.std.proofs.Common.{◌≡◌, ◌∙◌, ◌+◌, ◌*◌, length, zip, subst}
use Rattle.mz_symbol.specs.Makes.{GoesOnBy}
use Rattle.glob_nodes.specs.Says.{Tells}
use Rattle.glob_nodes.proofs.Saying.{ok_so}
use Rattle.glob_nodes.proofs.IntegerNodes.{stays}
use Rattle.glob_nodes.proofs.Several.{same_two}
use Rattle.glob_sched.specs.Senses.{all_bins_fit}
use Rattle.glob_sched.proofs.bins.all_fit.Goals as goal

pub returns-in_err-things-clause-goes : goal.returns-in_err-things-clause-goes
returns-in_err-things-clause-goes c = stays _ c.args.run.now

pub returns-clause-goes : goal.returns-clause-goes
returns-clause-goes c =
    let things : c.deref-3.result.now ≡ zip c.args.bins.now.items.items c.args.weights.now.items.items = c.deref-3.ensures.value ∙ c.in_ok-things.ensures ∙ same_two zip c.deref.result.now c.args.bins.now.items.items c.deref-2.result.now c.args.weights.now.items.items c.deref.ensures.value c.deref-2.ensures.value in
    subst (λ ts. GoesOnBy ((18 * length ts + 6 + 6) * length ts + 12) c.args.run.now c.bins_fit.new.run) things c.bins_fit.ensures.goes

pub returns-clause-tells : goal.returns-clause-tells
returns-clause-tells c =
    let things : c.deref-3.result.now ≡ zip c.args.bins.now.items.items c.args.weights.now.items.items = c.deref-3.ensures.value ∙ c.in_ok-things.ensures ∙ same_two zip c.deref.result.now c.args.bins.now.items.items c.deref-2.result.now c.args.weights.now.items.items c.deref.ensures.value c.deref-2.ensures.value in
    ok_so c.bins_fit.result c.bins_fit.ensures.tells (λ id t. subst (λ ts. Tells c.args.run.now c.bins_fit.new.run (λ r. all_bins_fit r ts c.args.most) id) things t)
