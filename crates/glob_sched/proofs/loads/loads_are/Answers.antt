use Rattle.std.proofs.Common.{◌≡◌, ◌∙◌, ◌+◌, ◌*◌, length, zip, subst}
use Rattle.mz_symbol.specs.Makes.{GoesOnBy}
use Rattle.glob_nodes.specs.Says.{Tells}
use Rattle.glob_nodes.proofs.Saying.{ok_so}
use Rattle.glob_nodes.proofs.IntegerNodes.{stays}
use Rattle.glob_nodes.proofs.Several.{same_two}
use Rattle.glob_sched.specs.Senses.{are_loads}
use Rattle.glob_sched.proofs.loads.loads_are.Goals as goal

pub returns-in_err-things-clause-goes : goal.returns-in_err-things-clause-goes
returns-in_err-things-clause-goes c = stays _ c.args.run.now

pub returns-clause-goes : goal.returns-clause-goes
returns-clause-goes c =
    let things : c.deref-3.result.now ≡ zip c.args.bins.now.items.items c.args.weights.now.items.items = c.deref-3.ensures.value ∙ c.in_ok-things.ensures ∙ same_two zip c.deref.result.now c.args.bins.now.items.items c.deref-2.result.now c.args.weights.now.items.items c.deref.ensures.value c.deref-2.ensures.value in
    subst (λ ts. GoesOnBy (24 * length ts + (18 * length ts + 6 + 6) * length c.args.loads.now.items.items + 6) c.args.run.now c.in_bins_with_loads.new.run) things c.in_bins_with_loads.ensures.goes

pub returns-clause-tells : goal.returns-clause-tells
returns-clause-tells c =
    let things : c.deref-3.result.now ≡ zip c.args.bins.now.items.items c.args.weights.now.items.items = c.deref-3.ensures.value ∙ c.in_ok-things.ensures ∙ same_two zip c.deref.result.now c.args.bins.now.items.items c.deref-2.result.now c.args.weights.now.items.items c.deref.ensures.value c.deref-2.ensures.value in
    ok_so c.in_bins_with_loads.result c.in_bins_with_loads.ensures.tells (λ id t. subst (λ ts. Tells c.args.run.now c.in_bins_with_loads.new.run (λ r. are_loads r (c.args.loads.now.first, c.args.loads.now.last) c.args.loads.now.items.items ts) id) things t)
