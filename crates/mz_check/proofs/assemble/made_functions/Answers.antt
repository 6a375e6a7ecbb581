use Rattle.std.proofs.Common.{◌∙◌, map, ap, sym, arith}
use Rattle.std.proofs.lemmas.List.{nil_from_length}
use Rattle.std.specs.Vec.Iter.{into_iter_items}
use Rattle.mz_core.specs.TreeViews.{tree}
use Rattle.mz_core.specs.Program.{function}
use Rattle.mz_scope_order.specs.Scoped.{lent_function}
use Rattle.mz_check_context.specs.Headings.{heading}
use Rattle.mz_check_context.specs.Known.{answers}
use Rattle.mz_check.specs.StepsTaking.{function_by}
use Rattle.mz_check.proofs.Taking.{made_at_first, made_next, made_at_last, next_fits}
use Rattle.mz_check.proofs.assemble.made_functions.Goals as goal

pub loop-body-init : goal.loop-body-init
loop-body-init c = made_at_first function_by tree (answers heading c.args.headings.entries) (map lent_function c.args.functions.now) c.args.bodies.items (into_iter_items c.into_iter-body-iterator.result) (map function c.new-all.result.items) c.into_iter-body-iterator.ensures.into_iter_gives.0 (ap (map function) c.new-all.ensures.items)

pub overflow_add-number : goal.overflow_add-number
overflow_add-number c =
    let counted = c.loop-body.invariant.counted in
    let fits = next_fits tree c.args.bodies.items (into_iter_items c.loop-body.body-iterator) (into_iter_items c.next.new.self) c.loop-body.number c.in-Some.body counted c.in-Some.ensures.steps.0 in
    omega (arith, fits, c.args.bodies.ok.0)

pub loop-body-preserved : goal.loop-body-preserved
loop-body-preserved c =
    made_next function_by tree (answers heading c.args.headings.entries) (map lent_function c.args.functions.now) c.args.bodies.items (answers heading c.loop-body.headings.entries) _ (into_iter_items c.loop-body.body-iterator) (into_iter_items c.next.new.self) c.loop-body.number (map function c.loop-body.all.items) _ c.in-Some.body
    c.loop-body.invariant c.in-Some.ensures.steps.0 c.in_ok-add_function_at.ensures.made c.in_ok-add_function_at.ensures.others

pub returns : goal.returns
returns c = made_at_last function_by tree (answers heading c.args.headings.entries) (map lent_function c.args.functions.now) c.args.bodies.items (answers heading c.loop-body.headings.entries) (into_iter_items c.loop-body.body-iterator) c.loop-body.number (map function c.loop-body.all.items) c.loop-body.invariant (nil_from_length (into_iter_items c.loop-body.body-iterator) (sym c.loop-body.body-iterator.rest.ok.0 ∙ c.in-None.ensures.steps.0))
