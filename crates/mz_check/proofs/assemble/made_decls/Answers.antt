use Rattle.std.proofs.Common.{◌∙◌, map, ap, sym, arith}
use Rattle.std.proofs.lemmas.List.{nil_from_length}
use Rattle.std.specs.Option.{option_map}
use Rattle.std.specs.Vec.Iter.{into_iter_items}
use Rattle.mz_core.specs.TreeViews.{tree, decl, declared_type}
use Rattle.mz_scope_order.specs.Scoped.{scoped_decl}
use Rattle.mz_check_context.specs.Known.{answers}
use Rattle.mz_check.specs.StepsTaking.{decl_by}
use Rattle.mz_check.proofs.Taking.{made_at_first, made_next, made_at_last, next_fits}
use Rattle.mz_check.proofs.assemble.made_decls.Goals as goal

pub loop-value-init : goal.loop-value-init
loop-value-init c = made_at_first decl_by (option_map tree) (answers declared_type c.args.types.entries) (map scoped_decl c.args.decls.now) c.args.values.items (into_iter_items c.into_iter-value-iterator.result) (map decl c.new-all.result.items) c.into_iter-value-iterator.ensures.into_iter_gives.0 (ap (map decl) c.new-all.ensures.items)

pub overflow_add-number : goal.overflow_add-number
overflow_add-number c =
    let counted = c.loop-value.invariant.counted in
    let fits = next_fits (option_map tree) c.args.values.items (into_iter_items c.loop-value.value-iterator) (into_iter_items c.next.new.self) c.loop-value.number c.in-Some.value counted c.in-Some.ensures.steps.0 in
    omega (arith, fits, c.args.values.ok.0)

pub loop-value-preserved : goal.loop-value-preserved
loop-value-preserved c =
    made_next decl_by (option_map tree) (answers declared_type c.args.types.entries) (map scoped_decl c.args.decls.now) c.args.values.items (answers declared_type c.loop-value.types.entries) _ (into_iter_items c.loop-value.value-iterator) (into_iter_items c.next.new.self) c.loop-value.number (map decl c.loop-value.all.items) _ c.in-Some.value
    c.loop-value.invariant c.in-Some.ensures.steps.0 c.in_ok-add_decl_at.ensures.made c.in_ok-add_decl_at.ensures.others

pub returns : goal.returns
returns c = made_at_last decl_by (option_map tree) (answers declared_type c.args.types.entries) (map scoped_decl c.args.decls.now) c.args.values.items (answers declared_type c.loop-value.types.entries) (into_iter_items c.loop-value.value-iterator) c.loop-value.number (map decl c.loop-value.all.items) c.loop-value.invariant (nil_from_length (into_iter_items c.loop-value.value-iterator) (sym c.loop-value.value-iterator.rest.ok.0 ∙ c.in-None.ensures.steps.0))
