use Rattle.std.proofs.Common.{◌≡◌, ◌∙◌, map, ap, sym}
use Rattle.std.specs.Option.{option_map}
use Rattle.mz_core.specs.declared.tree.CoreForm.TheVariants as forms
use Rattle.mz_core.specs.TreeViews.{tree, gen, step, item, branch}
use Rattle.mz_model_unbounded.specs.Firsts.{first_place}
use Rattle.mz_meaning.specs.Unbounded.{unbounded_in}
use Rattle.mz_model_unbounded.specs.StepsLayers.{in_if, in_all, in_branch, in_step, in_generator, in_item}
use Rattle.mz_model_unbounded.proofs.Layers.{unbounded_in_tree}
use Rattle.mz_model_unbounded.proofs.Walking.{loop_more, loop_done, both, found_none, found_some, in_chain, in_access, in_table, in_comp, in_choice, in_let}
use Rattle.mz_model_unbounded.proofs.walk.+unbounded.Goals as goal
use Rattle.mz_model_unbounded.proofs.walk.+unbounded.Goals.{in_sets-in-None, in_sets-in-Some}

pub in_tree-returns : goal.in_tree-returns
in_tree-returns t c = c.in_form.ensures ∙ ap (first_place c.args.found.now) (sym (unbounded_in_tree c.args.e.now))

pub in_all-loop-e-preserved : goal.in_all-loop-e-preserved
in_all-loop-e-preserved t c =
    loop_more tree unbounded_in c.args.es.now c.loop-e.e-index c.e-item.result c.args.found.now c.loop-e.found c.in_tree.new.found c.loop-e-test.true c.e-item.is c.in_tree.ensures c.loop-e.invariant

pub in_all-returns : goal.in_all-returns
in_all-returns t c =
    loop_done tree unbounded_in c.args.es.now c.loop-e.e-index c.args.found.now c.loop-e.found c.loop-e-test.false c.loop-e.invariant

pub in_steps-loop-s-preserved : goal.in_steps-loop-s-preserved
in_steps-loop-s-preserved t c =
    loop_more step in_step c.args.steps.now c.loop-s.s-index c.s-item.result c.args.found.now c.loop-s.found c.in_tree.new.found c.loop-s-test.true c.s-item.is c.in_tree.ensures c.loop-s.invariant

pub in_steps-returns : goal.in_steps-returns
in_steps-returns t c =
    loop_done step in_step c.args.steps.now c.loop-s.s-index c.args.found.now c.loop-s.found c.loop-s-test.false c.loop-s.invariant

pub in_branches-loop-b-preserved : goal.in_branches-loop-b-preserved
in_branches-loop-b-preserved t c =
    loop_more branch in_branch c.args.branches.now c.loop-b.b-index c.b-item.result c.args.found.now c.loop-b.found c.in_tree-in-loop-b.new.found c.loop-b-test.true c.b-item.is
    (both _ _ c.loop-b.found c.in_tree.new.found c.in_tree-in-loop-b.new.found c.in_tree.ensures c.in_tree-in-loop-b.ensures)
    c.loop-b.invariant

pub in_branches-returns : goal.in_branches-returns
in_branches-returns t c =
    loop_done branch in_branch c.args.branches.now c.loop-b.b-index c.args.found.now c.loop-b.found c.loop-b-test.false c.loop-b.invariant

pub in_items-loop-i-preserved : goal.in_items-loop-i-preserved
in_items-loop-i-preserved t c =
    loop_more item in_item c.args.items.now c.loop-i.i-index c.i-item.result c.args.found.now c.loop-i.found c.in_item.new.found c.loop-i-test.true c.i-item.is c.in_item.ensures c.loop-i.invariant

pub in_items-returns : goal.in_items-returns
in_items-returns t c =
    loop_done item in_item c.args.items.now c.loop-i.i-index c.args.found.now c.loop-i.found c.loop-i-test.false c.loop-i.invariant

pub in_generators-loop-g-preserved : goal.in_generators-loop-g-preserved
in_generators-loop-g-preserved t c =
    loop_more gen in_generator c.args.gens.now c.loop-g.g-index c.g-item.result c.args.found.now c.loop-g.found c.in_option.new.found c.loop-g-test.true c.g-item.is
    (both _ _ c.loop-g.found c.in_tree.new.found c.in_option.new.found c.in_tree.ensures c.in_option.ensures)
    c.loop-g.invariant

pub in_generators-returns : goal.in_generators-returns
in_generators-returns t c =
    loop_done gen in_generator c.args.gens.now c.loop-g.g-index c.args.found.now c.loop-g.found c.loop-g-test.false c.loop-g.invariant

pub in_sets-loop-m-preserved : goal.in_sets-loop-m-preserved
in_sets-loop-m-preserved t c =
    let gone : c.match-m.found ≡ first_place c.loop-m.found (in_if (option_map tree c.m-item.result)) =
    elim c.match-m.branch [
      | in_sets-in-None w ↦ found_none c.m-item.result c.loop-m.found c.match-m.found w.in-None.is w.found-is
      | in_sets-in-Some w ↦ found_some c.m-item.result w.in-Some.e c.loop-m.found w.in_tree.new.found c.match-m.found w.in-Some.is w.in_tree.ensures w.found-is
    ] in
    loop_more (option_map tree) in_if c.args.ms.now c.loop-m.m-index c.m-item.result c.args.found.now c.loop-m.found c.match-m.found c.loop-m-test.true c.m-item.is gone c.loop-m.invariant

pub in_sets-returns : goal.in_sets-returns
in_sets-returns t c =
    loop_done (option_map tree) in_if c.args.ms.now c.loop-m.m-index c.args.found.now c.loop-m.found c.loop-m-test.false c.loop-m.invariant

pub in_form-loop-row-preserved : goal.in_form-loop-row-preserved
in_form-loop-row-preserved t c =
    loop_more (λ r. map tree r.items) in_all c.as_slice-row-items.result.now c.loop-row.row-index c.row-item.result c.args.found.now c.loop-row.found c.in_all-in-loop-row.new.found c.loop-row-test.true c.row-item.is
    (c.in_all-in-loop-row.ensures ∙ ap (λ es. first_place c.loop-row.found (in_all (map tree es))) c.as_slice-in-loop-row.ensures.value)
    c.loop-row.invariant

pub in_form-returns-after-loop-row : goal.in_form-returns-after-loop-row
in_form-returns-after-loop-row t c =
    in_table c.args.form.now c.in-Rows.rows c.as_slice-row-items.result.now c.args.found.now c.loop-row.found c.in-Rows.is c.as_slice-row-items.ensures.value
    (loop_done (λ r. map tree r.items) in_all c.as_slice-row-items.result.now c.loop-row.row-index c.args.found.now c.loop-row.found c.loop-row-test.false c.loop-row.invariant)

pub in_form-returns-in-Chain : goal.in_form-returns-in-Chain
in_form-returns-in-Chain t c =
    in_chain c.args.form.now c.in-Chain.x c.in-Chain.steps c.deref.result.now c.as_slice.result.now c.args.found.now c.in_tree.new.found c.in_steps.new.found c.in-Chain.is c.deref.ensures c.as_slice.ensures.value c.in_tree.ensures c.in_steps.ensures

pub in_form-returns-in-Access : goal.in_form-returns-in-Access
in_form-returns-in-Access t c =
    in_access c.args.form.now c.in-Access.x c.in-Access.xs c.deref-in-Access.result.now c.as_slice-in-Access.result.now c.args.found.now c.in_tree-in-Access.new.found c.in_all-in-Access.new.found c.in-Access.is c.deref-in-Access.ensures c.as_slice-in-Access.ensures.value c.in_tree-in-Access.ensures c.in_all-in-Access.ensures

pub in_form-returns-in-Comp : goal.in_form-returns-in-Comp
in_form-returns-in-Comp t c =
    in_comp c.args.form.now c.in-Comp.field-0 c.in-Comp.x c.in-Comp.gens c.deref-in-Comp.result.now c.as_slice-in-Comp.result.now c.args.found.now c.in_tree-in-Comp.new.found c.in_generators.new.found c.in-Comp.is c.deref-in-Comp.ensures c.as_slice-in-Comp.ensures.value c.in_tree-in-Comp.ensures c.in_generators.ensures

pub in_form-returns-in-Some : goal.in_form-returns-in-Some
in_form-returns-in-Some t c =
    in_choice c.args.form.now c.in-If.branches c.in-Some.x c.as_slice-in-If.result.now c.deref-in-Some.result.now c.args.found.now c.in_branches.new.found c.in_tree-in-Some.new.found (c.in-If.is ∙ ap (forms.If c.in-If.branches) c.in-Some.is) c.as_slice-in-If.ensures.value c.deref-in-Some.ensures c.in_branches.ensures c.in_tree-in-Some.ensures

pub in_form-returns-in-Let : goal.in_form-returns-in-Let
in_form-returns-in-Let t c =
    in_let c.args.form.now c.in-Let.items c.in-Let.x c.as_slice-in-Let.result.now c.deref-in-Let.result.now c.args.found.now c.in_items.new.found c.in_tree-in-Let.new.found c.in-Let.is c.as_slice-in-Let.ensures.value c.deref-in-Let.ensures c.in_items.ensures c.in_tree-in-Let.ensures
