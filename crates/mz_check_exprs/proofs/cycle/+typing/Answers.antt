use Rattle.std.proofs.Common.{rules, arith, ◌∙◌, length, Vec, Global, map, ap, sym, subst}
use Rattle.std.proofs.lemmas.List.{map-append}
use Rattle.mz_core.specs.declared.tree.Core.{Core}
use Rattle.mz_tree.specs.declared.expr.Form.TheViews.{out-Form}
use Rattle.mz_core.specs.TreeViews.{tree}
use Rattle.mz_check_meaning.specs.Forms.{parts, gen_next, let_next}
use Rattle.mz_check_meaning.specs.Passes.{Passes}
use Rattle.mz_check_context.specs.Known.{known}
use Rattle.mz_check_context.specs.Extending.{Extends, itself, one_more}
use Rattle.mz_check_forms.proofs.Passing.{stops}
use Rattle.mz_check_context.specs.Views.{typed_item}
use Rattle.mz_check_exprs.specs.StepsForms.{expression, gen_by, item_by, form_layer}
use Rattle.mz_check_exprs.specs.Views.{generated, declared_in}
use Rattle.mz_check_exprs.proofs.Layers.{expression_is}
use Rattle.mz_check_exprs.proofs.Scopes.{extends_on, extends_kept}
use Rattle.mz_check_exprs.proofs.Turns.{mapped_turn}
use Rattle.mz_check_exprs.proofs.Arms.{call_made, rows_made, rows_refused, decl_made, constraint_made}
use Rattle.mz_check_exprs.proofs.Generators.{gens_smaller, gens_in_table}
use Rattle.mz_check_exprs.proofs.cycle.+typing.Goals as goal

pub check-returns-in-Access-clause-passes : goal.check-returns-in-Access-clause-passes
check-returns-in-Access-clause-passes t c = subst (Passes tree c.check_access.result) (sym (expression_is (known c.args.context.now) c.args.e.now c.args.scope.now)) c.check_access.ensures.passes

pub check-returns-in-Chain-clause-passes : goal.check-returns-in-Chain-clause-passes
check-returns-in-Chain-clause-passes t c = subst (Passes tree c.check_chain.result) (sym (expression_is (known c.args.context.now) c.args.e.now c.args.scope.now)) c.check_chain.ensures.passes

pub check-returns-in_default-clause-passes : goal.check-returns-in_default-clause-passes
check-returns-in_default-clause-passes t c = subst (Passes tree c.check_other.result) (sym (expression_is (known c.args.context.now) c.args.e.now c.args.scope.now)) c.check_other.ensures.passes

pub check_gens-loop-g-init : goal.check_gens-loop-g-init
check_gens-loop-g-init t c = record { built = search rules; extends = itself }

pub check_gens-loop-g-preserved : goal.check_gens-loop-g-preserved
check_gens-loop-g-preserved t c = record {
  built = c.loop-g.invariant.built ∙ mapped_turn (gen_next c.args.start) (gen_by (known c.args.context.now)) (generated c.loop-g.all.items c.loop-g.scope) (generated c.check_gen.new.all.items c.check_gen.new.scope) c.args.gs.now c.loop-g.g-index c.g-item.result c.loop-g-test.true c.g-item.is c.in_ok-check_gen.ensures.passes;
  extends = extends_on c.loop-g.invariant.extends c.in_ok-check_gen.ensures.extends;
}

pub check_items-loop-l-init : goal.check_items-loop-l-init
check_items-loop-l-init t c = record { built = search rules; extends = itself }

pub check_items-loop-l-preserved : goal.check_items-loop-l-preserved
check_items-loop-l-preserved t c = record {
  built = c.loop-l.invariant.built ∙ mapped_turn (let_next c.args.start) (item_by (known c.args.context.now)) (declared_in c.loop-l.all.items c.loop-l.scope) (declared_in c.check_item.new.all.items c.check_item.new.scope) c.args.ls.now c.loop-l.l-index c.l-item.result c.loop-l-test.true c.l-item.is c.in_ok-check_item.ensures.passes;
  extends = extends_on c.loop-l.invariant.extends c.in_ok-check_item.ensures.extends;
}

pub check_form-returns-in_err-line-in-Rows-clause-passes : goal.check_form-returns-in_err-line-in-Rows-clause-passes
check_form-returns-in_err-line-in-Rows-clause-passes t c =
    let m = known c.args.context.now in
    let e = c.from_residual-in_err-line-in-Rows in
    stops (λ (v : Vec Core Global). map tree v.items) tree e.result c.in_err-line-in-Rows.field-0.0
    (parts (map (expression m) c.as_slice-in-loop-row.result.now) c.loop-row.scope) (form_layer m (out-Form c.args.form.now) c.args.span c.args.scope.now) e.ensures.1
    (λ f p. rows_refused m c.args.form.now c.in-Rows.rows c.as_slice-row-items.result.now (map (λ (r : Vec Core Global). map tree r.items) c.loop-row.lines.items) c.loop-row.row-index c.row-item.result c.as_slice-in-loop-row.result.now c.args.span c.args.scope.now c.loop-row.scope f
    c.in-Rows.is c.as_slice-row-items.ensures.value c.loop-row.invariant.built c.loop-row-test.true c.row-item.is c.as_slice-in-loop-row.ensures.value c.loop-row.invariant.kept p)
    c.in_err-line-in-Rows.ensures.passes

pub check_form-returns-after-loop-row-clause-passes : goal.check_form-returns-after-loop-row-clause-passes
check_form-returns-after-loop-row-clause-passes t c =
    subst (Passes tree c.tabled.result)
    (rows_made (known c.args.context.now) c.args.form.now c.in-Rows.rows c.as_slice-row-items.result.now (map (λ (r : Vec Core Global). map tree r.items) c.loop-row.lines.items) c.loop-row.row-index c.args.span c.args.scope.now c.in-Rows.is c.as_slice-row-items.ensures.value c.loop-row.invariant.built c.loop-row-test.false)
    c.tabled.ensures

pub check_form-returns-in_ok-args-in-Call-clause-passes : goal.check_form-returns-in_ok-args-in-Call-clause-passes
check_form-returns-in_ok-args-in-Call-clause-passes t c =
    subst (Passes tree c.applied.result)
    (call_made (known c.args.context.now) c.args.form.now c.in-Call.name c.in-Call.xs c.as_slice-in-Call.result.now c.is_empty.result c.args.span c.args.scope.now (map tree c.in_ok-args-in-Call.args.items) c.in-Call.is c.as_slice-in-Call.ensures.value c.as_slice-in-Call.ensures.len c.is_empty.ensures c.if-is_empty.false c.in_ok-args-in-Call.ensures.passes)
    c.applied.ensures

pub check_item-returns-in-Decl-clause-passes : goal.check_item-returns-in-Decl-clause-passes
check_item-returns-in-Decl-clause-passes t c =
    subst (Passes (λ (u : Unit {0}). declared_in c.check_local.new.all.items c.check_local.new.scope) c.check_local.result)
    (decl_made (known c.args.context.now) c.args.start (declared_in c.args.all.now.items c.args.scope.now) c.args.l.now c.in-Decl.d c.in-Decl.is)
    c.check_local.ensures.passes

pub check_item-returns-in_ok-push-in-Constraint-clause-passes : goal.check_item-returns-in_ok-push-in-Constraint-clause-passes
check_item-returns-in_ok-push-in-Constraint-clause-passes t c =
    constraint_made (known c.args.context.now) c.args.start c.args.all.now.items c.push.new.self.items c.args.scope.now c.check.new.scope c.args.l.now c.in-Constraint.x (tree c.in_ok-e-in-Constraint.e) c.in-Constraint.is c.in_ok-e-in-Constraint.ensures.passes
    (ap (map typed_item) c.in_ok-push-in-Constraint.ensures.items ∙ map-append typed_item c.args.all.now.items _)
    c.in_ok-e-in-Constraint.ensures.kept

pub check_item-returns-in_ok-push-in-Constraint-clause-extends : goal.check_item-returns-in_ok-push-in-Constraint-clause-extends
check_item-returns-in_ok-push-in-Constraint-clause-extends t c = extends_kept itself c.in_ok-e-in-Constraint.ensures.kept

pub check_local-returns-in_ok-add_declaration-in-None-clause-extends : goal.check_local-returns-in_ok-add_declaration-in-None-clause-extends
check_local-returns-in_ok-add_declaration-in-None-clause-extends t c =
    subst (Extends c.args.scope.now) (sym c.in_ok-add_declaration-in-None.ensures.binds) (one_more _ _ (extends_kept itself c.in_ok-ty.ensures.kept))

pub check_local-returns-in_ok-add_declaration-in-Some-clause-extends : goal.check_local-returns-in_ok-add_declaration-in-Some-clause-extends
check_local-returns-in_ok-add_declaration-in-Some-clause-extends t c =
    subst (Extends c.args.scope.now) (sym c.in_ok-add_declaration-in-Some.ensures.binds) (one_more _ _ (extends_kept (extends_kept itself c.in_ok-ty.ensures.kept) c.in_ok-e-in-Some.ensures.kept))

pub check_form-check_gens-requires : goal.check_form-check_gens-requires
check_form-check_gens-requires t c =
    let smaller = gens_smaller c.args.form.now c.in-GenCall.name c.in-GenCall.gs c.in-GenCall.x c.as_slice-in-GenCall.result.now c.in-GenCall.is c.as_slice-in-GenCall.ensures.value in
    (omega (arith, smaller), gens_in_table (length (known c.args.context.now).texts) c.args.form.now c.in-GenCall.name c.in-GenCall.gs c.in-GenCall.x c.as_slice-in-GenCall.result.now c.in-GenCall.is c.as_slice-in-GenCall.ensures.value c.requires.parts)
