use Rattle.std.proofs.Common.{refl, false, ◌+◌, ◌++◌, drop, map, ap, sym, ◌∙◌}
use Rattle.std.specs.Prelude.{nat_eq}
use Rattle.std.proofs.lemmas.Result.{on_ok_weaker}
use Rattle.mz_tree.specs.Tree.{trees, links, branches, parts, gens, lets, bases}
use Rattle.mz_tree.specs.declared.expr.Form.TheViews.{out-Decl, out-Gen, out-TypeText}
use Rattle.mz_tree.specs.Views.{tree, part, generator, let_of, declaration, written, based, link, branch}
use Rattle.mz_scope_names.specs.Sets.{with_name}
use Rattle.mz_scope_names.specs.Uses.{mention, applied, in_links, in_branches, in_tree, in_trees, in_part, in_parts, in_generator, in_gens, in_let, in_lets, in_declaration, in_written, in_based, in_bases, with_bound, with_generator, with_gens, with_let, with_lets}
use Rattle.mz_scope_names.proofs.UsesLists.{one_read, all_read, trees_flat, links_flat, branches_flat, parts_flat, bases_flat, step, gens_from, with_gens_from, lets_from, with_lets_from, gens_read, lets_read, with_gens_read, with_lets_read}
use Rattle.mz_scope_names.proofs.Parts.{read_both, in_plain_piece, in_shown_piece, in_decl_item, with_decl_item, in_constraint_item, with_constraint_item, in_declaration_value, in_declaration_alone, with_declaration_is, in_generator_where, in_generator_alone, with_generator_is, in_array_type, in_plain_type, in_bool_base, in_int_base, in_of_base}
use Rattle.mz_scope_names.proofs.Extending.{begins_gens, begins_lets, left_after}
use Rattle.mz_scope_names.proofs.UsesSeen.{after_both, after_scope, both_on_ok, scope_on_ok, kept_on_ok, in_array_comp, in_set_comp, in_let_form, in_rows_form, in_gen_call, in_chain, empty_same, in_call, in_access, in_if, one_on_ok, after_none, after_one, in_int, in_bool, in_absent, in_text, in_whole, in_ident, in_interp, in_unary, in_array, in_set, in_if_alone}
use Rattle.mz_scope_names.proofs.use_walk.+walk.Goals as goal

pub in_all-loop-e-preserved : goal.in_all-loop-e-preserved
in_all-loop-e-preserved t c = record {
  uses = one_read (λ x. in_tree c.args.hidden.now (tree x)) c.args.es.now c.loop-e.e-index c.e-item.result c.args.out.now.items c.loop-e.out.items c.in_expression.new.out.items c.loop-e.invariant.uses c.loop-e-test.true c.e-item.is (c.in_ok-in_expression.ensures.uses ∙ ap (λ z. c.loop-e.out.items ++ in_tree z (tree c.e-item.result)) c.loop-e.invariant.hidden);
  hidden = c.in_ok-in_expression.ensures.hidden ∙ c.loop-e.invariant.hidden;
}

pub in_all-returns-clause-uses : goal.in_all-returns-clause-uses
in_all-returns-clause-uses t c = all_read (λ x. in_tree c.args.hidden.now (tree x)) c.args.es.now c.loop-e.e-index c.args.out.now.items c.loop-e.out.items _ c.loop-e.invariant.uses c.loop-e-test.false (trees_flat c.args.hidden.now tree c.args.es.now)

pub in_operands-loop-operand-preserved : goal.in_operands-loop-operand-preserved
in_operands-loop-operand-preserved t c = record {
  uses = one_read (λ x. in_tree c.args.hidden.now (tree x.1)) c.args.rest.now c.loop-operand.operand-index c.operand-item.result c.args.out.now.items c.loop-operand.out.items c.in_expression.new.out.items c.loop-operand.invariant.uses c.loop-operand-test.true c.operand-item.is (c.in_ok-in_expression.ensures.uses ∙ ap (λ z. c.loop-operand.out.items ++ in_tree z (tree (c.operand-item.result).1)) c.loop-operand.invariant.hidden);
  hidden = c.in_ok-in_expression.ensures.hidden ∙ c.loop-operand.invariant.hidden;
}

pub in_operands-returns-clause-uses : goal.in_operands-returns-clause-uses
in_operands-returns-clause-uses t c = all_read (λ x. in_tree c.args.hidden.now (tree x.1)) c.args.rest.now c.loop-operand.operand-index c.args.out.now.items c.loop-operand.out.items _ c.loop-operand.invariant.uses c.loop-operand-test.false (links_flat c.args.hidden.now link c.args.rest.now)

pub in_choices-loop-choice-preserved : goal.in_choices-loop-choice-preserved
in_choices-loop-choice-preserved t c =
    let h = c.args.hidden.now in
    let first = tree (c.choice-item.result).0 in
    let second = tree (c.choice-item.result).1 in
    let kept = c.in_ok-in_expression.ensures.hidden ∙ c.loop-choice.invariant.hidden in
    record {
      uses = one_read (λ x. in_tree h (tree x.0) ++ in_tree h (tree x.1)) c.args.choices.now c.loop-choice.choice-index c.choice-item.result c.args.out.now.items c.loop-choice.out.items c.in_expression-in-loop-choice.new.out.items c.loop-choice.invariant.uses c.loop-choice-test.true c.choice-item.is
          (read_both c.loop-choice.out.items c.in_expression.new.out.items c.in_expression-in-loop-choice.new.out.items (in_tree h first) (in_tree h second)
          (c.in_ok-in_expression.ensures.uses ∙ ap (λ z. c.loop-choice.out.items ++ in_tree z first) c.loop-choice.invariant.hidden)
          (c.in_ok-in_expression-2.ensures.uses ∙ ap (λ z. c.in_expression.new.out.items ++ in_tree z second) kept));
      hidden = c.in_ok-in_expression-2.ensures.hidden ∙ kept;
    }

pub in_choices-returns-clause-uses : goal.in_choices-returns-clause-uses
in_choices-returns-clause-uses t c = all_read (λ x. in_tree c.args.hidden.now (tree x.0) ++ in_tree c.args.hidden.now (tree x.1)) c.args.choices.now c.loop-choice.choice-index c.args.out.now.items c.loop-choice.out.items _ c.loop-choice.invariant.uses c.loop-choice-test.false (branches_flat c.args.hidden.now branch c.args.choices.now)

pub in_pieces-loop-piece-preserved : goal.in_pieces-loop-piece-preserved
in_pieces-loop-piece-preserved t c = record {
  uses = one_read (λ x. in_part c.args.hidden.now (part x)) c.args.pieces.now c.loop-piece.piece-index c.piece-item.result c.args.out.now.items c.loop-piece.out.items c.in_piece.new.out.items c.loop-piece.invariant.uses c.loop-piece-test.true c.piece-item.is (c.in_ok-in_piece.ensures.uses ∙ ap (λ z. c.loop-piece.out.items ++ in_part z (part c.piece-item.result)) c.loop-piece.invariant.hidden);
  hidden = c.in_ok-in_piece.ensures.hidden ∙ c.loop-piece.invariant.hidden;
}

pub in_pieces-returns-clause-uses : goal.in_pieces-returns-clause-uses
in_pieces-returns-clause-uses t c = all_read (λ x. in_part c.args.hidden.now (part x)) c.args.pieces.now c.loop-piece.piece-index c.args.out.now.items c.loop-piece.out.items _ c.loop-piece.invariant.uses c.loop-piece-test.false (parts_flat c.args.hidden.now part c.args.pieces.now)

pub in_dims-loop-dim-preserved : goal.in_dims-loop-dim-preserved
in_dims-loop-dim-preserved t c = record {
  uses = one_read (λ x. in_based c.args.hidden.now (based x)) c.args.dims.now c.loop-dim.dim-index c.dim-item.result c.args.out.now.items c.loop-dim.out.items c.in_base.new.out.items c.loop-dim.invariant.uses c.loop-dim-test.true c.dim-item.is (c.in_ok-in_base.ensures.uses ∙ ap (λ z. c.loop-dim.out.items ++ in_based z (based c.dim-item.result)) c.loop-dim.invariant.hidden);
  hidden = c.in_ok-in_base.ensures.hidden ∙ c.loop-dim.invariant.hidden;
}

pub in_dims-returns-clause-uses : goal.in_dims-returns-clause-uses
in_dims-returns-clause-uses t c = all_read (λ x. in_based c.args.hidden.now (based x)) c.args.dims.now c.loop-dim.dim-index c.args.out.now.items c.loop-dim.out.items _ c.loop-dim.invariant.uses c.loop-dim-test.false (bases_flat c.args.hidden.now based c.args.dims.now)

pub in_generators-loop-g-preserved : goal.in_generators-loop-g-preserved
in_generators-loop-g-preserved t c = record {
  uses = step (λ h xs. in_gens h (gens (map generator xs))) (λ h x. in_generator h (generator x)) (λ h x. with_generator h (generator x)) c.args.gs.now c.loop-g.g-index c.g-item.result c.loop-g.hidden c.in_one.new.hidden _ c.loop-g.out.items c.in_one.new.out.items
      (gens_from c.loop-g.hidden generator c.args.gs.now c.loop-g.g-index c.g-item.result c.loop-g-test.true c.g-item.is)
      c.loop-g.invariant.uses c.in_ok-in_one.ensures.uses c.in_ok-in_one.ensures.hidden;
  hidden = c.loop-g.invariant.hidden ∙ with_gens_from c.loop-g.hidden generator c.args.gs.now c.loop-g.g-index c.g-item.result c.loop-g-test.true c.g-item.is
      ∙ ap (λ z. with_gens z (gens (map generator (drop (c.loop-g.g-index + 1) c.args.gs.now)))) (sym c.in_ok-in_one.ensures.hidden);
}

pub in_generators-returns-clause-uses : goal.in_generators-returns-clause-uses
in_generators-returns-clause-uses t c = gens_read c.loop-g.hidden generator c.args.gs.now c.loop-g.g-index _ c.loop-g.out.items c.loop-g.invariant.uses c.loop-g-test.false

pub in_generators-returns-clause-hidden : goal.in_generators-returns-clause-hidden
in_generators-returns-clause-hidden t c = with_gens_read c.loop-g.hidden generator c.args.gs.now c.loop-g.g-index _ c.loop-g.invariant.hidden c.loop-g-test.false

pub in_let_items-loop-item-preserved : goal.in_let_items-loop-item-preserved
in_let_items-loop-item-preserved t c = record {
  uses = step (λ h xs. in_lets h (lets (map let_of xs))) (λ h x. in_let h (let_of x)) (λ h x. with_let h (let_of x)) c.args.items.now c.loop-item.item-index c.item-item.result c.loop-item.hidden c.in_let_item.new.hidden _ c.loop-item.out.items c.in_let_item.new.out.items
      (lets_from c.loop-item.hidden let_of c.args.items.now c.loop-item.item-index c.item-item.result c.loop-item-test.true c.item-item.is)
      c.loop-item.invariant.uses c.in_ok-in_let_item.ensures.uses c.in_ok-in_let_item.ensures.hidden;
  hidden = c.loop-item.invariant.hidden ∙ with_lets_from c.loop-item.hidden let_of c.args.items.now c.loop-item.item-index c.item-item.result c.loop-item-test.true c.item-item.is
      ∙ ap (λ z. with_lets z (lets (map let_of (drop (c.loop-item.item-index + 1) c.args.items.now)))) (sym c.in_ok-in_let_item.ensures.hidden);
}

pub in_let_items-returns-clause-uses : goal.in_let_items-returns-clause-uses
in_let_items-returns-clause-uses t c = lets_read c.loop-item.hidden let_of c.args.items.now c.loop-item.item-index _ c.loop-item.out.items c.loop-item.invariant.uses c.loop-item-test.false

pub in_let_items-returns-clause-hidden : goal.in_let_items-returns-clause-hidden
in_let_items-returns-clause-hidden t c = with_lets_read c.loop-item.hidden let_of c.args.items.now c.loop-item.item-index _ c.loop-item.invariant.hidden c.loop-item-test.false

pub in_expression-returns-in_ok-in_expression-in-ArrayComp-clause-uses : goal.in_expression-returns-in_ok-in_expression-in-ArrayComp-clause-uses
in_expression-returns-in_ok-in_expression-in-ArrayComp-clause-uses t c = after_scope c.args.out.now.items c.in_generators-in-ArrayComp.new.out.items c.in_expression-in-ArrayComp.new.out.items (in_gens c.args.hidden.now (gens (map generator c.as_slice-in-ArrayComp.result.now))) (in_tree c.args.hidden.now (tree c.args.e.now)) c.in_generators-in-ArrayComp.new.hidden (with_gens c.args.hidden.now (gens (map generator c.as_slice-in-ArrayComp.result.now))) (λ z. in_tree z (tree c.deref-in-ArrayComp.result.now)) c.in_ok-in_generators-in-ArrayComp.ensures.uses c.in_ok-in_expression-in-ArrayComp.ensures.uses c.in_ok-in_generators-in-ArrayComp.ensures.hidden (in_array_comp c.args.hidden.now c.args.e.now c.deref-in-ArrayComp.result.now c.in-ArrayComp.x c.in-ArrayComp.gs c.as_slice-in-ArrayComp.result.now c.in-ArrayComp.is c.deref-in-ArrayComp.ensures c.as_slice-in-ArrayComp.ensures.value)

pub in_expression-returns-in_ok-in_expression-in-ArrayComp-clause-hidden : goal.in_expression-returns-in_ok-in_expression-in-ArrayComp-clause-hidden
in_expression-returns-in_ok-in_expression-in-ArrayComp-clause-hidden t c = left_after c.args.hidden.now (with_gens c.args.hidden.now (gens (map generator c.as_slice-in-ArrayComp.result.now))) c.in_generators-in-ArrayComp.new.hidden c.in_expression-in-ArrayComp.new.hidden c.truncate-in-ArrayComp.new.self c.len-depth-in-ArrayComp.result c.len-depth-in-ArrayComp.ensures.is (begins_gens c.args.hidden.now (gens (map generator c.as_slice-in-ArrayComp.result.now))) c.in_ok-in_generators-in-ArrayComp.ensures.hidden c.in_ok-in_expression-in-ArrayComp.ensures.hidden c.truncate-in-ArrayComp.ensures

pub in_expression-returns-in_ok-in_expression-in-SetComp-clause-uses : goal.in_expression-returns-in_ok-in_expression-in-SetComp-clause-uses
in_expression-returns-in_ok-in_expression-in-SetComp-clause-uses t c = after_scope c.args.out.now.items c.in_generators-in-SetComp.new.out.items c.in_expression-in-SetComp.new.out.items (in_gens c.args.hidden.now (gens (map generator c.as_slice-in-SetComp.result.now))) (in_tree c.args.hidden.now (tree c.args.e.now)) c.in_generators-in-SetComp.new.hidden (with_gens c.args.hidden.now (gens (map generator c.as_slice-in-SetComp.result.now))) (λ z. in_tree z (tree c.deref-in-SetComp.result.now)) c.in_ok-in_generators-in-SetComp.ensures.uses c.in_ok-in_expression-in-SetComp.ensures.uses c.in_ok-in_generators-in-SetComp.ensures.hidden (in_set_comp c.args.hidden.now c.args.e.now c.deref-in-SetComp.result.now c.in-SetComp.x c.in-SetComp.gs c.as_slice-in-SetComp.result.now c.in-SetComp.is c.deref-in-SetComp.ensures c.as_slice-in-SetComp.ensures.value)

pub in_expression-returns-in_ok-in_expression-in-SetComp-clause-hidden : goal.in_expression-returns-in_ok-in_expression-in-SetComp-clause-hidden
in_expression-returns-in_ok-in_expression-in-SetComp-clause-hidden t c = left_after c.args.hidden.now (with_gens c.args.hidden.now (gens (map generator c.as_slice-in-SetComp.result.now))) c.in_generators-in-SetComp.new.hidden c.in_expression-in-SetComp.new.hidden c.truncate-in-SetComp.new.self c.len-depth-in-SetComp.result c.len-depth-in-SetComp.ensures.is (begins_gens c.args.hidden.now (gens (map generator c.as_slice-in-SetComp.result.now))) c.in_ok-in_generators-in-SetComp.ensures.hidden c.in_ok-in_expression-in-SetComp.ensures.hidden c.truncate-in-SetComp.ensures

pub in_expression-returns-in_ok-in_expression-in-GenCall-clause-uses : goal.in_expression-returns-in_ok-in_expression-in-GenCall-clause-uses
in_expression-returns-in_ok-in_expression-in-GenCall-clause-uses t c = after_scope c.args.out.now.items c.in_generators.new.out.items c.in_expression-in-GenCall.new.out.items (applied c.args.hidden.now c.in-GenCall.n false ++ in_gens c.args.hidden.now (gens (map generator c.as_slice-in-GenCall.result.now))) (in_tree c.args.hidden.now (tree c.args.e.now)) c.in_generators.new.hidden (with_gens c.args.hidden.now (gens (map generator c.as_slice-in-GenCall.result.now))) (λ z. in_tree z (tree c.deref-in-GenCall.result.now)) (after_both c.args.out.now.items c.applied-in-GenCall.new.out.items c.in_generators.new.out.items (applied c.args.hidden.now c.in-GenCall.n false) (in_gens c.args.hidden.now (gens (map generator c.as_slice-in-GenCall.result.now))) _ c.in_ok-applied-in-GenCall.ensures c.in_ok-in_generators-in-GenCall.ensures.uses refl) c.in_ok-in_expression-in-GenCall.ensures.uses c.in_ok-in_generators-in-GenCall.ensures.hidden (in_gen_call c.args.hidden.now c.args.e.now c.deref-in-GenCall.result.now c.in-GenCall.n c.in-GenCall.x c.in-GenCall.gs c.as_slice-in-GenCall.result.now c.in-GenCall.is c.deref-in-GenCall.ensures c.as_slice-in-GenCall.ensures.value)

pub in_expression-returns-in_ok-in_expression-in-GenCall-clause-hidden : goal.in_expression-returns-in_ok-in_expression-in-GenCall-clause-hidden
in_expression-returns-in_ok-in_expression-in-GenCall-clause-hidden t c = left_after c.args.hidden.now (with_gens c.args.hidden.now (gens (map generator c.as_slice-in-GenCall.result.now))) c.in_generators.new.hidden c.in_expression-in-GenCall.new.hidden c.truncate.new.self c.len-depth.result c.len-depth.ensures.is (begins_gens c.args.hidden.now (gens (map generator c.as_slice-in-GenCall.result.now))) c.in_ok-in_generators-in-GenCall.ensures.hidden c.in_ok-in_expression-in-GenCall.ensures.hidden c.truncate.ensures

pub in_expression-returns-in_ok-in_expression-in-Let-clause-uses : goal.in_expression-returns-in_ok-in_expression-in-Let-clause-uses
in_expression-returns-in_ok-in_expression-in-Let-clause-uses t c = after_scope c.args.out.now.items c.in_let_items.new.out.items c.in_expression-in-Let.new.out.items (in_lets c.args.hidden.now (lets (map let_of c.as_slice-in-Let.result.now))) (in_tree c.args.hidden.now (tree c.args.e.now)) c.in_let_items.new.hidden (with_lets c.args.hidden.now (lets (map let_of c.as_slice-in-Let.result.now))) (λ z. in_tree z (tree c.deref-in-Let.result.now)) c.in_ok-in_let_items-in-Let.ensures.uses c.in_ok-in_expression-in-Let.ensures.uses c.in_ok-in_let_items-in-Let.ensures.hidden (in_let_form c.args.hidden.now c.args.e.now c.deref-in-Let.result.now c.in-Let.x c.in-Let.ls c.as_slice-in-Let.result.now c.in-Let.is c.deref-in-Let.ensures c.as_slice-in-Let.ensures.value)

pub in_expression-returns-in_ok-in_expression-in-Let-clause-hidden : goal.in_expression-returns-in_ok-in_expression-in-Let-clause-hidden
in_expression-returns-in_ok-in_expression-in-Let-clause-hidden t c = left_after c.args.hidden.now (with_lets c.args.hidden.now (lets (map let_of c.as_slice-in-Let.result.now))) c.in_let_items.new.hidden c.in_expression-in-Let.new.hidden c.truncate-in-Let.new.self c.len-depth-in-Let.result c.len-depth-in-Let.ensures.is (begins_lets c.args.hidden.now (lets (map let_of c.as_slice-in-Let.result.now))) c.in_ok-in_let_items-in-Let.ensures.hidden c.in_ok-in_expression-in-Let.ensures.hidden c.truncate-in-Let.ensures

pub in_expression-returns-in_ok-in_expression-in-Chain-clause-uses : goal.in_expression-returns-in_ok-in_expression-in-Chain-clause-uses
in_expression-returns-in_ok-in_expression-in-Chain-clause-uses t c = scope_on_ok c.in_operands.result c.args.out.now.items c.in_expression-in-Chain.new.out.items c.in_operands.new.out.items (in_tree c.args.hidden.now (tree c.deref-in-Chain.result.now)) (in_tree c.args.hidden.now (tree c.args.e.now)) c.in_expression-in-Chain.new.hidden c.args.hidden.now (λ z. in_links z (links (map link c.as_slice-in-Chain.result.now))) c.in_ok-in_expression-in-Chain.ensures.uses c.in_operands.ensures.uses c.in_ok-in_expression-in-Chain.ensures.hidden (in_chain c.args.hidden.now c.args.e.now c.deref-in-Chain.result.now c.in-Chain.x c.in-Chain.rest c.as_slice-in-Chain.result.now c.in-Chain.is c.deref-in-Chain.ensures c.as_slice-in-Chain.ensures.value)

pub in_expression-returns-in_ok-in_expression-in-Chain-clause-hidden : goal.in_expression-returns-in_ok-in_expression-in-Chain-clause-hidden
in_expression-returns-in_ok-in_expression-in-Chain-clause-hidden t c = kept_on_ok c.in_operands.result c.args.hidden.now c.in_expression-in-Chain.new.hidden c.in_operands.new.hidden c.in_ok-in_expression-in-Chain.ensures.hidden c.in_operands.ensures.hidden

pub in_expression-returns-in_ok-in_expression-in-Access-clause-uses : goal.in_expression-returns-in_ok-in_expression-in-Access-clause-uses
in_expression-returns-in_ok-in_expression-in-Access-clause-uses t c = scope_on_ok c.in_all-in-Access.result c.args.out.now.items c.in_expression-in-Access.new.out.items c.in_all-in-Access.new.out.items (in_tree c.args.hidden.now (tree c.deref-in-Access.result.now)) (in_tree c.args.hidden.now (tree c.args.e.now)) c.in_expression-in-Access.new.hidden c.args.hidden.now (λ z. in_trees z (trees (map tree c.as_slice-in-Access.result.now))) c.in_ok-in_expression-in-Access.ensures.uses c.in_all-in-Access.ensures.uses c.in_ok-in_expression-in-Access.ensures.hidden (in_access c.args.hidden.now c.args.e.now c.deref-in-Access.result.now c.in-Access.x c.in-Access.xs c.as_slice-in-Access.result.now c.in-Access.is c.deref-in-Access.ensures c.as_slice-in-Access.ensures.value)

pub in_expression-returns-in_ok-in_expression-in-Access-clause-hidden : goal.in_expression-returns-in_ok-in_expression-in-Access-clause-hidden
in_expression-returns-in_ok-in_expression-in-Access-clause-hidden t c = kept_on_ok c.in_all-in-Access.result c.args.hidden.now c.in_expression-in-Access.new.hidden c.in_all-in-Access.new.hidden c.in_ok-in_expression-in-Access.ensures.hidden c.in_all-in-Access.ensures.hidden

pub in_expression-returns-in-Some-clause-uses : goal.in_expression-returns-in-Some-clause-uses
in_expression-returns-in-Some-clause-uses t c = scope_on_ok c.in_expression-in-Some.result c.args.out.now.items c.in_choices.new.out.items c.in_expression-in-Some.new.out.items (in_branches c.args.hidden.now (branches (map branch c.as_slice-in-If.result.now))) (in_tree c.args.hidden.now (tree c.args.e.now)) c.in_choices.new.hidden c.args.hidden.now (λ z. in_tree z (tree c.deref-in-Some.result.now)) c.in_ok-in_choices-in-If.ensures.uses c.in_expression-in-Some.ensures.uses c.in_ok-in_choices-in-If.ensures.hidden (in_if c.args.hidden.now c.args.e.now c.deref-in-Some.result.now c.in-Some.x c.in-If.bs c.as_slice-in-If.result.now c.in-If.other c.in-If.is c.in-Some.is c.deref-in-Some.ensures c.as_slice-in-If.ensures.value)

pub in_expression-returns-in-Some-clause-hidden : goal.in_expression-returns-in-Some-clause-hidden
in_expression-returns-in-Some-clause-hidden t c = kept_on_ok c.in_expression-in-Some.result c.args.hidden.now c.in_choices.new.hidden c.in_expression-in-Some.new.hidden c.in_ok-in_choices-in-If.ensures.hidden c.in_expression-in-Some.ensures.hidden

pub in_expression-returns-after-loop-row-clause-uses : goal.in_expression-returns-after-loop-row-clause-uses
in_expression-returns-after-loop-row-clause-uses t c = all_read (λ x. in_trees c.args.hidden.now (trees (map tree x.items))) c.as_slice-row-items.result.now c.loop-row.row-index c.args.out.now.items c.loop-row.out.items _ c.loop-row.invariant.uses c.loop-row-test.false (in_rows_form c.args.hidden.now c.args.e.now c.in-Rows.rs c.as_slice-row-items.result.now c.in-Rows.is c.as_slice-row-items.ensures.value)

pub in_expression-returns-in_ok-applied-in-Call-clause-uses : goal.in_expression-returns-in_ok-applied-in-Call-clause-uses
in_expression-returns-in_ok-applied-in-Call-clause-uses t c = both_on_ok c.in_all.result c.args.out.now.items c.applied.new.out.items c.in_all.new.out.items (applied c.args.hidden.now c.in-Call.n c.is_empty.result) (in_trees c.args.hidden.now (trees (map tree c.as_slice-in-Call.result.now))) (in_tree c.args.hidden.now (tree c.args.e.now)) c.in_ok-applied-in-Call.ensures c.in_all.ensures.uses (in_call c.args.hidden.now c.args.e.now c.in-Call.n c.in-Call.xs c.as_slice-in-Call.result.now c.is_empty.result c.in-Call.is c.as_slice-in-Call.ensures.value (c.is_empty.ensures ∙ ap (λ z. nat_eq z 0) (sym c.as_slice-in-Call.ensures.len) ∙ sym (empty_same c.as_slice-in-Call.result.now)))

pub in_expression-returns-in-Int : goal.in_expression-returns-in-Int
in_expression-returns-in-Int t c = record {
  uses = after_none c.args.out.now.items (in_tree c.args.hidden.now (tree c.args.e.now)) (in_int c.args.hidden.now c.args.e.now _ c.in-Int.is);
  hidden = refl;
}

pub in_expression-returns-in-Bool : goal.in_expression-returns-in-Bool
in_expression-returns-in-Bool t c = record {
  uses = after_none c.args.out.now.items (in_tree c.args.hidden.now (tree c.args.e.now)) (in_bool c.args.hidden.now c.args.e.now _ c.in-Bool.is);
  hidden = refl;
}

pub in_expression-returns-in-Absent : goal.in_expression-returns-in-Absent
in_expression-returns-in-Absent t c = record {
  uses = after_none c.args.out.now.items (in_tree c.args.hidden.now (tree c.args.e.now)) (in_absent c.args.hidden.now c.args.e.now c.in-Absent.is);
  hidden = refl;
}

pub in_expression-returns-in-Text : goal.in_expression-returns-in-Text
in_expression-returns-in-Text t c = record {
  uses = after_none c.args.out.now.items (in_tree c.args.hidden.now (tree c.args.e.now)) (in_text c.args.hidden.now c.args.e.now _ c.in-Text.is);
  hidden = refl;
}

pub in_expression-returns-in-Whole : goal.in_expression-returns-in-Whole
in_expression-returns-in-Whole t c = record {
  uses = after_none c.args.out.now.items (in_tree c.args.hidden.now (tree c.args.e.now)) (in_whole c.args.hidden.now c.args.e.now c.in-Whole.is);
  hidden = refl;
}

pub in_expression-returns-in-Ident : goal.in_expression-returns-in-Ident
in_expression-returns-in-Ident t c = record {
  uses = one_on_ok c.mention.result c.args.out.now.items c.mention.new.out.items (mention c.args.hidden.now c.in-Ident.n) (in_tree c.args.hidden.now (tree c.args.e.now)) c.mention.ensures (in_ident c.args.hidden.now c.args.e.now c.in-Ident.n c.in-Ident.is);
  hidden = on_ok_weaker c.mention.result (λ _. refl) c.mention.ensures;
}

pub in_expression-returns-in-Interp : goal.in_expression-returns-in-Interp
in_expression-returns-in-Interp t c = record {
  uses = one_on_ok c.in_pieces.result c.args.out.now.items c.in_pieces.new.out.items (in_parts c.args.hidden.now (parts (map part c.as_slice.result.now))) (in_tree c.args.hidden.now (tree c.args.e.now)) c.in_pieces.ensures.uses (in_interp c.args.hidden.now c.args.e.now c.in-Interp.ps c.as_slice.result.now c.in-Interp.is c.as_slice.ensures.value);
  hidden = c.in_pieces.ensures.hidden;
}

pub in_expression-returns-in-Unary : goal.in_expression-returns-in-Unary
in_expression-returns-in-Unary t c = record {
  uses = one_on_ok c.in_expression.result c.args.out.now.items c.in_expression.new.out.items (in_tree c.args.hidden.now (tree c.deref.result.now)) (in_tree c.args.hidden.now (tree c.args.e.now)) c.in_expression.ensures.uses (in_unary c.args.hidden.now c.args.e.now c.deref.result.now c.in-Unary.field-0 c.in-Unary.x c.in-Unary.is c.deref.ensures);
  hidden = c.in_expression.ensures.hidden;
}

pub in_expression-returns-in-Array : goal.in_expression-returns-in-Array
in_expression-returns-in-Array t c = record {
  uses = one_on_ok c.in_all-in-Array.result c.args.out.now.items c.in_all-in-Array.new.out.items (in_trees c.args.hidden.now (trees (map tree c.as_slice-in-Array.result.now))) (in_tree c.args.hidden.now (tree c.args.e.now)) c.in_all-in-Array.ensures.uses (in_array c.args.hidden.now c.args.e.now c.in-Array.xs c.as_slice-in-Array.result.now c.in-Array.is c.as_slice-in-Array.ensures.value);
  hidden = c.in_all-in-Array.ensures.hidden;
}

pub in_expression-returns-in-Set : goal.in_expression-returns-in-Set
in_expression-returns-in-Set t c = record {
  uses = one_on_ok c.in_all-in-Set.result c.args.out.now.items c.in_all-in-Set.new.out.items (in_trees c.args.hidden.now (trees (map tree c.as_slice-in-Set.result.now))) (in_tree c.args.hidden.now (tree c.args.e.now)) c.in_all-in-Set.ensures.uses (in_set c.args.hidden.now c.args.e.now c.in-Set.xs c.as_slice-in-Set.result.now c.in-Set.is c.as_slice-in-Set.ensures.value);
  hidden = c.in_all-in-Set.ensures.hidden;
}

pub in_expression-returns-in-None : goal.in_expression-returns-in-None
in_expression-returns-in-None t c = record {
  uses = after_one c.args.out.now.items c.in_choices.new.out.items (in_branches c.args.hidden.now (branches (map branch c.as_slice-in-If.result.now))) (in_tree c.args.hidden.now (tree c.args.e.now)) c.in_ok-in_choices-in-If.ensures.uses (in_if_alone c.args.hidden.now c.args.e.now c.in-If.bs c.as_slice-in-If.result.now c.in-If.other c.in-If.is c.in-None.is c.as_slice-in-If.ensures.value);
  hidden = c.in_ok-in_choices-in-If.ensures.hidden;
}

pub in_piece-returns-in-Plain : goal.in_piece-returns-in-Plain
in_piece-returns-in-Plain t c = record {
  uses = after_none c.args.out.now.items (in_part c.args.hidden.now (part c.args.piece.now)) (in_plain_piece c.args.hidden.now c.args.piece.now _ c.in-Plain.is);
  hidden = refl;
}

pub in_piece-returns-in-Shown : goal.in_piece-returns-in-Shown
in_piece-returns-in-Shown t c = record {
  uses = one_on_ok c.in_expression.result c.args.out.now.items c.in_expression.new.out.items (in_tree c.args.hidden.now (tree c.in-Shown.e)) (in_part c.args.hidden.now (part c.args.piece.now)) c.in_expression.ensures.uses (in_shown_piece c.args.hidden.now c.args.piece.now c.in-Shown.e c.in-Shown.is);
  hidden = c.in_expression.ensures.hidden;
}

pub in_one-returns-in-Some : goal.in_one-returns-in-Some
in_one-returns-in-Some t c =
    let h = c.args.hidden.now in
    let g = c.args.g.now in
    let names = c.as_slice.result.now in
    let after = c.in_ok-hide_bound.ensures ∙ ap (λ z. with_bound z names) c.in_ok-in_expression.ensures.hidden in
    record {
      uses = scope_on_ok c.in_expression-in-Some.result c.args.out.now.items c.in_expression.new.out.items c.in_expression-in-Some.new.out.items (in_tree h (tree (out-Gen g).set)) (in_generator h (generator g)) c.hide_bound.new.hidden (with_bound h names) (λ z. in_tree z (tree c.in-Some.condition))
          c.in_ok-in_expression.ensures.uses c.in_expression-in-Some.ensures.uses after (in_generator_where h g c.in-Some.condition names c.in-Some.is c.as_slice.ensures.value);
      hidden = kept_on_ok c.in_expression-in-Some.result (with_generator h (generator g)) c.hide_bound.new.hidden c.in_expression-in-Some.new.hidden (after ∙ sym (with_generator_is h g names c.as_slice.ensures.value)) c.in_expression-in-Some.ensures.hidden;
    }

pub in_one-returns-in-None : goal.in_one-returns-in-None
in_one-returns-in-None t c =
    let h = c.args.hidden.now in
    let g = c.args.g.now in
    let names = c.as_slice.result.now in
    record {
      uses = after_one c.args.out.now.items c.in_expression.new.out.items (in_tree h (tree (out-Gen g).set)) (in_generator h (generator g)) c.in_ok-in_expression.ensures.uses (in_generator_alone h g c.in-None.is);
      hidden = c.in_ok-hide_bound.ensures ∙ ap (λ z. with_bound z names) c.in_ok-in_expression.ensures.hidden ∙ sym (with_generator_is h g names c.as_slice.ensures.value);
    }

pub in_let_item-returns-in-Decl : goal.in_let_item-returns-in-Decl
in_let_item-returns-in-Decl t c =
    let h = c.args.hidden.now in
    let l = c.args.item.now in
    let d = c.in-Decl.d in
    record {
      uses = one_on_ok c.in_local.result c.args.out.now.items c.in_local.new.out.items (in_declaration h (declaration d)) (in_let h (let_of l)) c.in_local.ensures.uses (in_decl_item h l d c.in-Decl.is);
      hidden = on_ok_weaker c.in_local.result (λ k. k ∙ sym (with_decl_item h l d c.in-Decl.is)) c.in_local.ensures.hidden;
    }

pub in_let_item-returns-in-Constraint : goal.in_let_item-returns-in-Constraint
in_let_item-returns-in-Constraint t c =
    let h = c.args.hidden.now in
    let l = c.args.item.now in
    let e = c.in-Constraint.e in
    record {
      uses = one_on_ok c.in_expression.result c.args.out.now.items c.in_expression.new.out.items (in_tree h (tree e)) (in_let h (let_of l)) c.in_expression.ensures.uses (in_constraint_item h l e c.in-Constraint.is);
      hidden = on_ok_weaker c.in_expression.result (λ k. k ∙ sym (with_constraint_item h l e c.in-Constraint.is)) c.in_expression.ensures.hidden;
    }

pub in_local-returns-in_ok-in_expression-in-Some : goal.in_local-returns-in_ok-in_expression-in-Some
in_local-returns-in_ok-in_expression-in-Some t c =
    let h = c.args.hidden.now in
    let d = c.args.d.now in
    let e = tree c.in-Some.value in
    let uses = after_both c.args.out.now.items c.in_type.new.out.items c.in_expression.new.out.items (in_written h (written (out-Decl d).ty)) (in_tree h e) (in_declaration h (declaration d)) c.in_ok-in_type.ensures.uses
    (c.in_ok-in_expression-in-Some.ensures.uses ∙ ap (λ z. c.in_type.new.out.items ++ in_tree z e) c.in_ok-in_type.ensures.hidden) (in_declaration_value h d c.in-Some.value c.in-Some.is) in
    record {
      uses = on_ok_weaker c.add.result (λ k. uses) c.add.ensures;
      hidden = on_ok_weaker c.add.result (λ k. k ∙ ap (λ z. with_name z (out-Decl d).name) (c.in_ok-in_expression-in-Some.ensures.hidden ∙ c.in_ok-in_type.ensures.hidden) ∙ sym (with_declaration_is h d)) c.add.ensures;
    }

pub in_local-returns-in-None : goal.in_local-returns-in-None
in_local-returns-in-None t c =
    let h = c.args.hidden.now in
    let d = c.args.d.now in
    let uses = after_one c.args.out.now.items c.in_type.new.out.items (in_written h (written (out-Decl d).ty)) (in_declaration h (declaration d)) c.in_ok-in_type.ensures.uses (in_declaration_alone h d c.in-None.is) in
    record {
      uses = on_ok_weaker c.add-in-None.result (λ k. uses) c.add-in-None.ensures;
      hidden = on_ok_weaker c.add-in-None.result (λ k. k ∙ ap (λ z. with_name z (out-Decl d).name) c.in_ok-in_type.ensures.hidden ∙ sym (with_declaration_is h d)) c.add-in-None.ensures;
    }

pub in_type-returns-in_ok-in_dims-in-Some : goal.in_type-returns-in_ok-in_dims-in-Some
in_type-returns-in_ok-in_dims-in-Some t c =
    let h = c.args.hidden.now in
    let ty = c.args.t.now in
    record {
      uses = scope_on_ok c.in_base.result c.args.out.now.items c.in_dims.new.out.items c.in_base.new.out.items (in_bases h (bases (map based c.as_slice.result.now))) (in_written h (written ty)) c.in_dims.new.hidden h (λ z. in_based z (based (out-TypeText ty).base))
          c.in_ok-in_dims-in-Some.ensures.uses c.in_base.ensures.uses c.in_ok-in_dims-in-Some.ensures.hidden (in_array_type h ty c.in-Some.dims c.as_slice.result.now c.in-Some.is c.as_slice.ensures.value);
      hidden = kept_on_ok c.in_base.result h c.in_dims.new.hidden c.in_base.new.hidden c.in_ok-in_dims-in-Some.ensures.hidden c.in_base.ensures.hidden;
    }

pub in_type-returns-in-None : goal.in_type-returns-in-None
in_type-returns-in-None t c =
    let h = c.args.hidden.now in
    let ty = c.args.t.now in
    record {
      uses = one_on_ok c.in_base-in-None.result c.args.out.now.items c.in_base-in-None.new.out.items (in_based h (based (out-TypeText ty).base)) (in_written h (written ty)) c.in_base-in-None.ensures.uses (in_plain_type h ty c.in-None.is);
      hidden = c.in_base-in-None.ensures.hidden;
    }

pub in_base-returns-in-Bool : goal.in_base-returns-in-Bool
in_base-returns-in-Bool t c = record {
  uses = after_none c.args.out.now.items (in_based c.args.hidden.now (based c.args.base.now)) (in_bool_base c.args.hidden.now c.args.base.now c.in-Bool.is);
  hidden = refl;
}

pub in_base-returns-in-Int : goal.in_base-returns-in-Int
in_base-returns-in-Int t c = record {
  uses = after_none c.args.out.now.items (in_based c.args.hidden.now (based c.args.base.now)) (in_int_base c.args.hidden.now c.args.base.now c.in-Int.is);
  hidden = refl;
}

pub in_base-returns-in-Of : goal.in_base-returns-in-Of
in_base-returns-in-Of t c = record {
  uses = one_on_ok c.in_expression.result c.args.out.now.items c.in_expression.new.out.items (in_tree c.args.hidden.now (tree c.deref.result.now)) (in_based c.args.hidden.now (based c.args.base.now)) c.in_expression.ensures.uses (in_of_base c.args.hidden.now c.args.base.now c.in-Of.e c.deref.result.now c.in-Of.is c.deref.ensures);
  hidden = c.in_expression.ensures.hidden;
}
