use Rattle.std.proofs.Common.{◌++◌, [], ◌∷◌, map}
use Rattle.mz_tree.specs.Tree.{trees, links, parts, gens, lets, branches, bases}
use Rattle.mz_tree.specs.declared.expr.Form.TheViews.{out-Decl, out-Gen, out-TypeText}
use Rattle.mz_tree.specs.Views.{tree, part, generator, let_of, declaration, written, based, link, branch}
use Rattle.mz_scope_names.specs.declared.occurrence.Role.TheVariants.{Used, Local, Lacking}
use Rattle.mz_scope_names.specs.Roles.{occurs}
use Rattle.mz_scope_names.specs.Occurrences.{bound, in_tree, in_trees, in_links, in_part, in_parts, in_generator, in_gens, in_let, in_lets, in_local, in_branches, in_written, in_based, in_bases}
use Rattle.mz_scope_names.proofs.Lists.{one_read, all_read, trees_flat, links_flat, branches_flat, parts_flat, gens_flat, lets_flat, bases_flat}
use Rattle.mz_scope_names.proofs.Seen.{after_none, after_one, after_both, read_both, one_on_ok, both_on_ok, three_on_ok, in_int_form, in_bool_form, in_absent_form, in_text_form, in_whole_form, in_ident_form, in_interp_form, in_unary_form, in_chain_form, in_call_form, in_gen_call_form, in_access_form, in_array_form, in_rows_form, in_set_form, in_array_comp, in_set_comp, in_let_form, in_if_form, in_if_alone, in_plain_piece, in_shown_piece, in_decl_item, in_constraint_item, in_bool_base, in_int_base, in_of_base, in_generator_where, in_generator_alone, in_array_type, in_plain_type}
use Rattle.mz_scope_names.proofs.Declarations.{in_local_value, in_local_var, in_local_par}
use Rattle.mz_scope_names.proofs.walk.+walk.Goals as goal

pub in_all-loop-e-preserved : goal.in_all-loop-e-preserved
in_all-loop-e-preserved t c = one_read (λ x. in_tree (tree x)) c.args.es.now c.loop-e.e-index c.e-item.result c.args.out.now.items c.loop-e.out.items c.in_expression.new.out.items c.loop-e.invariant c.loop-e-test.true c.e-item.is c.in_ok-in_expression.ensures

pub in_all-returns : goal.in_all-returns
in_all-returns t c = all_read (λ x. in_tree (tree x)) c.args.es.now c.loop-e.e-index c.args.out.now.items c.loop-e.out.items _ c.loop-e.invariant c.loop-e-test.false (trees_flat tree c.args.es.now)

pub in_operands-loop-operand-preserved : goal.in_operands-loop-operand-preserved
in_operands-loop-operand-preserved t c = one_read (λ x. in_tree (tree x.1)) c.args.rest.now c.loop-operand.operand-index c.operand-item.result c.args.out.now.items c.loop-operand.out.items c.in_expression.new.out.items c.loop-operand.invariant c.loop-operand-test.true c.operand-item.is c.in_ok-in_expression.ensures

pub in_operands-returns : goal.in_operands-returns
in_operands-returns t c = all_read (λ x. in_tree (tree x.1)) c.args.rest.now c.loop-operand.operand-index c.args.out.now.items c.loop-operand.out.items _ c.loop-operand.invariant c.loop-operand-test.false (links_flat link c.args.rest.now)

pub in_choices-loop-choice-preserved : goal.in_choices-loop-choice-preserved
in_choices-loop-choice-preserved t c =
    one_read (λ x. in_tree (tree x.0) ++ in_tree (tree x.1)) c.args.choices.now c.loop-choice.choice-index c.choice-item.result c.args.out.now.items c.loop-choice.out.items c.in_expression-in-loop-choice.new.out.items c.loop-choice.invariant c.loop-choice-test.true c.choice-item.is
    (read_both c.loop-choice.out.items c.in_expression.new.out.items c.in_expression-in-loop-choice.new.out.items (in_tree (tree (c.choice-item.result).0)) (in_tree (tree (c.choice-item.result).1)) c.in_ok-in_expression.ensures c.in_ok-in_expression-2.ensures)

pub in_choices-returns : goal.in_choices-returns
in_choices-returns t c = all_read (λ x. in_tree (tree x.0) ++ in_tree (tree x.1)) c.args.choices.now c.loop-choice.choice-index c.args.out.now.items c.loop-choice.out.items _ c.loop-choice.invariant c.loop-choice-test.false (branches_flat branch c.args.choices.now)

pub in_pieces-loop-piece-preserved : goal.in_pieces-loop-piece-preserved
in_pieces-loop-piece-preserved t c = one_read (λ x. in_part (part x)) c.args.pieces.now c.loop-piece.piece-index c.piece-item.result c.args.out.now.items c.loop-piece.out.items c.in_piece.new.out.items c.loop-piece.invariant c.loop-piece-test.true c.piece-item.is c.in_ok-in_piece.ensures

pub in_pieces-returns : goal.in_pieces-returns
in_pieces-returns t c = all_read (λ x. in_part (part x)) c.args.pieces.now c.loop-piece.piece-index c.args.out.now.items c.loop-piece.out.items _ c.loop-piece.invariant c.loop-piece-test.false (parts_flat part c.args.pieces.now)

pub in_generators-loop-g-preserved : goal.in_generators-loop-g-preserved
in_generators-loop-g-preserved t c = one_read (λ x. in_generator (generator x)) c.args.generators.now c.loop-g.g-index c.g-item.result c.args.out.now.items c.loop-g.out.items c.in_generator.new.out.items c.loop-g.invariant c.loop-g-test.true c.g-item.is c.in_ok-in_generator.ensures

pub in_generators-returns : goal.in_generators-returns
in_generators-returns t c = all_read (λ x. in_generator (generator x)) c.args.generators.now c.loop-g.g-index c.args.out.now.items c.loop-g.out.items _ c.loop-g.invariant c.loop-g-test.false (gens_flat generator c.args.generators.now)

pub in_let_items-loop-item-preserved : goal.in_let_items-loop-item-preserved
in_let_items-loop-item-preserved t c = one_read (λ x. in_let (let_of x)) c.args.items.now c.loop-item.item-index c.item-item.result c.args.out.now.items c.loop-item.out.items c.in_let_item.new.out.items c.loop-item.invariant c.loop-item-test.true c.item-item.is c.in_ok-in_let_item.ensures

pub in_let_items-returns : goal.in_let_items-returns
in_let_items-returns t c = all_read (λ x. in_let (let_of x)) c.args.items.now c.loop-item.item-index c.args.out.now.items c.loop-item.out.items _ c.loop-item.invariant c.loop-item-test.false (lets_flat let_of c.args.items.now)

pub in_dims-loop-dim-preserved : goal.in_dims-loop-dim-preserved
in_dims-loop-dim-preserved t c = one_read (λ x. in_based (based x)) c.args.dims.now c.loop-dim.dim-index c.dim-item.result c.args.out.now.items c.loop-dim.out.items c.in_base.new.out.items c.loop-dim.invariant c.loop-dim-test.true c.dim-item.is c.in_ok-in_base.ensures

pub in_dims-returns : goal.in_dims-returns
in_dims-returns t c = all_read (λ x. in_based (based x)) c.args.dims.now c.loop-dim.dim-index c.args.out.now.items c.loop-dim.out.items _ c.loop-dim.invariant c.loop-dim-test.false (bases_flat based c.args.dims.now)

pub in_expression-returns-in-Int : goal.in_expression-returns-in-Int
in_expression-returns-in-Int t c = after_none c.args.out.now.items (in_tree (tree c.args.e.now)) (in_int_form c.args.e.now _ c.in-Int.is)

pub in_expression-returns-in-Bool : goal.in_expression-returns-in-Bool
in_expression-returns-in-Bool t c = after_none c.args.out.now.items (in_tree (tree c.args.e.now)) (in_bool_form c.args.e.now _ c.in-Bool.is)

pub in_expression-returns-in-Absent : goal.in_expression-returns-in-Absent
in_expression-returns-in-Absent t c = after_none c.args.out.now.items (in_tree (tree c.args.e.now)) (in_absent_form c.args.e.now c.in-Absent.is)

pub in_expression-returns-in-Text : goal.in_expression-returns-in-Text
in_expression-returns-in-Text t c = after_none c.args.out.now.items (in_tree (tree c.args.e.now)) (in_text_form c.args.e.now _ c.in-Text.is)

pub in_expression-returns-in-Whole : goal.in_expression-returns-in-Whole
in_expression-returns-in-Whole t c = after_none c.args.out.now.items (in_tree (tree c.args.e.now)) (in_whole_form c.args.e.now c.in-Whole.is)

pub in_expression-returns-in-Ident : goal.in_expression-returns-in-Ident
in_expression-returns-in-Ident t c =
    one_on_ok c.note.result c.args.out.now.items c.note.new.out.items (occurs Used c.in-Ident.n c.args.e.now.span ∷ []) (in_tree (tree c.args.e.now))
    c.note.ensures (in_ident_form c.args.e.now c.in-Ident.n c.in-Ident.is)

pub in_expression-returns-in-Interp : goal.in_expression-returns-in-Interp
in_expression-returns-in-Interp t c =
    one_on_ok c.in_pieces.result c.args.out.now.items c.in_pieces.new.out.items (in_parts (parts (map part c.as_slice.result.now))) (in_tree (tree c.args.e.now))
    c.in_pieces.ensures (in_interp_form c.args.e.now c.in-Interp.ps c.as_slice.result.now c.in-Interp.is c.as_slice.ensures.value)

pub in_expression-returns-in-Unary : goal.in_expression-returns-in-Unary
in_expression-returns-in-Unary t c =
    one_on_ok c.in_expression.result c.args.out.now.items c.in_expression.new.out.items (in_tree (tree c.deref.result.now)) (in_tree (tree c.args.e.now))
    c.in_expression.ensures (in_unary_form c.args.e.now c.deref.result.now c.in-Unary.field-0 c.in-Unary.x c.in-Unary.is c.deref.ensures)

pub in_expression-returns-in_ok-in_expression-in-Chain : goal.in_expression-returns-in_ok-in_expression-in-Chain
in_expression-returns-in_ok-in_expression-in-Chain t c =
    both_on_ok c.in_operands.result c.args.out.now.items c.in_expression-in-Chain.new.out.items c.in_operands.new.out.items
    (in_tree (tree c.deref-in-Chain.result.now)) (in_links (links (map link c.as_slice-in-Chain.result.now))) (in_tree (tree c.args.e.now))
    c.in_ok-in_expression-in-Chain.ensures c.in_operands.ensures
    (in_chain_form c.args.e.now c.deref-in-Chain.result.now c.in-Chain.x c.in-Chain.rest c.as_slice-in-Chain.result.now c.in-Chain.is c.deref-in-Chain.ensures c.as_slice-in-Chain.ensures.value)

pub in_expression-returns-in_ok-note-in-Call : goal.in_expression-returns-in_ok-note-in-Call
in_expression-returns-in_ok-note-in-Call t c =
    both_on_ok c.in_all.result c.args.out.now.items c.note-in-Call.new.out.items c.in_all.new.out.items
    (occurs Used c.in-Call.n c.args.e.now.span ∷ []) (in_trees (trees (map tree c.as_slice-in-Call.result.now))) (in_tree (tree c.args.e.now))
    c.in_ok-note-in-Call.ensures c.in_all.ensures
    (in_call_form c.args.e.now c.in-Call.n c.in-Call.xs c.as_slice-in-Call.result.now c.in-Call.is c.as_slice-in-Call.ensures.value)

pub in_expression-returns-in_ok-in_generators-in-GenCall : goal.in_expression-returns-in_ok-in_generators-in-GenCall
in_expression-returns-in_ok-in_generators-in-GenCall t c =
    three_on_ok c.in_expression-in-GenCall.result c.args.out.now.items c.note-in-GenCall.new.out.items c.in_generators.new.out.items c.in_expression-in-GenCall.new.out.items
    (occurs Used c.in-GenCall.n c.args.e.now.span ∷ []) (in_gens (gens (map generator c.as_slice-in-GenCall.result.now))) (in_tree (tree c.deref-in-GenCall.result.now)) (in_tree (tree c.args.e.now))
    c.in_ok-note-in-GenCall.ensures c.in_ok-in_generators-in-GenCall.ensures c.in_expression-in-GenCall.ensures
    (in_gen_call_form c.args.e.now c.deref-in-GenCall.result.now c.in-GenCall.n c.in-GenCall.gs c.in-GenCall.x c.as_slice-in-GenCall.result.now c.in-GenCall.is c.deref-in-GenCall.ensures c.as_slice-in-GenCall.ensures.value)

pub in_expression-returns-in_ok-in_expression-in-Access : goal.in_expression-returns-in_ok-in_expression-in-Access
in_expression-returns-in_ok-in_expression-in-Access t c =
    both_on_ok c.in_all-in-Access.result c.args.out.now.items c.in_expression-in-Access.new.out.items c.in_all-in-Access.new.out.items
    (in_tree (tree c.deref-in-Access.result.now)) (in_trees (trees (map tree c.as_slice-in-Access.result.now))) (in_tree (tree c.args.e.now))
    c.in_ok-in_expression-in-Access.ensures c.in_all-in-Access.ensures
    (in_access_form c.args.e.now c.deref-in-Access.result.now c.in-Access.x c.in-Access.xs c.as_slice-in-Access.result.now c.in-Access.is c.deref-in-Access.ensures c.as_slice-in-Access.ensures.value)

pub in_expression-returns-in-Array : goal.in_expression-returns-in-Array
in_expression-returns-in-Array t c =
    one_on_ok c.in_all-in-Array.result c.args.out.now.items c.in_all-in-Array.new.out.items (in_trees (trees (map tree c.as_slice-in-Array.result.now))) (in_tree (tree c.args.e.now))
    c.in_all-in-Array.ensures (in_array_form c.args.e.now c.in-Array.xs c.as_slice-in-Array.result.now c.in-Array.is c.as_slice-in-Array.ensures.value)

pub in_expression-returns-after-loop-row : goal.in_expression-returns-after-loop-row
in_expression-returns-after-loop-row t c = all_read (λ x. in_trees (trees (map tree x.items))) c.as_slice-row-items.result.now c.loop-row.row-index c.args.out.now.items c.loop-row.out.items _ c.loop-row.invariant c.loop-row-test.false (in_rows_form c.args.e.now c.in-Rows.rs c.as_slice-row-items.result.now c.in-Rows.is c.as_slice-row-items.ensures.value)

pub in_expression-returns-in-Set : goal.in_expression-returns-in-Set
in_expression-returns-in-Set t c =
    one_on_ok c.in_all-in-Set.result c.args.out.now.items c.in_all-in-Set.new.out.items (in_trees (trees (map tree c.as_slice-in-Set.result.now))) (in_tree (tree c.args.e.now))
    c.in_all-in-Set.ensures (in_set_form c.args.e.now c.in-Set.xs c.as_slice-in-Set.result.now c.in-Set.is c.as_slice-in-Set.ensures.value)

pub in_expression-returns-in_ok-in_expression-in-ArrayComp : goal.in_expression-returns-in_ok-in_expression-in-ArrayComp
in_expression-returns-in_ok-in_expression-in-ArrayComp t c =
    both_on_ok c.in_generators-in-ArrayComp.result c.args.out.now.items c.in_expression-in-ArrayComp.new.out.items c.in_generators-in-ArrayComp.new.out.items
    (in_tree (tree c.deref-in-ArrayComp.result.now)) (in_gens (gens (map generator c.as_slice-in-ArrayComp.result.now))) (in_tree (tree c.args.e.now))
    c.in_ok-in_expression-in-ArrayComp.ensures c.in_generators-in-ArrayComp.ensures
    (in_array_comp c.args.e.now c.deref-in-ArrayComp.result.now c.in-ArrayComp.x c.in-ArrayComp.gs c.as_slice-in-ArrayComp.result.now c.in-ArrayComp.is c.deref-in-ArrayComp.ensures c.as_slice-in-ArrayComp.ensures.value)

pub in_expression-returns-in_ok-in_expression-in-SetComp : goal.in_expression-returns-in_ok-in_expression-in-SetComp
in_expression-returns-in_ok-in_expression-in-SetComp t c =
    both_on_ok c.in_generators-in-SetComp.result c.args.out.now.items c.in_expression-in-SetComp.new.out.items c.in_generators-in-SetComp.new.out.items
    (in_tree (tree c.deref-in-SetComp.result.now)) (in_gens (gens (map generator c.as_slice-in-SetComp.result.now))) (in_tree (tree c.args.e.now))
    c.in_ok-in_expression-in-SetComp.ensures c.in_generators-in-SetComp.ensures
    (in_set_comp c.args.e.now c.deref-in-SetComp.result.now c.in-SetComp.x c.in-SetComp.gs c.as_slice-in-SetComp.result.now c.in-SetComp.is c.deref-in-SetComp.ensures c.as_slice-in-SetComp.ensures.value)

pub in_expression-returns-in_ok-in_let_items-in-Let : goal.in_expression-returns-in_ok-in_let_items-in-Let
in_expression-returns-in_ok-in_let_items-in-Let t c =
    both_on_ok c.in_expression-in-Let.result c.args.out.now.items c.in_let_items.new.out.items c.in_expression-in-Let.new.out.items
    (in_lets (lets (map let_of c.as_slice-in-Let.result.now))) (in_tree (tree c.deref-in-Let.result.now)) (in_tree (tree c.args.e.now))
    c.in_ok-in_let_items-in-Let.ensures c.in_expression-in-Let.ensures
    (in_let_form c.args.e.now c.deref-in-Let.result.now c.in-Let.x c.in-Let.ls c.as_slice-in-Let.result.now c.in-Let.is c.deref-in-Let.ensures c.as_slice-in-Let.ensures.value)

pub in_expression-returns-in-Some : goal.in_expression-returns-in-Some
in_expression-returns-in-Some t c =
    both_on_ok c.in_expression-in-Some.result c.args.out.now.items c.in_choices.new.out.items c.in_expression-in-Some.new.out.items
    (in_branches (branches (map branch c.as_slice-in-If.result.now))) (in_tree (tree c.deref-in-Some.result.now)) (in_tree (tree c.args.e.now))
    c.in_ok-in_choices-in-If.ensures c.in_expression-in-Some.ensures
    (in_if_form c.args.e.now c.deref-in-Some.result.now c.in-Some.x c.in-If.bs c.as_slice-in-If.result.now c.in-If.other c.in-If.is c.in-Some.is c.deref-in-Some.ensures c.as_slice-in-If.ensures.value)

pub in_expression-returns-in-None : goal.in_expression-returns-in-None
in_expression-returns-in-None t c =
    after_one c.args.out.now.items c.in_choices.new.out.items (in_branches (branches (map branch c.as_slice-in-If.result.now))) (in_tree (tree c.args.e.now))
    c.in_ok-in_choices-in-If.ensures (in_if_alone c.args.e.now c.in-If.bs c.as_slice-in-If.result.now c.in-If.other c.in-If.is c.in-None.is c.as_slice-in-If.ensures.value)

pub in_piece-returns-in-Plain : goal.in_piece-returns-in-Plain
in_piece-returns-in-Plain t c = after_none c.args.out.now.items (in_part (part c.args.piece.now)) (in_plain_piece c.args.piece.now _ c.in-Plain.is)

pub in_piece-returns-in-Shown : goal.in_piece-returns-in-Shown
in_piece-returns-in-Shown t c =
    one_on_ok c.in_expression.result c.args.out.now.items c.in_expression.new.out.items (in_tree (tree c.in-Shown.e)) (in_part (part c.args.piece.now))
    c.in_expression.ensures (in_shown_piece c.args.piece.now c.in-Shown.e c.in-Shown.is)

pub in_generator-returns-in-Some : goal.in_generator-returns-in-Some
in_generator-returns-in-Some t c =
    three_on_ok c.in_expression-in-Some.result c.args.out.now.items c.in_bound.new.out.items c.in_expression.new.out.items c.in_expression-in-Some.new.out.items
    (map bound c.as_slice.result.now) (in_tree (tree (out-Gen c.args.g.now).set)) (in_tree (tree c.in-Some.condition)) (in_generator (generator c.args.g.now))
    c.in_ok-in_bound.ensures c.in_ok-in_expression.ensures c.in_expression-in-Some.ensures (in_generator_where c.args.g.now c.in-Some.condition c.as_slice.result.now c.in-Some.is c.as_slice.ensures.value)

pub in_generator-returns-in-None : goal.in_generator-returns-in-None
in_generator-returns-in-None t c =
    after_both c.args.out.now.items c.in_bound.new.out.items c.in_expression.new.out.items
    (map bound c.as_slice.result.now) (in_tree (tree (out-Gen c.args.g.now).set)) (in_generator (generator c.args.g.now))
    c.in_ok-in_bound.ensures c.in_ok-in_expression.ensures (in_generator_alone c.args.g.now c.as_slice.result.now c.in-None.is c.as_slice.ensures.value)

pub in_let_item-returns-in-Decl : goal.in_let_item-returns-in-Decl
in_let_item-returns-in-Decl t c =
    one_on_ok c.in_local.result c.args.out.now.items c.in_local.new.out.items (in_local (declaration c.in-Decl.d)) (in_let (let_of c.args.item.now))
    c.in_local.ensures (in_decl_item c.args.item.now c.in-Decl.d c.in-Decl.is)

pub in_let_item-returns-in-Constraint : goal.in_let_item-returns-in-Constraint
in_let_item-returns-in-Constraint t c =
    one_on_ok c.in_expression.result c.args.out.now.items c.in_expression.new.out.items (in_tree (tree c.in-Constraint.e)) (in_let (let_of c.args.item.now))
    c.in_expression.ensures (in_constraint_item c.args.item.now c.in-Constraint.e c.in-Constraint.is)

pub in_local-returns-in-Some : goal.in_local-returns-in-Some
in_local-returns-in-Some t c =
    let u = out-Decl c.args.d.now in
    three_on_ok c.in_expression.result c.args.out.now.items c.in_type.new.out.items c.note.new.out.items c.in_expression.new.out.items
    (in_written (written u.ty)) (occurs Local u.name u.span ∷ []) (in_tree (tree c.in-Some.value)) (in_local (declaration c.args.d.now))
    c.in_ok-in_type.ensures c.in_ok-note.ensures c.in_expression.ensures (in_local_value c.args.d.now c.in-Some.value c.in-Some.is)

pub in_local-returns-then-d : goal.in_local-returns-then-d
in_local-returns-then-d t c =
    let u = out-Decl c.args.d.now in
    after_both c.args.out.now.items c.in_type.new.out.items c.note.new.out.items (in_written (written u.ty)) (occurs Local u.name u.span ∷ []) (in_local (declaration c.args.d.now))
    c.in_ok-in_type.ensures c.in_ok-note.ensures (in_local_var c.args.d.now c.in-None.is c.if-d.true)

pub in_local-returns-else-d : goal.in_local-returns-else-d
in_local-returns-else-d t c =
    let u = out-Decl c.args.d.now in
    three_on_ok c.note-else-d.result c.args.out.now.items c.in_type.new.out.items c.note.new.out.items c.note-else-d.new.out.items
    (in_written (written u.ty)) (occurs Local u.name u.span ∷ []) (occurs Lacking u.name u.span ∷ []) (in_local (declaration c.args.d.now))
    c.in_ok-in_type.ensures c.in_ok-note.ensures c.note-else-d.ensures (in_local_par c.args.d.now c.in-None.is c.if-d.false)

pub in_type-returns-in_ok-in_dims-in-Some : goal.in_type-returns-in_ok-in_dims-in-Some
in_type-returns-in_ok-in_dims-in-Some t c =
    both_on_ok c.in_base.result c.args.out.now.items c.in_dims.new.out.items c.in_base.new.out.items
    (in_bases (bases (map based c.as_slice.result.now))) (in_based (based (out-TypeText c.args.t.now).base)) (in_written (written c.args.t.now))
    c.in_ok-in_dims-in-Some.ensures c.in_base.ensures (in_array_type c.args.t.now c.in-Some.dims c.as_slice.result.now c.in-Some.is c.as_slice.ensures.value)

pub in_type-returns-in-None : goal.in_type-returns-in-None
in_type-returns-in-None t c =
    one_on_ok c.in_base-in-None.result c.args.out.now.items c.in_base-in-None.new.out.items (in_based (based (out-TypeText c.args.t.now).base)) (in_written (written c.args.t.now))
    c.in_base-in-None.ensures (in_plain_type c.args.t.now c.in-None.is)

pub in_base-returns-in-Bool : goal.in_base-returns-in-Bool
in_base-returns-in-Bool t c = after_none c.args.out.now.items (in_based (based c.args.base.now)) (in_bool_base c.args.base.now c.in-Bool.is)

pub in_base-returns-in-Int : goal.in_base-returns-in-Int
in_base-returns-in-Int t c = after_none c.args.out.now.items (in_based (based c.args.base.now)) (in_int_base c.args.base.now c.in-Int.is)

pub in_base-returns-in-Of : goal.in_base-returns-in-Of
in_base-returns-in-Of t c =
    one_on_ok c.in_expression.result c.args.out.now.items c.in_expression.new.out.items (in_tree (tree c.deref.result.now)) (in_based (based c.args.base.now))
    c.in_expression.ensures (in_of_base c.args.base.now c.in-Of.e c.deref.result.now c.in-Of.is c.deref.ensures)
