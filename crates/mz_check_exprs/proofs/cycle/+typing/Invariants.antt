use Rattle.std.proofs.Common.{◌≡◌, [], map, drop}
use Rattle.mz_core.specs.Tree.{type_of}
use Rattle.mz_core.specs.TreeViews.{tree}
use Rattle.mz_check_meaning.specs.Tests.{loop, one_more}
use Rattle.mz_check_meaning.specs.Forms.{part, row_parts, piece, left_next, operand, branch_next, gen_next, let_next, based_part}
use Rattle.mz_check_context.specs.Known.{known}
use Rattle.mz_check_context.specs.Extending.{Extends}
use Rattle.mz_check_calls.specs.Views.{operand as operand_of, chained}
use Rattle.mz_check_context.specs.Views.{typed_base}
use Rattle.mz_check_exprs.specs.StepsForms.{expression, operand_by, branch_by, piece_by, gen_by, base_by, item_by}
use Rattle.mz_check_exprs.specs.Views.{generated, declared_in, branched}
use Rattle.mz_check_exprs.proofs.cycle.+typing.Given as goal

abbrev pub invariant-check_all-loop-e : goal.invariant-check_all-loop-e
invariant-check_all-loop-e l = record {
  built : loop (one_more (part l.fn.scope)) [] (map (expression (known l.context)) l.es) ≡ loop (one_more (part l.fn.scope)) (map tree l.all.items) (map (expression (known l.context)) (drop l.e-index l.es));
  kept : l.scope ≡ l.fn.scope;
}

abbrev pub invariant-check_form-loop-row : goal.invariant-check_form-loop-row
invariant-check_form-loop-row l = record {
  built : loop (one_more (row_parts l.fn.scope)) [] (map (λ r. map (expression (known l.context)) r.items) l.row-items) ≡ loop (one_more (row_parts l.fn.scope)) (map (λ r. map tree r.items) l.lines.items) (map (λ r. map (expression (known l.context)) r.items) (drop l.row-index l.row-items));
  kept : l.scope ≡ l.fn.scope;
}

abbrev pub invariant-check_pieces-loop-p : goal.invariant-check_pieces-loop-p
invariant-check_pieces-loop-p l = record {
  built : loop (one_more (piece l.span l.fn.scope)) [] (map (piece_by (known l.context)) l.ps) ≡ loop (one_more (piece l.span l.fn.scope)) (map tree l.all.items) (map (piece_by (known l.context)) (drop l.p-index l.ps));
  kept : l.scope ≡ l.fn.scope;
}

abbrev pub invariant-check_left-loop-o : goal.invariant-check_left-loop-o
invariant-check_left-loop-o l = record {
  built : loop (left_next l.span l.fn.scope) (record { ty = type_of (tree l.first); done = [] }) (map (operand_by (known l.context)) l.rest) ≡ loop (left_next l.span l.fn.scope) (chained l.done) (map (operand_by (known l.context)) (drop l.o-index l.rest));
  kept : l.scope ≡ l.fn.scope;
}

abbrev pub invariant-check_right-loop-o : goal.invariant-check_right-loop-o
invariant-check_right-loop-o l = record {
  built : loop (one_more (operand l.fn.scope)) [] (map (operand_by (known l.context)) l.rest) ≡ loop (one_more (operand l.fn.scope)) (map operand_of l.operands.items) (map (operand_by (known l.context)) (drop l.o-index l.rest));
  kept : l.scope ≡ l.fn.scope;
}

abbrev pub invariant-check_branches-loop-b : goal.invariant-check_branches-loop-b
invariant-check_branches-loop-b l = record {
  built : loop (branch_next l.fn.scope) (branched l.fn.conds.items l.fn.thens.items) (map (branch_by (known l.context)) l.bs) ≡ loop (branch_next l.fn.scope) (branched l.conds.items l.thens.items) (map (branch_by (known l.context)) (drop l.b-index l.bs));
  kept : l.scope ≡ l.fn.scope;
}

abbrev pub invariant-check_gens-loop-g : goal.invariant-check_gens-loop-g
invariant-check_gens-loop-g l = record {
  built : loop (gen_next l.start) (generated [] l.fn.scope) (map (gen_by (known l.context)) l.gs) ≡ loop (gen_next l.start) (generated l.all.items l.scope) (map (gen_by (known l.context)) (drop l.g-index l.gs));
  extends : Extends l.fn.scope l.scope;
}

abbrev pub invariant-check_items-loop-l : goal.invariant-check_items-loop-l
invariant-check_items-loop-l l = record {
  built : loop (let_next l.start) (declared_in l.fn.all.items l.fn.scope) (map (item_by (known l.context)) l.ls) ≡ loop (let_next l.start) (declared_in l.all.items l.scope) (map (item_by (known l.context)) (drop l.l-index l.ls));
  extends : Extends l.fn.scope l.scope;
}

abbrev pub invariant-check_bases-loop-b : goal.invariant-check_bases-loop-b
invariant-check_bases-loop-b l = record {
  built : loop (one_more (based_part l.fn.scope)) [] (map (base_by (known l.context)) l.bs) ≡ loop (one_more (based_part l.fn.scope)) (map typed_base l.all.items) (map (base_by (known l.context)) (drop l.b-index l.bs));
  kept : l.scope ≡ l.fn.scope;
}
