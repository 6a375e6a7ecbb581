use Rattle.std.proofs.Common.{◌≡◌, ◌++◌, drop, map}
use Rattle.std.specs.List.{flat_map}
use Rattle.mz_tree.specs.Tree.{trees, gens, lets}
use Rattle.mz_tree.specs.Views.{tree, part, generator, let_of, based}
use Rattle.mz_scope_names.specs.Uses.{in_tree, in_trees, in_part, in_gens, in_lets, in_based, with_gens, with_lets}
use Rattle.mz_scope_names.proofs.use_walk.+walk.Given as goal

abbrev pub invariant-in_all-loop-e : goal.invariant-in_all-loop-e
invariant-in_all-loop-e l = record {
  uses : l.fn.out.items ++ flat_map (λ x. in_tree l.fn.hidden (tree x)) l.es ≡ l.out.items ++ flat_map (λ x. in_tree l.fn.hidden (tree x)) (drop l.e-index l.es);
  hidden : l.hidden ≡ l.fn.hidden;
}

abbrev pub invariant-in_operands-loop-operand : goal.invariant-in_operands-loop-operand
invariant-in_operands-loop-operand l = record {
  uses : l.fn.out.items ++ flat_map (λ x. in_tree l.fn.hidden (tree x.1)) l.rest ≡ l.out.items ++ flat_map (λ x. in_tree l.fn.hidden (tree x.1)) (drop l.operand-index l.rest);
  hidden : l.hidden ≡ l.fn.hidden;
}

abbrev pub invariant-in_expression-loop-row : goal.invariant-in_expression-loop-row
invariant-in_expression-loop-row l = record {
  uses : l.fn.out.items ++ flat_map (λ x. in_trees l.fn.hidden (trees (map tree x.items))) l.row-items ≡ l.out.items ++ flat_map (λ x. in_trees l.fn.hidden (trees (map tree x.items))) (drop l.row-index l.row-items);
  hidden : l.hidden ≡ l.fn.hidden;
}

abbrev pub invariant-in_choices-loop-choice : goal.invariant-in_choices-loop-choice
invariant-in_choices-loop-choice l = record {
  uses : l.fn.out.items ++ flat_map (λ x. in_tree l.fn.hidden (tree x.0) ++ in_tree l.fn.hidden (tree x.1)) l.choices ≡ l.out.items ++ flat_map (λ x. in_tree l.fn.hidden (tree x.0) ++ in_tree l.fn.hidden (tree x.1)) (drop l.choice-index l.choices);
  hidden : l.hidden ≡ l.fn.hidden;
}

abbrev pub invariant-in_pieces-loop-piece : goal.invariant-in_pieces-loop-piece
invariant-in_pieces-loop-piece l = record {
  uses : l.fn.out.items ++ flat_map (λ x. in_part l.fn.hidden (part x)) l.pieces ≡ l.out.items ++ flat_map (λ x. in_part l.fn.hidden (part x)) (drop l.piece-index l.pieces);
  hidden : l.hidden ≡ l.fn.hidden;
}

abbrev pub invariant-in_dims-loop-dim : goal.invariant-in_dims-loop-dim
invariant-in_dims-loop-dim l = record {
  uses : l.fn.out.items ++ flat_map (λ x. in_based l.fn.hidden (based x)) l.dims ≡ l.out.items ++ flat_map (λ x. in_based l.fn.hidden (based x)) (drop l.dim-index l.dims);
  hidden : l.hidden ≡ l.fn.hidden;
}

abbrev pub invariant-in_generators-loop-g : goal.invariant-in_generators-loop-g
invariant-in_generators-loop-g l = record {
  uses : l.fn.out.items ++ in_gens l.fn.hidden (gens (map generator l.gs)) ≡ l.out.items ++ in_gens l.hidden (gens (map generator (drop l.g-index l.gs)));
  hidden : with_gens l.fn.hidden (gens (map generator l.gs)) ≡ with_gens l.hidden (gens (map generator (drop l.g-index l.gs)));
}

abbrev pub invariant-in_let_items-loop-item : goal.invariant-in_let_items-loop-item
invariant-in_let_items-loop-item l = record {
  uses : l.fn.out.items ++ in_lets l.fn.hidden (lets (map let_of l.items)) ≡ l.out.items ++ in_lets l.hidden (lets (map let_of (drop l.item-index l.items)));
  hidden : with_lets l.fn.hidden (lets (map let_of l.items)) ≡ with_lets l.hidden (lets (map let_of (drop l.item-index l.items)));
}
