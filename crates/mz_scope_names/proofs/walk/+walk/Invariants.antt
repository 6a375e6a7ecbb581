use Rattle.std.proofs.Common.{◌≡◌, ◌++◌, drop, map}
use Rattle.std.specs.List.{flat_map}
use Rattle.mz_tree.specs.Tree.{trees}
use Rattle.mz_tree.specs.Views.{tree, part, generator, let_of, based}
use Rattle.mz_scope_names.specs.Occurrences.{in_tree, in_trees, in_part, in_generator, in_let, in_based}
use Rattle.mz_scope_names.proofs.walk.+walk.Given as goal

abbrev pub invariant-in_all-loop-e : goal.invariant-in_all-loop-e
invariant-in_all-loop-e l = l.fn.out.items ++ flat_map (λ x. in_tree (tree x)) l.es ≡ l.out.items ++ flat_map (λ x. in_tree (tree x)) (drop l.e-index l.es)

abbrev pub invariant-in_operands-loop-operand : goal.invariant-in_operands-loop-operand
invariant-in_operands-loop-operand l = l.fn.out.items ++ flat_map (λ x. in_tree (tree x.1)) l.rest ≡ l.out.items ++ flat_map (λ x. in_tree (tree x.1)) (drop l.operand-index l.rest)

abbrev pub invariant-in_expression-loop-row : goal.invariant-in_expression-loop-row
invariant-in_expression-loop-row l = l.fn.out.items ++ flat_map (λ x. in_trees (trees (map tree x.items))) l.row-items ≡ l.out.items ++ flat_map (λ x. in_trees (trees (map tree x.items))) (drop l.row-index l.row-items)

abbrev pub invariant-in_choices-loop-choice : goal.invariant-in_choices-loop-choice
invariant-in_choices-loop-choice l = l.fn.out.items ++ flat_map (λ x. in_tree (tree x.0) ++ in_tree (tree x.1)) l.choices ≡ l.out.items ++ flat_map (λ x. in_tree (tree x.0) ++ in_tree (tree x.1)) (drop l.choice-index l.choices)

abbrev pub invariant-in_pieces-loop-piece : goal.invariant-in_pieces-loop-piece
invariant-in_pieces-loop-piece l = l.fn.out.items ++ flat_map (λ x. in_part (part x)) l.pieces ≡ l.out.items ++ flat_map (λ x. in_part (part x)) (drop l.piece-index l.pieces)

abbrev pub invariant-in_generators-loop-g : goal.invariant-in_generators-loop-g
invariant-in_generators-loop-g l = l.fn.out.items ++ flat_map (λ x. in_generator (generator x)) l.generators ≡ l.out.items ++ flat_map (λ x. in_generator (generator x)) (drop l.g-index l.generators)

abbrev pub invariant-in_let_items-loop-item : goal.invariant-in_let_items-loop-item
invariant-in_let_items-loop-item l = l.fn.out.items ++ flat_map (λ x. in_let (let_of x)) l.items ≡ l.out.items ++ flat_map (λ x. in_let (let_of x)) (drop l.item-index l.items)

abbrev pub invariant-in_dims-loop-dim : goal.invariant-in_dims-loop-dim
invariant-in_dims-loop-dim l = l.fn.out.items ++ flat_map (λ x. in_based (based x)) l.dims ≡ l.out.items ++ flat_map (λ x. in_based (based x)) (drop l.dim-index l.dims)
