use Rattle.std.proofs.Common.{◌≡◌, ◌++◌, map, drop}
use Rattle.std.specs.List.{flat_map}
use Rattle.std.specs.Option.{option_map}
use Rattle.mz_core.specs.TreeViews.{tree, gen, step, item, branch}
use Rattle.mz_check_data.specs.StepsLayers.{in_all, in_options, in_branch, in_operand, in_generator, in_item}
use Rattle.mz_check_data.proofs.walk.+texts.Given as goal

abbrev pub invariant-in_form-loop-row : goal.invariant-in_form-loop-row
invariant-in_form-loop-row l = l.fn.out.items ++ flat_map in_all (map (λ r. map tree r.items) l.row-items) ≡ l.out.items ++ flat_map in_all (map (λ r. map tree r.items) (drop l.row-index l.row-items))

abbrev pub invariant-in_all-loop-e : goal.invariant-in_all-loop-e
invariant-in_all-loop-e l = l.fn.out.items ++ in_all (map tree l.es) ≡ l.out.items ++ in_all (map tree (drop l.e-index l.es))

abbrev pub invariant-in_operands-loop-s : goal.invariant-in_operands-loop-s
invariant-in_operands-loop-s l = l.fn.out.items ++ flat_map in_operand (map step l.steps) ≡ l.out.items ++ flat_map in_operand (map step (drop l.s-index l.steps))

abbrev pub invariant-in_branches-loop-b : goal.invariant-in_branches-loop-b
invariant-in_branches-loop-b l = l.fn.out.items ++ flat_map in_branch (map branch l.branches) ≡ l.out.items ++ flat_map in_branch (map branch (drop l.b-index l.branches))

abbrev pub invariant-in_options-loop-m : goal.invariant-in_options-loop-m
invariant-in_options-loop-m l = l.fn.out.items ++ in_options (map (option_map tree) l.ms) ≡ l.out.items ++ in_options (map (option_map tree) (drop l.m-index l.ms))

abbrev pub invariant-in_generators-loop-g : goal.invariant-in_generators-loop-g
invariant-in_generators-loop-g l = l.fn.out.items ++ flat_map in_generator (map gen l.gens) ≡ l.out.items ++ flat_map in_generator (map gen (drop l.g-index l.gens))

abbrev pub invariant-in_items-loop-i : goal.invariant-in_items-loop-i
invariant-in_items-loop-i l = l.fn.out.items ++ flat_map in_item (map item l.items) ≡ l.out.items ++ flat_map in_item (map item (drop l.i-index l.items))
