use Rattle.std.proofs.Common.{◌≡◌, ◌++◌, drop, map}
use Rattle.std.specs.List.{flat_map}
use Rattle.mz_tree.specs.Views.{tree}
use Rattle.mz_tree.specs.Items.{item}
use Rattle.mz_scope_order.specs.StepsTables.{value_assigned}
use Rattle.mz_scope_order.proofs.assigned.add_values.Given as goal

abbrev pub invariant-loop-item : goal.invariant-loop-item
invariant-loop-item l = map (λ e. tree e.now) l.fn.out.items ++ flat_map (λ i. value_assigned (item i)) l.items ≡ map (λ e. tree e.now) l.out.items ++ flat_map (λ i. value_assigned (item i)) (drop l.item-index l.items)
