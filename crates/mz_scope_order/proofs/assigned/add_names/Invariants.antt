use Rattle.std.proofs.Common.{◌≡◌, ◌++◌, drop}
use Rattle.std.specs.List.{flat_map}
use Rattle.mz_tree.specs.Items.{item}
use Rattle.mz_scope_order.specs.StepsTables.{name_assigned}
use Rattle.mz_scope_order.proofs.assigned.add_names.Given as goal

abbrev pub invariant-loop-item : goal.invariant-loop-item
invariant-loop-item l = l.fn.out.items ++ flat_map (λ i. name_assigned (item i)) l.items ≡ l.out.items ++ flat_map (λ i. name_assigned (item i)) (drop l.item-index l.items)
