use Rattle.std.proofs.Common.{◌≡◌, ◌++◌, drop, map}
use Rattle.std.specs.List.{flat_map}
use Rattle.mz_tree.specs.Items.{item}
use Rattle.mz_scope_order.specs.Scoped.{enum_tree}
use Rattle.mz_scope_order.specs.StepsParts.{enum_by}
use Rattle.mz_scope_order.specs.StepsTables.{item_found}
use Rattle.mz_scope_order.proofs.enums.add_enums.Given as goal

abbrev pub invariant-loop-item : goal.invariant-loop-item
invariant-loop-item l = map enum_tree l.fn.out.items ++ flat_map (λ i. enum_by (item_found l.table) (item i)) l.items ≡ map enum_tree l.out.items ++ flat_map (λ i. enum_by (item_found l.table) (item i)) (drop l.item-index l.items)
