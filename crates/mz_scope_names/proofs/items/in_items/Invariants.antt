use Rattle.std.proofs.Common.{◌≡◌, ◌++◌, drop}
use Rattle.std.specs.List.{flat_map}
use Rattle.mz_tree.specs.Items.{item}
use Rattle.mz_scope_names.specs.Occurrences.{in_item}
use Rattle.mz_scope_names.proofs.items.in_items.Given as goal

abbrev pub invariant-loop-item : goal.invariant-loop-item
invariant-loop-item l = l.fn.out.items ++ flat_map (λ x. in_item (item x)) l.items ≡ l.out.items ++ flat_map (λ x. in_item (item x)) (drop l.item-index l.items)
