use Rattle.std.proofs.Common.{◌≡◌, ◌++◌, drop, map}
use Rattle.std.specs.List.{flat_map}
use Rattle.mz_tree.specs.Items.{item}
use Rattle.mz_scope_order.specs.Parts.{output_in}
use Rattle.mz_scope_order.specs.Scoped.{lent_tree}
use Rattle.mz_scope_order.proofs.items.add_outputs.Given as goal

abbrev pub invariant-loop-item : goal.invariant-loop-item
invariant-loop-item l = map lent_tree l.fn.out.items ++ flat_map (λ i. output_in (item i)) l.items ≡ map lent_tree l.out.items ++ flat_map (λ i. output_in (item i)) (drop l.item-index l.items)
