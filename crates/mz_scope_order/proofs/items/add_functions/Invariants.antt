use Rattle.std.proofs.Common.{◌≡◌, ◌++◌, drop, map}
use Rattle.std.specs.List.{flat_map}
use Rattle.mz_tree.specs.Items.{item}
use Rattle.mz_scope_order.specs.Parts.{function_in}
use Rattle.mz_scope_order.specs.Scoped.{lent_function}
use Rattle.mz_scope_order.proofs.items.add_functions.Given as goal

abbrev pub invariant-loop-item : goal.invariant-loop-item
invariant-loop-item l = map lent_function l.fn.out.items ++ flat_map (λ i. function_in (item i)) l.items ≡ map lent_function l.out.items ++ flat_map (λ i. function_in (item i)) (drop l.item-index l.items)
