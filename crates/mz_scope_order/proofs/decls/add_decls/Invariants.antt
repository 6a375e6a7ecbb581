use Rattle.std.proofs.Common.{◌≡◌, ◌++◌, drop, map}
use Rattle.std.specs.List.{flat_map}
use Rattle.mz_tree.specs.Items.{item}
use Rattle.mz_scope_order.specs.Scoped.{scoped_decl}
use Rattle.mz_scope_order.specs.StepsParts.{filled_in}
use Rattle.mz_scope_order.specs.StepsTables.{value_found}
use Rattle.mz_scope_order.proofs.decls.add_decls.Given as goal

abbrev pub invariant-loop-item : goal.invariant-loop-item
invariant-loop-item l = map scoped_decl l.fn.out.items ++ flat_map (λ i. filled_in (value_found l.table) (item i)) l.items ≡ map scoped_decl l.out.items ++ flat_map (λ i. filled_in (value_found l.table) (item i)) (drop l.item-index l.items)
