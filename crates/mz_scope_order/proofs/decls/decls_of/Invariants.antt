use Rattle.std.proofs.Common.{◌≡◌, ◌++◌, drop, map}
use Rattle.std.specs.List.{flat_map}
use Rattle.mz_tree.specs.Items.{item}
use Rattle.mz_scope_order.specs.Scoped.{scoped_decl}
use Rattle.mz_scope_order.specs.StepsParts.{filled_in}
use Rattle.mz_scope_order.specs.StepsTables.{value_found}
use Rattle.mz_scope_order.proofs.decls.decls_of.Given as goal

abbrev pub invariant-loop-file : goal.invariant-loop-file
invariant-loop-file l = map scoped_decl l.out.items ++ flat_map (λ f. flat_map (λ i. filled_in (value_found l.table) (item i)) f.items.items) (drop l.file-index l.files) ≡ flat_map (λ f. flat_map (λ i. filled_in (value_found l.table) (item i)) f.items.items) l.files
