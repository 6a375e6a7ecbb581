use Rattle.std.proofs.Common.{◌≡◌, ◌++◌, drop, map}
use Rattle.std.specs.List.{flat_map}
use Rattle.mz_tree.specs.Items.{item}
use Rattle.mz_scope_order.specs.Scoped.{enum_tree}
use Rattle.mz_scope_order.specs.StepsParts.{enum_by}
use Rattle.mz_scope_order.specs.StepsTables.{item_found}
use Rattle.mz_scope_order.proofs.enums.enums_of.Given as goal

abbrev pub invariant-loop-file : goal.invariant-loop-file
invariant-loop-file l = map enum_tree l.out.items ++ flat_map (λ f. flat_map (λ i. enum_by (item_found l.table) (item i)) f.items.items) (drop l.file-index l.files) ≡ flat_map (λ f. flat_map (λ i. enum_by (item_found l.table) (item i)) f.items.items) l.files
