use Rattle.std.proofs.Common.{◌≡◌, ◌++◌, drop}
use Rattle.std.specs.List.{flat_map}
use Rattle.mz_tree.specs.Items.{item}
use Rattle.mz_scope_order.specs.StepsTables.{name_assigned}
use Rattle.mz_scope_order.proofs.assigned.assigned_names.Given as goal

abbrev pub invariant-loop-file : goal.invariant-loop-file
invariant-loop-file l = l.out.items ++ flat_map (λ f. flat_map (λ i. name_assigned (item i)) f.items.items) (drop l.file-index l.files) ≡ flat_map (λ f. flat_map (λ i. name_assigned (item i)) f.items.items) l.files
