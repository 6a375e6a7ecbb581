use Rattle.std.proofs.Common.{◌≡◌, ◌++◌, drop}
use Rattle.std.specs.List.{flat_map}
use Rattle.mz_tree.specs.Items.{item}
use Rattle.mz_scope_names.specs.Occurrences.{in_item}
use Rattle.mz_scope_names.proofs.items.in_files.Given as goal

abbrev pub invariant-loop-file : goal.invariant-loop-file
invariant-loop-file l = l.fn.out.items ++ flat_map (λ x. flat_map (λ i. in_item (item i)) x.items.items) l.files ≡ l.out.items ++ flat_map (λ x. flat_map (λ i. in_item (item i)) x.items.items) (drop l.file-index l.files)
