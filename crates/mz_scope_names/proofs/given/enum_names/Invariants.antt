use Rattle.std.proofs.Common.{◌≡◌, ◌++◌, drop}
use Rattle.std.specs.List.{flat_map}
use Rattle.mz_tree.specs.Items.{item}
use Rattle.mz_scope_names.specs.Given.{enum_of}
use Rattle.mz_scope_names.proofs.given.enum_names.Given as goal

abbrev pub invariant-loop-file : goal.invariant-loop-file
invariant-loop-file l = flat_map (λ x. flat_map (λ i. enum_of (item i)) x.items.items) l.files ≡ l.out.items ++ flat_map (λ x. flat_map (λ i. enum_of (item i)) x.items.items) (drop l.file-index l.files)
