use Rattle.std.proofs.Common.{◌≡◌, ◌++◌, drop, map}
use Rattle.std.specs.List.{flat_map}
use Rattle.mz_tree.specs.Items.{item}
use Rattle.mz_scope_order.specs.Parts.{output_in}
use Rattle.mz_scope_order.specs.Scoped.{lent_tree}
use Rattle.mz_scope_order.proofs.items.outputs_of.Given as goal

abbrev pub invariant-loop-file : goal.invariant-loop-file
invariant-loop-file l = map lent_tree l.out.items ++ flat_map (λ f. flat_map (λ i. output_in (item i)) f.items.items) (drop l.file-index l.files) ≡ flat_map (λ f. flat_map (λ i. output_in (item i)) f.items.items) l.files
