use Rattle.std.proofs.Common.{◌≡◌, ◌++◌, drop, map}
use Rattle.std.specs.List.{flat_map}
use Rattle.mz_tree.specs.Items.{item}
use Rattle.mz_scope_order.specs.Parts.{function_in}
use Rattle.mz_scope_order.specs.Scoped.{lent_function}
use Rattle.mz_scope_order.proofs.items.functions_of.Given as goal

abbrev pub invariant-loop-file : goal.invariant-loop-file
invariant-loop-file l = map lent_function l.out.items ++ flat_map (λ f. flat_map (λ i. function_in (item i)) f.items.items) (drop l.file-index l.files) ≡ flat_map (λ f. flat_map (λ i. function_in (item i)) f.items.items) l.files
