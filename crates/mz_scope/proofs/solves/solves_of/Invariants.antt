use Rattle.std.proofs.Common.{◌≡◌, ◌++◌, drop}
use Rattle.std.specs.List.{flat_map}
use Rattle.mz_tree.specs.Items.{item}
use Rattle.mz_scope.specs.Tests.{solve_in}
use Rattle.mz_scope.proofs.solves.solves_of.Given as goal

abbrev pub invariant-loop-file : goal.invariant-loop-file
invariant-loop-file l = flat_map (λ x. flat_map (λ i. solve_in (item i)) x.items.items) l.files ≡ l.out.items ++ flat_map (λ x. flat_map (λ i. solve_in (item i)) x.items.items) (drop l.file-index l.files)
