use Rattle.std.proofs.Common.{◌≡◌, ◌++◌, drop}
use Rattle.std.specs.List.{flat_map}
use Rattle.mz_tree.specs.Items.{item}
use Rattle.mz_scope.specs.Tests.{solve_in}
use Rattle.mz_scope.proofs.solves.add_solves.Given as goal

abbrev pub invariant-loop-item : goal.invariant-loop-item
invariant-loop-item l = l.fn.out.items ++ flat_map (λ x. solve_in (item x)) l.items ≡ l.out.items ++ flat_map (λ x. solve_in (item x)) (drop l.item-index l.items)
