use Rattle.std.proofs.Common.{◌≡◌, ◌≤◌, map, drop}
use Rattle.mz_value.specs.Contents.{content}
use Rattle.mz_operations.specs.Numbers.{counted}
use Rattle.mz_operations.specs.Arrays.{fold_from, truth_or}
use Rattle.std.specs.Prelude.{false}
use Rattle.mz_builtin_values.proofs.fold.fold_count.Given as goal

abbrev pub invariant-loop-x : goal.invariant-loop-x
invariant-loop-x l = (l.acc ≤ l.x-index) × (fold_from (truth_or false) counted l.acc (map content (drop l.x-index l.items)) ≡ fold_from (truth_or false) counted 0 (map content l.items))
