use Rattle.std.proofs.Common.{◌≡◌, map, drop}
use Rattle.std.specs.Prelude.{None}
use Rattle.mz_value.specs.Contents.{content}
use Rattle.mz_operations.specs.Views.{as_set}
use Rattle.mz_operations.specs.Values.{common_so_far}
use Rattle.mz_operations.specs.Arrays.{fold_from}
use Rattle.mz_builtin_values.proofs.operations.intersection_of.Given as goal

abbrev pub invariant-loop-x : goal.invariant-loop-x
invariant-loop-x l = fold_from as_set common_so_far l.acc (map content (drop l.x-index l.items)) ≡ fold_from as_set common_so_far None (map content l.items)
