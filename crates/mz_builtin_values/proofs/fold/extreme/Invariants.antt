use Rattle.std.proofs.Common.{◌≡◌, map, drop}
use Rattle.std.specs.Prelude.{None}
use Rattle.mz_value.specs.Contents.{content}
use Rattle.mz_operations.specs.Views.{as_int}
use Rattle.mz_operations.specs.Numbers.{nearer}
use Rattle.mz_operations.specs.Arrays.{fold_from}
use Rattle.mz_builtin_values.proofs.fold.extreme.Given as goal

abbrev pub invariant-loop-x : goal.invariant-loop-x
invariant-loop-x l = fold_from as_int (nearer l.side) l.acc (map content (drop l.x-index l.items)) ≡ fold_from as_int (nearer l.side) None (map content l.items)
