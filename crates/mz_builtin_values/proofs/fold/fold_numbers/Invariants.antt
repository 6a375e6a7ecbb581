use Rattle.std.proofs.Common.{◌≡◌, map, drop}
use Rattle.mz_value.specs.Contents.{content}
use Rattle.mz_operations.specs.Numbers.{folded, fold_start}
use Rattle.mz_operations.specs.Arrays.{fold_from, summand}
use Rattle.mz_builtin_values.proofs.fold.fold_numbers.Given as goal

abbrev pub invariant-loop-x : goal.invariant-loop-x
invariant-loop-x l = fold_from (summand l.op) (folded l.op) l.acc (map content (drop l.x-index l.items)) ≡ fold_from (summand l.op) (folded l.op) (fold_start l.op) (map content l.items)
