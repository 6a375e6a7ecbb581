use Rattle.std.proofs.Common.{◌≡◌, map, drop}
use Rattle.mz_value.specs.Contents.{content}
use Rattle.mz_operations.specs.Views.{as_bool}
use Rattle.mz_operations.specs.Numbers.{quantified}
use Rattle.mz_operations.specs.Arrays.{fold_from}
use Rattle.mz_builtin_values.proofs.fold.fold_truths.Given as goal

abbrev pub invariant-loop-x : goal.invariant-loop-x
invariant-loop-x l = fold_from as_bool (quantified l.op) l.acc (map content (drop l.x-index l.items)) ≡ fold_from as_bool (quantified l.op) l.start (map content l.items)
