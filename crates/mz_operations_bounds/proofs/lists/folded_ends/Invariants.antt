use Rattle.std.proofs.Common.{◌≡◌, drop}
use Rattle.mz_operations.specs.Bounds.{folded_ends, fold_start_ends}
use Rattle.mz_operations_bounds.proofs.lists.folded_ends.Given as goal

abbrev pub invariant-loop-e : goal.invariant-loop-e
invariant-loop-e l = folded_ends l.op l.acc (drop l.e-index l.all) ≡ folded_ends l.op (fold_start_ends l.op) l.all
