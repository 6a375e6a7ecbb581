use Rattle.std.proofs.Common.{◌≡◌, ◌++◌, drop, map}
use Rattle.mz_core.specs.Types.{plain_type}
use Rattle.mz_builtin.specs.Readings.{array_indices}
use Rattle.mz_builtin.proofs.types.array_indices.Given as goal

abbrev pub invariant-loop-t : goal.invariant-loop-t
invariant-loop-t l = array_indices (map plain_type l.params) ≡ l.all.items ++ array_indices (map plain_type (drop l.t-index l.params))
