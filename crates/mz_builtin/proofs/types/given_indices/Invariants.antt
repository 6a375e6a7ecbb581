use Rattle.std.proofs.Common.{◌≡◌, ◌++◌, drop, map}
use Rattle.mz_core.specs.Types.{plain_type}
use Rattle.mz_builtin.specs.Readings.{given_indices}
use Rattle.mz_builtin.proofs.types.given_indices.Given as goal

abbrev pub invariant-loop-t : goal.invariant-loop-t
invariant-loop-t l = given_indices (map plain_type l.params) ≡ l.all.items ++ given_indices (map plain_type (drop l.t-index l.params))
