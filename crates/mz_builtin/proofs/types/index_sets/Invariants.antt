use Rattle.std.proofs.Common.{◌≡◌, ◌++◌, drop, map}
use Rattle.mz_core.specs.Types.{plain_type}
use Rattle.mz_builtin.specs.Readings.{index_sets}
use Rattle.mz_builtin.proofs.types.index_sets.Given as goal

abbrev pub invariant-loop-e : goal.invariant-loop-e
invariant-loop-e l = index_sets l.enums ≡ map plain_type l.all.items ++ index_sets (drop l.e-index l.enums)
