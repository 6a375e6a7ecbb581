use Rattle.std.proofs.Common.{◌≡◌, ◌++◌, drop, map}
use Rattle.mz_core.specs.Types.{plain_type}
use Rattle.mz_builtin.specs.Readings.{array_types}
use Rattle.mz_builtin.proofs.params.array_types.Given as goal

abbrev pub invariant-loop-n : goal.invariant-loop-n
invariant-loop-n l = array_types l.m l.var l.o l.indices l.ranks ≡ map plain_type l.all.items ++ array_types l.m l.var l.o l.indices (drop l.n-index l.ranks)
