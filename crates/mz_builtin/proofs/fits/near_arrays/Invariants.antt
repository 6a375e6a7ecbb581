use Rattle.std.proofs.Common.{◌≡◌, ◌++◌, drop, map}
use Rattle.mz_core.specs.Types.{plain_type}
use Rattle.mz_builtin.specs.StepsFits.{near_arrays}
use Rattle.mz_builtin.proofs.fits.near_arrays.Given as goal

abbrev pub invariant-loop-n : goal.invariant-loop-n
invariant-loop-n l = near_arrays l.m l.var l.o l.indices l.dims l.ranks ≡ map plain_type l.all.items ++ near_arrays l.m l.var l.o l.indices l.dims (drop l.n-index l.ranks)
