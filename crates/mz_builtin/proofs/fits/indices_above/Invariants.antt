use Rattle.std.proofs.Common.{◌≡◌, ◌++◌, drop}
use Rattle.mz_builtin.specs.StepsFits.{indices_above}
use Rattle.mz_builtin.proofs.fits.indices_above.Given as goal

abbrev pub invariant-loop-i : goal.invariant-loop-i
invariant-loop-i l = indices_above l.indices l.d ≡ l.all.items ++ indices_above (drop l.i-index l.indices) l.d
