use Rattle.std.proofs.Common.{◌≡◌, ◌++◌, drop}
use Rattle.mz_builtin.specs.Readings.{cases}
use Rattle.mz_builtin.proofs.readings.add_cases.Given as goal

abbrev pub invariant-loop-e : goal.invariant-loop-e
invariant-loop-e l = l.fn.all.items ++ cases l.opt l.enums ≡ l.all.items ++ cases l.opt (drop l.e-index l.enums)
