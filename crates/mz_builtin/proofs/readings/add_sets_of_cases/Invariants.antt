use Rattle.std.proofs.Common.{◌≡◌, ◌++◌, drop}
use Rattle.mz_builtin.specs.Readings.{sets_of_cases}
use Rattle.mz_builtin.proofs.readings.add_sets_of_cases.Given as goal

abbrev pub invariant-loop-e : goal.invariant-loop-e
invariant-loop-e l = l.fn.all.items ++ sets_of_cases l.enums ≡ l.all.items ++ sets_of_cases (drop l.e-index l.enums)
