use Rattle.std.proofs.Common.{◌≡◌, map, length, option_map, Some}
use Rattle.mz_interval.specs.Interval.{ends}
use Rattle.mz_operations.specs.Bounds.{nothing}
use Rattle.fz_program.specs.Arguments.{plains}
use Rattle.fz_program.specs.Flat.{variable}
use Rattle.fz_build.specs.Bounds.{sum_ends}
use Rattle.fz_build.proofs.integers.sum.Given as goal

abbrev pub invariant-loop-cs_left : goal.invariant-loop-cs_left
invariant-loop-cs_left l = sum_ends (map variable l.vars) (option_map ends l.acc) (plains l.cs_left) (plains l.xs_left) ≡ sum_ends (map variable l.vars) (Some nothing) (plains l.cs) (plains l.xs)

abbrev pub decreases-loop-cs_left : goal.decreases-loop-cs_left
decreases-loop-cs_left l = length l.cs_left
