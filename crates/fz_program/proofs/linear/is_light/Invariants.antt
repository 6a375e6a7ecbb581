use Rattle.std.proofs.Common.{◌≡◌, ◌≤◌, ◌+◌, map, length, nat_le}
use Rattle.fz_program.specs.Arguments.{plains}
use Rattle.fz_program.specs.Flat.{variable, weight, most}
use Rattle.fz_program.proofs.linear.is_light.Given as goal

abbrev pub invariant-loop-cs_left : goal.invariant-loop-cs_left
invariant-loop-cs_left l = record {
  within : l.sum ≤ most;
  rest : nat_le (l.sum + weight (map variable l.vars) (plains l.cs_left) (plains l.xs_left)) most ≡ nat_le (l.start + weight (map variable l.vars) (plains l.cs) (plains l.xs)) most;
}

abbrev pub decreases-loop-cs_left : goal.decreases-loop-cs_left
decreases-loop-cs_left l = length l.cs_left
