use Rattle.std.proofs.Common.{◌≡◌, ◌++◌, ◌+◌, ◌-◌, ◌≤◌, length, drop}
use Rattle.mz_value.specs.StepsWalks as walks
use Rattle.mz_value.proofs.walks.common.Given as goal

abbrev pub invariant-loop-i : goal.invariant-loop-i
invariant-loop-i l = record {
  in_a : l.i ≤ length l.a;
  in_b : l.j ≤ length l.b;
  walk : l.all.items ++ walks.common (drop l.i l.a) (drop l.j l.b) ≡ walks.common l.a l.b;
}

abbrev pub decreases-loop-i : goal.decreases-loop-i
decreases-loop-i l = (length l.initial.a - l.i) + (length l.initial.b - l.j)
