use Rattle.std.proofs.Common.{◌≡◌, ◌≤◌, ◌*◌, min, drop}
use Rattle.mz_operations.specs.Arrays.{place_count}
use Rattle.mz_builtin_values.specs.Shapes.{cap}
use Rattle.mz_builtin_values.proofs.index.place_total.Given as goal

abbrev pub invariant-loop-r : goal.invariant-loop-r
invariant-loop-r l = (l.total ≤ cap) × (min cap (l.total * place_count (drop l.r-index l.ranges)) ≡ min cap (place_count l.ranges))
