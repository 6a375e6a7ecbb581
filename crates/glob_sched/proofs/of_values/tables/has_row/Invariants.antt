use Rattle.std.proofs.Common.{◌≡◌}
use Rattle.mz_globals.specs.Graphs.{has_row}
use Rattle.glob_sched.proofs.of_values.tables.has_row.Given as goal

abbrev pub invariant-loop-left : goal.invariant-loop-left
invariant-loop-left l = has_row l.left l.xs l.rest ≡ has_row l.rows l.xs l.cells

abbrev pub decreases-loop-left : goal.decreases-loop-left
decreases-loop-left l = l.left
