use Rattle.std.proofs.Common.{◌*◌}
use Rattle.mz_symbol.specs.Readings.{Reading, Reads}
use Rattle.mz_symbol.specs.Makes.{GoesOnBy}
use Rattle.mz_symbol_arrays.specs.StepsLines.{Walks}
use Rattle.mz_symbol_arrays.proofs.lines.walk.walked.Given as goal

abbrev pub invariant-loop-i : goal.invariant-loop-i
invariant-loop-i l = GoesOnBy (58 * l.i) l.fn.run l.run × ((r : Reading) → Reads r l.run → Walks r l.fn.run l.run l.walk l.line l.i l.fn.first l.acc)
