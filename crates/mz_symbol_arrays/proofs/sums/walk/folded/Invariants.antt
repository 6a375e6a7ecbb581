use Rattle.std.proofs.Common.{◌*◌}
use Rattle.mz_symbol.specs.Readings.{Reading, Reads}
use Rattle.mz_symbol.specs.Makes.{GoesOnBy}
use Rattle.mz_symbol_arrays.specs.StepsSums.{Folds}
use Rattle.mz_symbol_arrays.proofs.sums.walk.folded.Given as goal

abbrev pub invariant-loop-i : goal.invariant-loop-i
invariant-loop-i l = GoesOnBy (40 * l.i) l.fn.run l.run × ((r : Reading) → Reads r l.run → Folds r l.fn.run l.run l.op l.line l.i l.fn.first l.acc)
