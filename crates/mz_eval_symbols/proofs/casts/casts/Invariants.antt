use Rattle.std.proofs.Common.{◌≡◌, ◌*◌, length}
use Rattle.mz_symbol.specs.Readings.{Reading, Reads}
use Rattle.mz_symbol.specs.Makes.{GoesOnBy}
use Rattle.mz_eval_symbols.specs.Steps.{AreCasts}
use Rattle.mz_eval_symbols.proofs.casts.casts.Given as goal

abbrev pub invariant-loop-i : goal.invariant-loop-i
invariant-loop-i l = GoesOnBy (4 * l.i) l.fn.run l.run × (((r : Reading) → Reads r l.run → AreCasts r l.fn.run l.run l.b l.items l.i l.all.items) × (length l.all.items ≡ l.i))
