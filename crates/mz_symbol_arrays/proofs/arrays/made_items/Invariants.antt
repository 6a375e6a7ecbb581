use Rattle.std.proofs.Common.{◌≡◌, ◌*◌, length}
use Rattle.mz_symbol.specs.Readings.{Reading, Reads}
use Rattle.mz_symbol.specs.Makes.{GoesOnBy}
use Rattle.mz_symbol_arrays.specs.StepsArrays.{MakesItems}
use Rattle.mz_symbol_arrays.proofs.arrays.made_items.Given as goal

abbrev pub invariant-loop-i : goal.invariant-loop-i
invariant-loop-i l = GoesOnBy (34 * l.i) l.fn.run l.run × (((r : Reading) → Reads r l.run → MakesItems r l.fn.run l.run l.items l.made.all.items l.made.defined) × (length l.made.all.items ≡ l.i))
