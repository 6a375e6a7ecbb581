use Rattle.std.proofs.Common.{◌≡◌, ◌*◌, length, take}
use Rattle.mz_symbol.specs.Readings.{Reading, Reads}
use Rattle.mz_symbol.specs.Makes.{GoesOnBy}
use Rattle.mz_symbol_rows.specs.RowValues.{argument}
use Rattle.mz_eval_arrays.specs.StepsLines.{AreSymbols}
use Rattle.mz_eval_arrays.proofs.symbols.symbols_of.Given as goal

abbrev pub invariant-loop-k : goal.invariant-loop-k
invariant-loop-k l =
    GoesOnBy (8 * l.k-index) l.fn.run l.run
    × (((r : Reading) → Reads r l.run → AreSymbols argument r l.fn.run l.run (take l.k-index l.all) l.made.items) × (length l.made.items ≡ l.k-index))
