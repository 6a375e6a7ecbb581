use Rattle.std.proofs.Common.{◌≡◌, length, map}
use Rattle.mz_value.specs.Contents.{content}
use Rattle.mz_symbol.specs.Readings.{Reading, Reads}
use Rattle.mz_symbol.specs.Makes.{GoesOn}
use Rattle.mz_eval_symbols.specs.Steps.{AreConstants, item_cast}
use Rattle.mz_eval_symbols.proofs.constants.constants.Given as goal

abbrev pub invariant-loop-i : goal.invariant-loop-i
invariant-loop-i l = GoesOn l.fn.run l.run × (((r : Reading) → Reads r l.run → AreConstants r l.fn.run l.run (map (item_cast l.cast) (map content l.items)) l.i l.all.items) × (length l.all.items ≡ l.i))
