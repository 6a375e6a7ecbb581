-- Mirror of src/; private clauses only.
use Rattle.std.specs.Prelude.{◌≡◌}
use Rattle.mz_meaning.specs.Comprehensions as comps
use Rattle.mz_symbol.specs.Runs.{Run}
use Rattle.mz_symbol.specs.Readings.{Reading, Reads, state_of}
use Rattle.mz_eval_comprehensions.specs.declared.types.Turn.{Turn}
use Rattle.mz_eval_comprehensions.specs.Views.{turn_in}

-- an element that is this; nothing but nodes was made
pub record IsTurn (old new : Run) (f : Reading → comps.Element) (x : Turn) : Type 0 where
  pub same : (r : Reading) → Reads r new → state_of r old ≡ state_of r new
  pub is : (r : Reading) → Reads r new → turn_in r x ≡ f r
