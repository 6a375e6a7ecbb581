-- Mirror of src/lines.rt; private clauses only.
use Rattle.std.specs.Prelude.{◌≡◌, ℕ, List}
use Rattle.mz_arena.specs.Values.{Term}
use Rattle.mz_symbol.specs.declared.types.Symbol.{Symbol}
use Rattle.mz_symbol.specs.Symbols.{AreWhole, elements_value}
use Rattle.mz_symbol.specs.Runs.{Run, ReadsNodes}
use Rattle.mz_symbol.specs.Readings.{Reading, Reads}

-- the elements of a var array, and the node that is 1 where it is defined
pub record HasItems (s : Run) (line defined : ℕ) (ss : List Symbol) : Type 0 where
  pub value : (r : Reading) → Reads r s → r.line line ≡ elements_value r.term defined ss
  pub whole : (t : ℕ → Term) → ReadsNodes t s.arena → AreWhole t defined ss
