-- Mirror of src/lines.rt; private clauses only.
use Rattle.std.specs.Prelude.{◌≡◌, ℕ, List, Some, slice_get}
use Rattle.mz_arena.specs.Values.{Term}
use Rattle.mz_symbol.specs.declared.types.Symbol.{Symbol}
use Rattle.mz_symbol.specs.declared.types.Line.{Line}
use Rattle.mz_symbol.specs.Symbols.{AreWhole}
use Rattle.mz_symbol.specs.Runs.{Run, ReadsNodes}

-- the node that is 1 where an array is defined, and its elements
pub record HasItems (s : Run) (k d : ℕ) (ss : List Symbol) : Type 0 where
  pub line : Line
  pub stands : slice_get s.lines k ≡ Some line
  pub defined : line.defined ≡ d
  pub items : line.items.items ≡ ss
  pub whole : (t : ℕ → Term) → ReadsNodes t s.arena → AreWhole t d ss
