-- The elements of the var arrays of a run.
use Rattle.std.specs.Prelude.{◌≡◌, ℕ, List, Bool, true, false, Option, Some, None, slice_get}
use Rattle.std.specs.Option.{option_and_then}
use Rattle.mz_arena.specs.Values.{is_true}
use Rattle.mz_symbol.specs.declared.types.Symbol.{Symbol}
use Rattle.mz_symbol.specs.declared.types.Line.{Line}
use Rattle.mz_symbol.specs.declared.types.Lists.{Lists}
use Rattle.mz_symbol.specs.Symbols.{symbol_value, AreLists}
use Rattle.mz_symbol.specs.Runs.{Run}
use Rattle.mz_symbol.specs.Readings.{Reading, Reads}

-- an element by the array's number and its place, from 0
abbrev pub element_in : List Line → ℕ → ℕ → Option Symbol
element_in ls k i = option_and_then (λ l. slice_get l.items.items i) (slice_get ls k)

abbrev pub only_if : {A : Type 0} → Bool → Option A → Option A
only_if true x = x
only_if false x = None

-- AN ELEMENT OF AN ARRAY: where the array is defined, its value is the element's
pub record IsElement (s : Run) (k i : ℕ) (y : Symbol) : Type 0 where
  pub line : Line
  pub stands : slice_get s.lines k ≡ Some line
  pub place : slice_get line.items.items i ≡ Some y
  pub value : (r : Reading) → Reads r s → only_if (is_true (r.term line.defined)) (symbol_value r.term y) ≡ option_and_then (λ xs. slice_get xs i) (r.line k)

-- THE CONS LISTS OF AN ARRAY'S ELEMENTS
pub record HasLists (s : Run) (k : ℕ) (ls : Lists) : Type 0 where
  pub line : Line
  pub stands : slice_get s.lines k ≡ Some line
  pub lists : (r : Reading) → Reads r s → AreLists r.term line.items.items ls
