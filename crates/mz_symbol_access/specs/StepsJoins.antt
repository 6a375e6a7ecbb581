-- Mirror of src/joins.rt; private clauses only.
use Rattle.std.specs.Prelude.{◌≡◌, ℕ, List, ◌++◌, Some, Vec, slice_get}
use Rattle.std.specs.Global.{Global}
use Rattle.std.specs.Option.{option_map}
use Rattle.mz_symbol.specs.declared.types.Symbol.{Symbol}
use Rattle.mz_symbol.specs.Runs.{Run}

-- the elements of two arrays
pub record AreJoined (s : Run) (x y : ℕ) (v : Vec Symbol Global) : Type 0 where
  pub first : List Symbol
  pub second : List Symbol
  pub of_first : option_map (λ l. l.items.items) (slice_get s.lines x) ≡ Some first
  pub of_second : option_map (λ l. l.items.items) (slice_get s.lines y) ≡ Some second
  pub all : v.items ≡ first ++ second
