-- Elements beside the nodes of their indices.
use Rattle.std.specs.Prelude.{◌≡◌, ℕ, ◌+◌, ℤ, Bool, ◌&&◌, List, length, map, ◌++◌, Option, Some}
use Rattle.mz_globals.specs.Lists.{numbered}
use Rattle.mz_symbol.specs.Runs.{Run}
use Rattle.mz_symbol.specs.Readings.{Reading, Reads, state_of}
use Rattle.mz_symbol.specs.Makes.{GoesOnBy}
use Rattle.mz_value.specs.Ranges.{Range}
use Rattle.glob_nodes.specs.declared.nodes.Compare.TheVariants.{AtMost}
use Rattle.glob_nodes.specs.Says.{num, compares}

-- between the ends of a range
abbrev pub lies_within : Range → Option ℤ → Bool
lies_within x o = compares AtMost (Some x.0) o && compares AtMost o (Some x.1)

-- an index that may be undefined, and an element
abbrev pub Place : Type 0
Place = Option ℤ × ℕ

abbrev pub indexed : Reading → ℕ × ℕ → Place
indexed r p = (num r p.0, p.1)

abbrev pub known : ℤ × ℕ → Place
known p = (Some p.0, p.1)

-- EACH ELEMENT BESIDE A NODE OF ITS INDEX: under each reading of the new run the nodes are the indices, and nothing but nodes was made
pub record AreNumbered (old new : Run) (first : ℤ) (items : List ℕ) (ps : List (ℕ × ℕ)) : Type 0 where
  pub same : (r : Reading) → Reads r new → state_of r old ≡ state_of r new
  pub count : length ps ≡ length items
  pub are : (r : Reading) → Reads r new → map (indexed r) ps ≡ map known (numbered first items)

-- the same so far, with what is left from an index on
pub record AreNumberedSoFar (old new : Run) (first index : ℤ) (all rest : List ℕ) (ps : List (ℕ × ℕ)) : Type 0 where
  pub goes : GoesOnBy 0 old new
  pub same : (r : Reading) → Reads r new → state_of r old ≡ state_of r new
  pub count : length ps + length rest ≡ length all
  pub are : (r : Reading) → Reads r new → map (indexed r) ps ++ map known (numbered index rest) ≡ map known (numbered first all)
