-- Mirror of src/alone.rt and src/reached.rt; private clauses only.
use Rattle.std.specs.Prelude.{◌≡◌, ◌⊎◌, ℕ, ℤ, pos, ◌+ℤ◌, ◌-ℤ◌, int_le, Bool, true, false, ◌&&◌, List, Option, Some, None}
use Rattle.mz_index.specs.Places.{Range, count_of}
use Rattle.mz_operations.specs.declared.row.Side.TheVariants.{Least, Greatest}
use Rattle.mz_arena.specs.Values.{Term, as_number, extreme_term}
use Rattle.mz_symbol.specs.declared.types.Symbol.{Symbol}
use Rattle.mz_symbol.specs.Runs.{Run}
use Rattle.mz_symbol.specs.Readings.{Reading, state_of}
use Rattle.mz_symbol_access.specs.StepsPlace.{whole, list_of_two, step_of, shift_term, placed, place_term, places_of}

abbrev pub last_before : Range → ℤ
last_before r = r.0 -ℤ pos 1

abbrev pub first_after : Range → ℤ
first_after r = r.1 +ℤ pos 1

-- an index, or the number before the range where it lies before that
abbrev pub before_term : Range → Term → Term
before_term r x = extreme_term Greatest (list_of_two x (whole (last_before r)))

-- an index, or the number after the range where it lies after that
abbrev pub after_term : Range → Term → Term
after_term r x = extreme_term Least (list_of_two x (whole (first_after r)))

-- an index counted from the lower end as 1, as it is or brought next to the range on one side, or so counted already
abbrev pub IsCounted : Range → Term → Term → Type 0
IsCounted range x z = (z ≡ shift_term range true x) ⊎ ((z ≡ shift_term range true (before_term range x)) ⊎ ((z ≡ shift_term range true (after_term range x)) ⊎ ((step_of range true ≡ pos 0) × (z ≡ x))))

pub record IsAlone (r : Reading) (old new : Run) (range : Range) (x id : ℕ) : Type 0 where
  pub same : state_of r old ≡ state_of r new
  pub is : IsCounted range (r.term x) (r.term id)

-- a place among so many
abbrev pub is_among : ℕ → ℤ → Bool
is_among n m = int_le (pos 1) m && int_le m (pos n)

-- no place among so many, or undefined
abbrev pub IsBeyond : ℕ → Option ℤ → Type 0
IsBeyond n None = Unit {0}
IsBeyond n (Some m) = is_among n m ≡ false

-- the place of indices, or one where no element is where they have none
abbrev pub IsReached : List Range → List (Option ℤ) → Term → Type 0
IsReached rs os z = (z ≡ place_term rs os) ⊎ ((placed rs os ≡ None) × IsBeyond (count_of rs) (as_number z))

pub record Reaches (r : Reading) (old new : Run) (ranges : List Range) (indices : List Symbol) (id : ℕ) : Type 0 where
  pub same : state_of r old ≡ state_of r new
  pub is : IsReached ranges (places_of r indices) (r.term id)
