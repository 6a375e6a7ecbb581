-- What the globals read of their arguments. Each reading is none where the argument is undefined.
use Rattle.std.specs.Prelude.{ℕ, ℤ, int_le, List, [], ◌∷◌, Bool, ◌&&◌, Option, Some, None}
use Rattle.mz_value.specs.Ranges.{Range, range_of, cardinality}
use Rattle.mz_value.specs.Contents.{Content}
use Rattle.mz_operations.specs.Views.{◌>>=◌, as_bool, as_int, as_set}
use Rattle.mz_operations.specs.Arguments.{Arguments, items_at, row_at, index_at}

-- an array of one dimension: its index range, and its elements
pub record Placed (A : Type 0) : Type 0 where
  pub indices : Range
  pub items : List A

-- integers in rows, one row after another
pub record Grid : Type 0 where
  pub rows : ℕ
  pub cells : List ℤ

abbrev pub is_index : Range → ℤ → Bool
is_index r i = int_le r.0 i && int_le i r.1

-- each element as it is of a kind
abbrev pub each : {A : Type 0} → (Content → Option A) → List Content → Option (List A)
each see [] = Some []
each see (x ∷ xs) = see x >>= λ a. each see xs >>= λ rest. Some (a ∷ rest)

-- the elements of the array of one dimension at a place
abbrev pub elements_at : {A : Type 0} → (Content → Option A) → Arguments → ℕ → Option (List A)
elements_at see args k = row_at args k >>= each see

abbrev pub ints_at : Arguments → ℕ → Option (List ℤ)
ints_at args k = elements_at as_int args k

abbrev pub sets_at : Arguments → ℕ → Option (List (List Range))
sets_at args k = elements_at as_set args k

-- how many numbers a range has
abbrev pub length_of : Range → ℕ
length_of r = cardinality (range_of r.0 r.1)

abbrev pub first_range : List Range → Option Range
first_range [] = None
first_range (r ∷ rs) = Some r

-- the first index range of the array at a place
abbrev pub indices_at : Arguments → ℕ → Option Range
indices_at args k = index_at args k >>= first_range

abbrev pub placed_at : {A : Type 0} → (Content → Option A) → Arguments → ℕ → Option (Placed A)
placed_at see args k = indices_at args k >>= λ r. elements_at see args k >>= λ xs. Some (record { indices = r; items = xs })

-- the array of two dimensions at a place
abbrev pub grid_at : Arguments → ℕ → Option Grid
grid_at args k = indices_at args k >>= λ r. items_at args k >>= λ xs. each as_int xs >>= λ ns. Some (record { rows = length_of r; cells = ns })
