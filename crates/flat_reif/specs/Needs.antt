-- Sets of ids.
use Rattle.std.specs.Prelude.{◌≡◌, ℕ, nat_eq, List, Bool, false, ◌||◌, slice_index_or}

-- the id is in the set of those whose marks are set
abbrev pub is_needed : List Bool → ℕ → Bool
is_needed marks k = slice_index_or marks k false

-- the old ids, and one more
abbrev pub HasAlso : List Bool → List Bool → ℕ → Type 0
HasAlso old new id = (k : ℕ) → is_needed new k ≡ (nat_eq k id || is_needed old k)
