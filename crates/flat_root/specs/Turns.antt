-- Which ids were met in which turn.
use Rattle.std.specs.Prelude.{◌≡◌, ℕ, ◌≤◌, ◌<◌, nat_eq, List, Bool, false, slice_index_or}

-- the last turn in which an id was met, 0 if in none
abbrev pub turn_of : List ℕ → ℕ → ℕ
turn_of marks k = slice_index_or marks k 0

abbrev pub met_in : ℕ → List ℕ → ℕ → Bool
met_in turn marks k = nat_eq (turn_of marks k) turn

-- an id is met in a turn
pub record IsMet (old new : List ℕ) (id turn : ℕ) : Type 0 where
  pub here : turn_of new id ≡ turn
  pub others : (k : ℕ) → nat_eq k id ≡ false → turn_of new k ≡ turn_of old k

-- no id was met after a turn
abbrev pub AreUpTo : List ℕ → ℕ → Type 0
AreUpTo marks turn = (k : ℕ) → turn_of marks k ≤ turn

-- no id was met in a turn or after it
abbrev pub AreBefore : List ℕ → ℕ → Type 0
AreBefore marks turn = (k : ℕ) → turn_of marks k < turn
