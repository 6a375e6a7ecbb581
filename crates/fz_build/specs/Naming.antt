-- The names of introduced variables.
use Rattle.std.specs.Prelude.{◌≡◌, ℕ, ◌+◌, List, [], ◌∷◌, ◌++◌, Bool, true, false, codes, decimal}
use Rattle.fz_program.specs.Names.{Name}
use Rattle.fz_program.specs.Flat.{Variable}

-- of the k-th introduced variable, from 0
abbrev pub introduced_name : ℕ → Name
introduced_name k = codes "X_INTRODUCED_" ++ decimal k ++ codes "_"

-- an introduced variable has the n-th such name, and anything else has none of them
abbrev pub IsNamed : Bool → ℕ → Name → Type 0
IsNamed true n x = x ≡ introduced_name n
IsNamed false n x = (k : ℕ) → x ≡ introduced_name k → ⊥

-- the number of the next one
abbrev pub number_after : Bool → ℕ → ℕ
number_after true n = n + 1
number_after false n = n

-- introduced variables are numbered from n on, in the order in which they stand
abbrev pub AreNamed : ℕ → List Variable → Type 0
AreNamed n [] = Unit {0}
AreNamed n (v ∷ vs) = IsNamed v.introduced n v.label × AreNamed (number_after v.introduced n) vs

-- the number of the next one after these, where n is the number of the first of them
abbrev pub next_from : ℕ → List Variable → ℕ
next_from n [] = n
next_from n (v ∷ vs) = next_from (number_after v.introduced n) vs

-- the number of the next introduced variable: how many there are
abbrev pub next_number : List Variable → ℕ
next_number vs = next_from 0 vs
