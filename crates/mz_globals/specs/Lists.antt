-- Words over lists of which the globals are made.
use Rattle.std.specs.Prelude.{ℕ, zero, suc, ◌-◌, ℤ, pos, ◌+ℤ◌, List, [], ◌∷◌, length, take, drop, Bool, true, ◌&&◌, Option, Some, None}
use Rattle.std.specs.List.{list_all}
use Rattle.mz_operations.specs.declared.row.Side.{Side}
use Rattle.mz_operations.specs.Numbers.{toward}

-- of each two elements, the earlier one first
abbrev pub pairwise : {A : Type 0} → (A → A → Bool) → List A → Bool
pairwise test [] = true
pairwise test (x ∷ xs) = list_all (test x) xs && pairwise test xs

-- of each element and the one after it
abbrev pub stepwise_from : {A : Type 0} → (A → A → Bool) → A → List A → Bool
stepwise_from test x [] = true
stepwise_from test x (y ∷ ys) = test x y && stepwise_from test y ys

abbrev pub stepwise : {A : Type 0} → (A → A → Bool) → List A → Bool
stepwise test [] = true
stepwise test (x ∷ xs) = stepwise_from test x xs

-- what each element adds, summed
abbrev pub total : {A : Type 0} → (A → ℤ) → List A → ℤ
total part [] = pos 0
total part (x ∷ xs) = part x +ℤ total part xs

-- each element with its index, of which this is the first
abbrev pub numbered : {A : Type 0} → ℤ → List A → List (ℤ × A)
numbered i [] = []
numbered i (x ∷ xs) = (i, x) ∷ numbered (i +ℤ pos 1) xs

-- the least or the greatest, none of no number
abbrev pub extreme_from : Side → ℤ → List ℤ → ℤ
extreme_from side acc [] = acc
extreme_from side acc (x ∷ xs) = extreme_from side (toward side acc x) xs

abbrev pub extreme_of : Side → List ℤ → Option ℤ
extreme_of side [] = None
extreme_of side (x ∷ xs) = Some (extreme_from side x xs)

-- the lists of k consecutive elements that begin at the first n places
abbrev pub windows_from : {A : Type 0} → ℕ → ℕ → List A → List (List A)
windows_from zero k xs = []
windows_from (suc n) k xs = take k xs ∷ windows_from n k (drop 1 xs)

-- all lists of k consecutive elements: of none one more than there are elements
abbrev pub windows : {A : Type 0} → ℕ → List A → List (List A)
windows k xs = windows_from (suc (length xs) - k) k xs
