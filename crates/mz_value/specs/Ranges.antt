-- Finite sets of integers, as lists of ranges.
use Rattle.std.specs.Prelude.{◌≡◌, refl, ℕ, suc, ◌+◌, ℤ, pos, negsuc, nat_abs, List, [], ◌∷◌, ◌⊎◌, ◌↔◌, ◌≤ℤ◌, ◌<ℤ◌, ◌+ℤ◌, ◌-ℤ◌, if◌then◌else◌, int_le, Contains}
use Rattle.mz_value.specs.declared.range_set.TheConstants.{LEAST, GREATEST}

-- a least and a greatest element, both inclusive
abbrev pub Range : Type 0
Range = ℤ × ℤ

-- some integer above a range lies below all ranges after it
abbrev pub IsApart : Range → List Range → Type 0
IsApart r [] = Unit {0}
IsApart r (s ∷ ss) = (r.1 +ℤ pos 1) <ℤ s.0

-- no range is empty, and they ascend and don't touch: a set has one list of this form
abbrev pub AreCanonical : List Range → Type 0
AreCanonical [] = Unit {0}
AreCanonical (r ∷ rs) = (r.0 ≤ℤ r.1) × IsApart r rs × AreCanonical rs

-- an integer lies in a range
abbrev pub IsIn : Range → ℤ → Type 0
IsIn r x = (r.0 ≤ℤ x) × (x ≤ℤ r.1)

-- an integer lies in one of the ranges
abbrev pub Has : List Range → ℤ → Type 0
Has [] x = ⊥
Has (r ∷ rs) x = IsIn r x ⊎ Has rs x

-- the integers that a model may speak of
abbrev pub least : ℤ
least = LEAST

abbrev pub greatest : ℤ
greatest = GREATEST

abbrev pub IsInLimit : ℤ → Type 0
IsInLimit x = (least ≤ℤ x) × (x ≤ℤ greatest)

abbrev pub AreInLimit : List Range → Type 0
AreInLimit [] = Unit {0}
AreInLimit (r ∷ rs) = IsInLimit r.0 × IsInLimit r.1 × AreInLimit rs

-- the integers from lo to hi, none where hi is below lo
abbrev pub range_of : ℤ → ℤ → List Range
range_of lo hi = if int_le lo hi then (lo, hi) ∷ [] else []

-- how many integers lie in a range, and in all ranges
abbrev pub size : Range → ℕ
size r = suc (nat_abs (r.1 -ℤ r.0))

abbrev pub cardinality : List Range → ℕ
cardinality [] = 0
cardinality (r ∷ rs) = size r + cardinality rs

-- a set has these integers, and no others
abbrev pub IsSetOf : List ℤ → List Range → Type 0
IsSetOf items s = (x : ℤ) → Has s x ↔ Contains items x

-- a set has what a or b has, and nothing else
abbrev pub IsUnion : List Range → List Range → List Range → Type 0
IsUnion a b s = (x : ℤ) → Has s x ↔ (Has a x ⊎ Has b x)

-- a set has what both a and b have, and nothing else
abbrev pub IsIntersection : List Range → List Range → List Range → Type 0
IsIntersection a b s = (x : ℤ) → Has s x ↔ (Has a x × Has b x)

-- a set has what a has and b hasn't, and nothing else
abbrev pub IsDifference : List Range → List Range → List Range → Type 0
IsDifference a b s = (x : ℤ) → Has s x ↔ (Has a x × ¬ Has b x)

-- canonical lists with the same members are the same list
abbrev pub AreDetermined : Type 0
AreDetermined = (a b : List Range) → AreCanonical a → AreCanonical b → ((x : ℤ) → Has a x ↔ Has b x) → a ≡ b

-- worked examples

empty_range : range_of (pos 3) (pos 1) ≡ []
empty_range = refl

one_integer : range_of (pos 3) (pos 3) ≡ (pos 3, pos 3) ∷ []
one_integer = refl

across_zero : cardinality ((negsuc 1, pos 3) ∷ []) ≡ 6
across_zero = refl

three_integers : cardinality ((pos 1, pos 2) ∷ (pos 5, pos 5) ∷ []) ≡ 3
three_integers = refl
