-- The values of variables and of arguments.
use Rattle.std.specs.Prelude.{ℕ, zero, suc, ℤ, pos, negsuc, ◌+ℤ◌, ◌*ℤ◌, List, [], ◌∷◌, map, Bool, Option, None, slice_get, slice_index_or}
use Rattle.std.specs.Ordering.{int_eq}
use Rattle.mz_value.specs.Ranges.{Range}

-- an integer, or a truth value as 0 or 1; or a set, as its canonical list of ranges
pub data Value : Type 0 where
  number : ℤ → Value
  set : List Range → Value

-- a value for each variable, in order
abbrev pub Values : Type 0
Values = List Value

-- what an argument stands for: a value, or one for each element of an array
pub data ArgumentValue : Type 0 where
  one : Value → ArgumentValue
  many : List Value → ArgumentValue

-- a value of another kind counts as 0 or as the empty set: no well-formed row asks for it
abbrev pub number_in : Value → ℤ
number_in (number n) = n
number_in (set s) = pos 0

abbrev pub set_in : Value → List Range
set_in (number n) = []
set_in (set s) = s

abbrev pub value_in : ArgumentValue → Value
value_in (one v) = v
value_in (many vs) = number (pos 0)

abbrev pub values_in : ArgumentValue → List Value
values_in (one v) = []
values_in (many vs) = vs

-- the argument at a place, from 0
abbrev pub value_at : List ArgumentValue → ℕ → Value
value_at xs k = value_in (slice_index_or xs k (many []))

abbrev pub values_at : List ArgumentValue → ℕ → List Value
values_at xs k = values_in (slice_index_or xs k (many []))

abbrev pub number_at : List ArgumentValue → ℕ → ℤ
number_at xs k = number_in (value_at xs k)

abbrev pub set_at : List ArgumentValue → ℕ → List Range
set_at xs k = set_in (value_at xs k)

abbrev pub numbers_at : List ArgumentValue → ℕ → List ℤ
numbers_at xs k = map number_in (values_at xs k)

abbrev pub sets_at : List ArgumentValue → ℕ → List (List Range)
sets_at xs k = map set_in (values_at xs k)

-- a truth value is true where it is 1
abbrev pub is_one : ℤ → Bool
is_one n = int_eq n (pos 1)

-- the element at a place, from 1
abbrev pub element_at : {A : Type 0} → List A → ℤ → Option A
element_at xs (pos zero) = None
element_at xs (pos (suc k)) = slice_get xs k
element_at xs (negsuc k) = None

-- the sum of the products of numbers at equal places
unfoldable pub linear : List ℤ → List ℤ → ℤ
linear (c ∷ cs) (x ∷ xs) = (c *ℤ x) +ℤ linear cs xs
linear _ _ = pos 0
