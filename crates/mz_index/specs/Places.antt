-- The places of an array's elements, from the ranges of its indices.
use Rattle.std.specs.Prelude.{ℕ, ℤ, pos, negsuc, neg_ℤ, ◌≡◌, ◌+◌, ◌*◌, ◌-◌, ◌^◌, ◌-ℤ◌, ◌≤ℤ◌, int_le, unsigned_abs, ◌&&◌, Bool, List, [], ◌∷◌, Option, Some, None, option_map, if◌then◌else◌}
use Rattle.std.proofs.Common.{refl}
use Rattle.mz_base.specs.declared.limit.TheConstants.{INTEGER_LIMIT}

-- a lower and an upper end, both inclusive
abbrev pub Range : Type 0
Range = ℤ × ℤ

-- both ends lie in the limit of integers
pub record IsInLimit (r : Range) : Type 0 where
  pub least : neg_ℤ INTEGER_LIMIT ≤ℤ r.0
  pub low : r.0 ≤ℤ INTEGER_LIMIT
  pub high : neg_ℤ INTEGER_LIMIT ≤ℤ r.1
  pub greatest : r.1 ≤ℤ INTEGER_LIMIT

-- how many numbers a range has: none where its upper end lies below its lower one
abbrev pub length_of : Range → ℕ
length_of r = if int_le r.0 r.1 then unsigned_abs (r.1 -ℤ r.0) + 1 else 0

-- how many places there are: the product of the lengths
abbrev pub count_of : List Range → ℕ
count_of [] = 1
count_of (r ∷ rs) = length_of r * count_of rs

-- the index lies in the range
abbrev pub is_inside : Range → ℤ → Bool
is_inside r i = int_le r.0 i && int_le i r.1

-- how many numbers of the range stand before the index
abbrev pub offset_of : Range → ℤ → ℕ
offset_of r i = unsigned_abs (i -ℤ r.0)

-- the place in row order, from 0, where each index lies in its range: the last index runs fastest
abbrev pub place_of : List Range → List ℤ → Option ℕ
place_of [] [] = Some 0
place_of [] (i ∷ is) = None
place_of (r ∷ rs) [] = None
place_of (r ∷ rs) (i ∷ is) = if is_inside r i then option_map (λ place. offset_of r i * count_of rs + place) (place_of rs is) else None

-- no array has as many elements
abbrev pub most : ℕ
most = 2 ^ 64 - 1

-- ---- worked examples

seven_numbers : length_of (negsuc 2, pos 3) ≡ 7
seven_numbers = refl

no_number : length_of (pos 1, pos 0) ≡ 0
no_number = refl

two_rows_of_three : count_of ((pos 0, pos 1) ∷ (pos 1, pos 3) ∷ []) ≡ 6
two_rows_of_three = refl

an_empty_range_leaves_none : count_of ((pos 1, pos 9) ∷ (pos 1, pos 0) ∷ []) ≡ 0
an_empty_range_leaves_none = refl

first_place : place_of ((pos 0, pos 1) ∷ (pos 1, pos 3) ∷ []) (pos 0 ∷ pos 1 ∷ []) ≡ Some 0
first_place = refl

next_in_the_row : place_of ((pos 0, pos 1) ∷ (pos 1, pos 3) ∷ []) (pos 0 ∷ pos 2 ∷ []) ≡ Some 1
next_in_the_row = refl

next_row : place_of ((pos 0, pos 1) ∷ (pos 1, pos 3) ∷ []) (pos 1 ∷ pos 1 ∷ []) ≡ Some 3
next_row = refl

last_place : place_of ((pos 0, pos 1) ∷ (pos 1, pos 3) ∷ []) (pos 1 ∷ pos 3 ∷ []) ≡ Some 5
last_place = refl

outside : place_of ((pos 0, pos 1) ∷ (pos 1, pos 3) ∷ []) (pos 1 ∷ pos 4 ∷ []) ≡ None
outside = refl

below_a_negative_end : place_of ((negsuc 2, pos 3) ∷ []) (negsuc 3 ∷ []) ≡ None
below_a_negative_end = refl

from_a_negative_end : place_of ((negsuc 2, pos 3) ∷ []) (pos 0 ∷ []) ≡ Some 3
from_a_negative_end = refl
