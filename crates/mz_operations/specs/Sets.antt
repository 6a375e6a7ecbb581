-- Sets of integers as functions of sets, by their ranges: each is a canonical list of ranges where its operands are.
use Rattle.std.specs.Prelude.{◌≡◌, refl, ◌-◌, ◌++◌, ◌+ℤ◌, ◌-ℤ◌, ℤ, pos, negsuc, List, [], ◌∷◌, Bool, true, false, ◌&&◌, Option, Some, None, int_le, length, nat_eq, option_map, slice_get, if◌then◌else◌}
use Rattle.std.specs.Int.{int_max, int_min}
use Rattle.std.specs.List.{flat_map, list_any}
use Rattle.std.specs.Ordering.{int_eq}
use Rattle.mz_value.specs.Ranges.{Range, range_of, least, greatest}
use Rattle.mz_interval.specs.Ends.{is_number}
use Rattle.mz_operations.specs.declared.row.SetOp.{SetOp}
use Rattle.mz_operations.specs.declared.row.SetOp.TheVariants.{Union, Intersect, Diff, Symdiff}
use Rattle.mz_operations.specs.declared.row.Side.{Side}
use Rattle.mz_operations.specs.declared.row.Side.TheVariants.{Least, Greatest}

-- what two ranges have in common
abbrev pub overlap : Range → Range → List Range
overlap r s = range_of (int_max r.0 s.0) (int_min r.1 s.1)

-- what both a and b have: what each range of a has in common with each of b
unfoldable pub intersection : List Range → List Range → List Range
intersection a b = flat_map (λ r. flat_map (overlap r) b) a

-- the integers of the limit from lo on that no range has
unfoldable pub missing_from : ℤ → List Range → List Range
missing_from lo [] = range_of lo greatest
missing_from lo (r ∷ rs) = range_of lo (r.0 -ℤ pos 1) ++ missing_from (r.1 +ℤ pos 1) rs

-- the integers of the limit that a hasn't
unfoldable pub complement : List Range → List Range
complement a = missing_from least a

-- what a or b has: what isn't missing from both
unfoldable pub union : List Range → List Range → List Range
union a b = complement (intersection (complement a) (complement b))

-- what a has and b hasn't
unfoldable pub difference : List Range → List Range → List Range
difference a b = intersection a (complement b)

unfoldable pub combined : SetOp → List Range → List Range → List Range
combined Union a b = union a b
combined Intersect a b = intersection a b
combined Diff a b = difference a b
combined Symdiff a b = union (difference a b) (difference b a)

-- x lies between the ends of a range
abbrev pub is_within : Range → ℤ → Bool
is_within r x = int_le r.0 x && int_le x r.1

-- x is an element
unfoldable pub contains : List Range → ℤ → Bool
contains s x = list_any (λ r. is_within r x) s

abbrev pub is_empty_set : List Range → Bool
is_empty_set s = nat_eq (length s) 0

-- b has what a has
abbrev pub is_subset : List Range → List Range → Bool
is_subset a b = is_empty_set (difference a b)

-- the same ranges: a set has one canonical list of them
unfoldable pub same_set : List Range → List Range → Bool
same_set [] [] = true
same_set (r ∷ rs) (s ∷ ss) = int_eq r.0 s.0 && int_eq r.1 s.1 && same_set rs ss
same_set [] (s ∷ ss) = false
same_set (r ∷ rs) [] = false

-- the least or the greatest element, none of the empty set
unfoldable pub end_of : Side → List Range → Option ℤ
end_of Least s = option_map (λ r. r.0) (slice_get s 0)
end_of Greatest s = option_map (λ r. r.1) (slice_get s (length s - 1))

-- the integers from lo to hi, none where lo is greater; integers outside the limit are no values
unfoldable pub up_to : ℤ → ℤ → Option (List Range)
up_to lo hi = if is_number lo && is_number hi then Some (range_of lo hi) else None

-- ---- worked examples

joins_what_touches : union ((pos 1, pos 2) ∷ (pos 6, pos 6) ∷ []) ((pos 3, pos 4) ∷ []) ≡ (pos 1, pos 4) ∷ (pos 6, pos 6) ∷ []
unfolding union complement missing_from intersection
joins_what_touches = refl

-- 1 and 3 don't touch
keeps_a_gap : union ((pos 1, pos 1) ∷ []) ((pos 3, pos 3) ∷ []) ≡ (pos 1, pos 1) ∷ (pos 3, pos 3) ∷ []
unfolding union complement missing_from intersection
keeps_a_gap = refl

what_both_have : intersection ((pos 1, pos 3) ∷ []) ((pos 2, pos 9) ∷ []) ≡ (pos 2, pos 3) ∷ []
unfolding intersection
what_both_have = refl

a_hole : difference ((pos 1, pos 5) ∷ []) ((pos 2, pos 2) ∷ []) ≡ (pos 1, pos 1) ∷ (pos 3, pos 5) ∷ []
unfolding difference intersection complement missing_from
a_hole = refl

what_one_alone_has : combined Symdiff ((pos 1, pos 3) ∷ []) ((pos 3, pos 5) ∷ []) ≡ (pos 1, pos 2) ∷ (pos 4, pos 5) ∷ []
unfolding combined union difference intersection complement missing_from
what_one_alone_has = refl

an_end_is_inside : contains ((negsuc 2, pos 0) ∷ (pos 5, pos 7) ∷ []) (pos 7) ≡ true
unfolding contains
an_end_is_inside = refl

a_gap_is_outside : contains ((negsuc 2, pos 0) ∷ (pos 5, pos 7) ∷ []) (pos 1) ≡ false
unfolding contains
a_gap_is_outside = refl

greatest_of_two_ranges : end_of Greatest ((negsuc 2, pos 0) ∷ (pos 5, pos 7) ∷ []) ≡ Some (pos 7)
unfolding end_of
greatest_of_two_ranges = refl

no_greatest : end_of Greatest [] ≡ None
unfolding end_of
no_greatest = refl

empty_set_is_a_subset : is_subset [] ((pos 1, pos 1) ∷ []) ≡ true
unfolding difference intersection complement missing_from
empty_set_is_a_subset = refl
