-- Worked examples of bounds.
use Rattle.std.specs.Prelude.{◌≡◌, refl, ℕ, ℤ, pos, negsuc, List, [], ◌∷◌, true, false, Some, None}
use Rattle.mz_value.specs.Ranges.{Range}
use Rattle.mz_value.specs.Shown.{range_elements}
use Rattle.mz_value.specs.Contents.{bool, int, case, set, absent, array, contents}
use Rattle.mz_interval.specs.Ends.{Ends, least_number, greatest_number}
use Rattle.mz_operations.specs.declared.row.Comparison.TheVariants.{Less}
use Rattle.mz_operations.specs.declared.row.Arith.TheVariants.{Add, Sub, Mul, Div, Mod, Min}
use Rattle.mz_operations.specs.declared.row.Sign.TheVariants.{Minus, Abs}
use Rattle.mz_operations.specs.declared.row.Fold.TheVariants.{Sum, SumOfOptions, Product}
use Rattle.mz_operations.specs.declared.row.SetOp.TheVariants.{Union, Intersect, Diff, Symdiff}
use Rattle.mz_operations.specs.declared.row.Side.TheVariants.{Least, Greatest}
use Rattle.mz_operations.specs.declared.row.ScalarRow.TheVariants.{Order, Arith, Power, Fold, Extreme, Count, Ordinal, Card, Length, Beside}
use Rattle.mz_operations.specs.declared.row.MadeRow.TheVariants.{SetOf, IndexSet, Shaped, Concat, ArrayUnion, ArrayIntersect, Deopt}
use Rattle.mz_operations.specs.declared.row.BoundingRow.TheVariants.{Lb, Ub, Dom, LbArray, UbArray, IsFixed, Fix}
use Rattle.mz_operations.specs.declared.row.Row.TheVariants.{Scalar, Made, Bounding}
use Rattle.mz_operations.specs.Sets.{union, intersection, same_set, end_of, up_to, complement, missing_from}
use Rattle.mz_operations.specs.Numbers.{toward}
use Rattle.mz_operations.specs.Bounds.{Bound, number, sets, Bounds, one, many, bound_of, bounds_of, no_array, nothing, is_settled, toward_ends, arith_ends, sign_ends, extreme_from, fold_ends, folded_ends, raised_ends, union_from, index_tuples, is_reached, reached, access_ends, access_upper, branch_bound, branch_bounds, if_bounds, hull_of_set, combined_upper}
use Rattle.mz_operations.specs.RowBounds.{bounds_at, each, ends_at, upper_at, elements_at, all_ends_at, all_uppers_at, uppers_before, scalar_bounds, made_bounds, row_bounds, lower_of, upper_of, value_by_bounds}

abbrev from_to : ℕ → ℕ → Ends
from_to j k = (pos j, pos k)

-- a number between these
abbrev between : ℤ → ℤ → Bounds
between l h = one (number (l, h))

-- a set within these ranges
abbrev within : List Range → Bounds
within u = one (sets [] u)

-- an array of numbers between these, with the index set 1..n
abbrev numbers : ℕ → List Bound → Bounds
numbers n bs = many (from_to 1 n ∷ []) bs

abbrev b : ℤ → ℤ → Bound
b l h = number (l, h)

-- ---- par values

a_truth_value : bounds_of (bool true) ≡ between (pos 1) (pos 1)
unfolding bounds_of bound_of
a_truth_value = refl

a_case : bounds_of (case 0 (pos 3)) ≡ between (pos 3) (pos 3)
unfolding bounds_of bound_of
a_case = refl

absent_is_zero : bounds_of absent ≡ between (pos 0) (pos 0)
unfolding bounds_of bound_of
absent_is_zero = refl

a_set : bounds_of (set None (from_to 1 3 ∷ [])) ≡ one (sets (from_to 1 3 ∷ []) (from_to 1 3 ∷ []))
unfolding bounds_of bound_of
a_set = refl

an_array : bounds_of (array (from_to 0 1 ∷ []) (contents (int (negsuc 4) ∷ int (pos 2) ∷ []))) ≡ many (from_to 0 1 ∷ []) (b (negsuc 4) (negsuc 4) ∷ b (pos 2) (pos 2) ∷ [])
unfolding bounds_of bound_of
an_array = refl

an_undefined_array : no_array 2 ≡ many (from_to 1 0 ∷ from_to 1 0 ∷ []) []
an_undefined_array = refl

a_settled_set : is_settled (sets (from_to 1 3 ∷ []) (from_to 1 3 ∷ [])) ≡ true
unfolding is_settled same_set
a_settled_set = refl

an_open_set : is_settled (sets [] (from_to 1 3 ∷ [])) ≡ false
unfolding is_settled same_set
an_open_set = refl

-- ---- Booleans

a_comparison : row_bounds (Scalar (Order Less)) (between (pos 1) (pos 1) ∷ between (pos 5) (pos 5) ∷ []) ≡ Some (between (pos 0) (pos 1))
unfolding scalar_bounds
a_comparison = refl

bool2int_of_a_name : row_bounds (Scalar Ordinal) (between (pos 1) (pos 1) ∷ []) ≡ Some (between (pos 1) (pos 1))
unfolding scalar_bounds ends_at bounds_at
bool2int_of_a_name = refl

-- ---- arithmetic

a_sum_at_the_limit : row_bounds (Scalar (Arith Add)) (between least_number (pos 0) ∷ between (pos 0) greatest_number ∷ []) ≡ Some (between least_number greatest_number)
unfolding scalar_bounds ends_at bounds_at arith_ends
a_sum_at_the_limit = refl

a_sum_past_the_limit : arith_ends Add (pos 0, greatest_number) (pos 0, pos 1) ≡ (pos 0, pos 2305843009213693953)
unfolding arith_ends
a_sum_past_the_limit = refl

a_difference : arith_ends Sub (pos 1, pos 3) (negsuc 1, pos 5) ≡ (negsuc 3, pos 5)
unfolding arith_ends
a_difference = refl

a_product_of_both_signs : arith_ends Mul (negsuc 1, pos 3) (negsuc 3, pos 5) ≡ (negsuc 11, pos 15)
unfolding arith_ends
a_product_of_both_signs = refl

a_negative : sign_ends Minus (negsuc 1, pos 3) ≡ (negsuc 2, pos 2)
unfolding sign_ends
a_negative = refl

-- 1..9 by -2..3: 9 by 1 and by -1
a_quotient_around_zero : arith_ends Div (pos 1, pos 9) (negsuc 1, pos 3) ≡ (negsuc 8, pos 9)
unfolding arith_ends
a_quotient_around_zero = refl

-- 0 divides nothing: 1..3 are left, and 1 and 3 give the ends
a_quotient_from_zero : arith_ends Div (negsuc 6, pos 9) (pos 0, pos 3) ≡ (negsuc 6, pos 9)
unfolding arith_ends
a_quotient_from_zero = refl

a_quotient_by_two_to_three : arith_ends Div (negsuc 6, pos 9) (pos 2, pos 3) ≡ (negsuc 2, pos 4)
unfolding arith_ends
a_quotient_by_two_to_three = refl

a_quotient_by_zero : arith_ends Div (pos 4, pos 9) (pos 0, pos 0) ≡ nothing
unfolding arith_ends
a_quotient_by_zero = refl

-- m is 3: from the greater of -9 and -3 to the less of 5 and 3
a_remainder_around_zero : arith_ends Mod (negsuc 8, pos 5) (negsuc 3, pos 2) ≡ (negsuc 2, pos 3)
unfolding arith_ends
a_remainder_around_zero = refl

a_remainder_of_a_positive : arith_ends Mod (pos 1, pos 2) (pos 7, pos 7) ≡ (pos 0, pos 2)
unfolding arith_ends
a_remainder_of_a_positive = refl

a_remainder_of_a_negative : arith_ends Mod (negsuc 8, negsuc 0) (pos 4, pos 4) ≡ (negsuc 2, pos 0)
unfolding arith_ends
a_remainder_of_a_negative = refl

a_remainder_by_one : arith_ends Mod (negsuc 8, pos 9) (negsuc 0, pos 1) ≡ (pos 0, pos 0)
unfolding arith_ends
a_remainder_by_one = refl

a_remainder_by_zero : arith_ends Mod (pos 4, pos 9) (pos 0, pos 0) ≡ nothing
unfolding arith_ends
a_remainder_by_zero = refl

a_magnitude_of_both_signs : sign_ends Abs (negsuc 4, pos 3) ≡ (pos 0, pos 5)
unfolding sign_ends
a_magnitude_of_both_signs = refl

a_magnitude_of_negatives : sign_ends Abs (negsuc 4, negsuc 1) ≡ (pos 2, pos 5)
unfolding sign_ends
a_magnitude_of_negatives = refl

a_magnitude_at_the_limit : sign_ends Abs (least_number, pos 0) ≡ (pos 0, greatest_number)
unfolding sign_ends
a_magnitude_at_the_limit = refl

the_less_of_two : arith_ends Min (pos 1, pos 9) (pos 3, pos 4) ≡ (pos 1, pos 4)
unfolding arith_ends toward_ends toward
the_less_of_two = refl

the_greatest_of_three : row_bounds (Scalar (Extreme Greatest)) (numbers 3 (b (pos 1) (pos 9) ∷ b (pos 3) (pos 4) ∷ b (negsuc 4) (pos 8) ∷ []) ∷ []) ≡ Some (between (pos 3) (pos 9))
unfolding scalar_bounds all_ends_at elements_at bounds_at each extreme_from toward_ends toward
the_greatest_of_three = refl

the_least_of_none : row_bounds (Scalar (Extreme Least)) (numbers 0 [] ∷ []) ≡ Some (between (pos 0) (pos 0))
unfolding scalar_bounds all_ends_at elements_at bounds_at each
the_least_of_none = refl

-- ---- folds

a_sum_of_none : row_bounds (Scalar (Fold Sum)) (numbers 0 [] ∷ []) ≡ Some (between (pos 0) (pos 0))
unfolding scalar_bounds all_ends_at elements_at bounds_at each folded_ends
a_sum_of_none = refl

a_sum_of_two : row_bounds (Scalar (Fold Sum)) (numbers 2 (b (pos 2) (pos 3) ∷ b (pos 1) (pos 5) ∷ []) ∷ []) ≡ Some (between (pos 3) (pos 8))
unfolding scalar_bounds all_ends_at elements_at bounds_at each folded_ends fold_ends
a_sum_of_two = refl

-- an option may be absent, and then counts as 0
a_sum_of_options : row_bounds (Scalar (Fold SumOfOptions)) (numbers 2 (b (pos 2) (pos 3) ∷ b (negsuc 1) (negsuc 0) ∷ []) ∷ []) ≡ Some (between (negsuc 1) (pos 3))
unfolding scalar_bounds all_ends_at elements_at bounds_at each folded_ends fold_ends
a_sum_of_options = refl

-- 2^61 + 2^61 - 2^61: the first partial sum that leaves the limit counts
a_partial_sum_past_the_limit : folded_ends Sum (pos 0, pos 0) ((greatest_number, greatest_number) ∷ (greatest_number, greatest_number) ∷ (least_number, least_number) ∷ []) ≡ (pos 4611686018427387904, pos 4611686018427387904)
unfolding folded_ends fold_ends
a_partial_sum_past_the_limit = refl

a_product_of_none : folded_ends Product (pos 1, pos 1) [] ≡ (pos 1, pos 1)
unfolding folded_ends
a_product_of_none = refl

a_product_of_two : folded_ends Product (pos 1, pos 1) ((negsuc 1, pos 3) ∷ (pos 4, pos 5) ∷ []) ≡ (negsuc 9, pos 15)
unfolding folded_ends fold_ends
a_product_of_two = refl

exponent_zero : row_bounds (Scalar Power) (between (negsuc 4) (pos 7) ∷ between (pos 0) (pos 0) ∷ []) ≡ Some (between (pos 1) (pos 1))
unfolding scalar_bounds ends_at bounds_at raised_ends
exponent_zero = refl

exponent_one : row_bounds (Scalar Power) (between (negsuc 4) (pos 7) ∷ between (pos 1) (pos 1) ∷ []) ≡ Some (between (negsuc 4) (pos 7))
unfolding scalar_bounds ends_at bounds_at raised_ends fold_ends
exponent_one = refl

-- a fold of `*` doesn't see that a square isn't negative
a_square : raised_ends (negsuc 1, pos 3) 2 ≡ (negsuc 5, pos 9)
unfolding raised_ends fold_ends
a_square = refl

-- 2 ^ 62 leaves the limit, and stays
a_power_past_the_limit : raised_ends (pos 2, pos 2) 70 ≡ (pos 4611686018427387904, pos 4611686018427387904)
unfolding raised_ends fold_ends
a_power_past_the_limit = refl

-- ---- counts

three_may_be_true : row_bounds (Scalar Count) (numbers 3 (b (pos 1) (pos 1) ∷ b (pos 0) (pos 1) ∷ b (pos 0) (pos 0) ∷ []) ∷ []) ≡ Some (between (pos 0) (pos 3))
unfolding scalar_bounds elements_at bounds_at
three_may_be_true = refl

card_of_a_set_within : row_bounds (Scalar Card) (within (from_to 1 3 ∷ from_to 5 5 ∷ []) ∷ []) ≡ Some (between (pos 0) (pos 4))
unfolding scalar_bounds upper_at bounds_at
card_of_a_set_within = refl

card_of_the_empty_set : row_bounds (Scalar Card) (within [] ∷ []) ≡ Some (between (pos 0) (pos 0))
unfolding scalar_bounds upper_at bounds_at
card_of_the_empty_set = refl

-- ---- accesses and branches

abbrev three : List Ends
three = from_to 1 2 ∷ from_to 4 9 ∷ (negsuc 4, pos 0) ∷ []

two_places_reached : access_ends (from_to 1 3 ∷ []) ((negsuc 0, pos 2) ∷ []) three ≡ from_to 1 9
unfolding reached index_tuples is_reached range_elements
two_places_reached = refl

all_places_reached : access_ends (from_to 1 3 ∷ []) ((pos 0, pos 7) ∷ []) three ≡ (negsuc 4, pos 9)
unfolding reached index_tuples is_reached range_elements
all_places_reached = refl

no_place_reached : access_ends (from_to 1 3 ∷ []) ((pos 4, pos 7) ∷ []) three ≡ nothing
unfolding reached index_tuples is_reached range_elements
no_place_reached = refl

-- the second column of two rows of two
a_column : access_ends (from_to 0 1 ∷ from_to 1 2 ∷ []) (from_to 0 1 ∷ from_to 2 2 ∷ []) (from_to 1 1 ∷ from_to 5 6 ∷ from_to 2 2 ∷ from_to 8 8 ∷ []) ≡ from_to 5 8
unfolding reached index_tuples is_reached range_elements
a_column = refl

an_access_to_sets : access_upper (from_to 1 2 ∷ []) (from_to 1 2 ∷ []) ((from_to 1 2 ∷ []) ∷ (from_to 3 4 ∷ []) ∷ []) ≡ from_to 1 4 ∷ []
unfolding reached index_tuples is_reached range_elements union_from union complement missing_from intersection
an_access_to_sets = refl

two_branches : if_bounds (between (pos 1) (pos 2)) (between (pos 5) (pos 6) ∷ []) ≡ between (pos 1) (pos 6)
unfolding if_bounds branch_bounds branch_bound
two_branches = refl

branches_of_arrays : if_bounds (numbers 2 (b (pos 1) (pos 1) ∷ b (pos 9) (pos 9) ∷ [])) (numbers 2 (b (pos 4) (pos 4) ∷ b (pos 7) (pos 8) ∷ []) ∷ []) ≡ numbers 2 (b (pos 1) (pos 4) ∷ b (pos 7) (pos 9) ∷ [])
unfolding if_bounds branch_bounds branch_bound
branches_of_arrays = refl

-- nothing is sure of a set under a condition
branches_of_sets : if_bounds (one (sets (from_to 1 1 ∷ []) (from_to 1 1 ∷ []))) (one (sets (from_to 2 2 ∷ []) (from_to 2 2 ∷ [])) ∷ []) ≡ within (from_to 1 2 ∷ [])
unfolding if_bounds branch_bounds branch_bound union complement missing_from intersection
branches_of_sets = refl

-- ---- enums, sets, variables

next_of_a_set : row_bounds (Scalar (Beside Greatest)) (within (from_to 2 4 ∷ from_to 6 6 ∷ []) ∷ between (pos 2) (pos 2) ∷ []) ≡ Some (between (pos 2) (pos 6))
unfolding scalar_bounds upper_at bounds_at end_of
next_of_a_set = refl

next_of_the_empty_set : row_bounds (Scalar (Beside Least)) (within [] ∷ between (pos 2) (pos 2) ∷ []) ≡ Some (between (pos 0) (pos 0))
unfolding scalar_bounds upper_at bounds_at end_of
next_of_the_empty_set = refl

a_union : row_bounds (Made (SetOf Union)) (within (from_to 1 2 ∷ []) ∷ within (from_to 3 3 ∷ []) ∷ []) ≡ Some (within (from_to 1 3 ∷ []))
unfolding made_bounds upper_at bounds_at combined_upper union complement missing_from intersection
a_union = refl

-- the first set's, whatever the second is
a_difference_of_sets : row_bounds (Made (SetOf Diff)) (within (from_to 1 5 ∷ []) ∷ within (from_to 2 3 ∷ []) ∷ []) ≡ Some (within (from_to 1 5 ∷ []))
unfolding made_bounds upper_at bounds_at combined_upper
a_difference_of_sets = refl

an_intersection : combined_upper Intersect (from_to 1 5 ∷ []) (from_to 4 9 ∷ []) ≡ from_to 4 5 ∷ []
unfolding combined_upper intersection
an_intersection = refl

a_symmetric_difference : combined_upper Symdiff (from_to 1 5 ∷ []) (from_to 4 9 ∷ []) ≡ from_to 1 9 ∷ []
unfolding combined_upper union complement missing_from intersection
a_symmetric_difference = refl

an_intersection_of_none : row_bounds (Made ArrayIntersect) (numbers 0 [] ∷ []) ≡ Some (within [])
unfolding made_bounds all_uppers_at elements_at bounds_at each
an_intersection_of_none = refl

a_union_of_two : row_bounds (Made ArrayUnion) (many (from_to 1 2 ∷ []) (sets [] (from_to 1 1 ∷ []) ∷ sets [] (from_to 5 5 ∷ []) ∷ []) ∷ []) ≡ Some (within (from_to 1 1 ∷ from_to 5 5 ∷ []))
unfolding made_bounds all_uppers_at elements_at bounds_at each union_from union complement missing_from intersection
a_union_of_two = refl

a_variable_with_gaps : hull_of_set (from_to 1 2 ∷ from_to 9 9 ∷ []) ≡ from_to 1 9
unfolding end_of
a_variable_with_gaps = refl

an_empty_domain : hull_of_set [] ≡ nothing
unfolding end_of
an_empty_domain = refl

-- ---- values that are handed on

a_concatenation : row_bounds (Made Concat) (numbers 1 (b (pos 1) (pos 2) ∷ []) ∷ numbers 1 (b (pos 5) (pos 6) ∷ []) ∷ []) ≡ Some (numbers 2 (b (pos 1) (pos 2) ∷ b (pos 5) (pos 6) ∷ []))
unfolding made_bounds elements_at bounds_at
a_concatenation = refl

a_shape : row_bounds (Made (Shaped 1)) (one (sets (from_to 0 1 ∷ []) (from_to 0 1 ∷ [])) ∷ numbers 2 (b (pos 1) (pos 2) ∷ b (pos 5) (pos 6) ∷ []) ∷ []) ≡ Some (many (from_to 0 1 ∷ []) (b (pos 1) (pos 2) ∷ b (pos 5) (pos 6) ∷ []))
unfolding made_bounds uppers_before elements_at bounds_at end_of
a_shape = refl

a_deopt : row_bounds (Made Deopt) (between (pos 1) (pos 2) ∷ []) ≡ Some (between (pos 1) (pos 2))
unfolding made_bounds bounds_at
a_deopt = refl

-- ---- values by bounds

lower_bound : value_by_bounds (Bounding Lb) (between (negsuc 1) (pos 2) ∷ []) ≡ Some (int (negsuc 1))
unfolding value_by_bounds bounds_at lower_of
lower_bound = refl

lower_bound_of_a_set : value_by_bounds (Bounding Lb) (within (from_to 1 3 ∷ []) ∷ []) ≡ Some (set None [])
unfolding value_by_bounds bounds_at lower_of
lower_bound_of_a_set = refl

upper_bound_of_a_set : value_by_bounds (Bounding Ub) (within (from_to 1 3 ∷ []) ∷ []) ≡ Some (set None (from_to 1 3 ∷ []))
unfolding value_by_bounds bounds_at upper_of
upper_bound_of_a_set = refl

a_domain : value_by_bounds (Bounding Dom) (between (negsuc 1) (pos 2) ∷ []) ≡ Some (set None ((negsuc 1, pos 2) ∷ []))
unfolding value_by_bounds ends_at bounds_at up_to
a_domain = refl

a_lower_bound_of_two : value_by_bounds (Bounding LbArray) (numbers 2 (b (pos 3) (pos 4) ∷ b (pos 1) (pos 9) ∷ []) ∷ []) ≡ Some (int (pos 1))
unfolding value_by_bounds all_ends_at elements_at bounds_at each
a_lower_bound_of_two = refl

an_upper_bound_of_none : value_by_bounds (Bounding UbArray) (numbers 0 [] ∷ []) ≡ None
unfolding value_by_bounds all_ends_at elements_at bounds_at each
an_upper_bound_of_none = refl

not_fixed : value_by_bounds (Bounding IsFixed) (between (pos 1) (pos 2) ∷ []) ≡ Some (bool false)
unfolding value_by_bounds bounds_at is_settled
not_fixed = refl

fixed_by_its_bounds : value_by_bounds (Bounding Fix) (between (pos 2) (pos 2) ∷ []) ≡ Some (int (pos 2))
unfolding value_by_bounds bounds_at is_settled upper_of
fixed_by_its_bounds = refl

length_of_a_var_array : value_by_bounds (Scalar Length) (numbers 2 (b (pos 3) (pos 4) ∷ b (pos 1) (pos 9) ∷ []) ∷ []) ≡ Some (int (pos 2))
unfolding value_by_bounds elements_at bounds_at
length_of_a_var_array = refl

index_set_of_a_var_array : value_by_bounds (Made (IndexSet 0 1)) (many (from_to 0 1 ∷ []) (b (pos 3) (pos 4) ∷ b (pos 1) (pos 9) ∷ []) ∷ []) ≡ Some (set None (from_to 0 1 ∷ []))
unfolding value_by_bounds bounds_at up_to
index_set_of_a_var_array = refl
