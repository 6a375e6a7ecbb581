-- Worked examples of the bounds of nodes.
use Rattle.std.specs.Prelude.{◌≡◌, refl, ℕ, ℤ, pos, neg_ℤ, List, [], ◌∷◌, Some, None}
use Rattle.mz_value.specs.Ranges.{Range}
use Rattle.mz_interval.specs.Ends.{Ends, least_number, greatest_number}
use Rattle.mz_operations.specs.Sets.{union, intersection, end_of, complement, missing_from}
use Rattle.mz_operations.specs.Numbers.{toward}
use Rattle.mz_operations.specs.Bounds.{toward_ends, arith_ends, sign_ends, extreme_from, union_from, combined_upper}
use Rattle.mz_arena.specs.declared.node.Node.{Node}
use Rattle.mz_arena.specs.declared.node.NodeKind.{NodeKind}
use Rattle.mz_arena.specs.declared.node.NodeKind.TheVariants.{Int, Bool as BoolNode, Var, Local, Add, Mul, Div, Mod, Min, Max, Abs, ToInt, Eq, Ne, Le, Lt, And, Or, Not, Iff, If, Access, Guard, Nil, Cons, SetConst, SetVar, SetLocal, Member, Union, Intersect, Diff, Symdiff, Card, SetEq, Subset}
use Rattle.mz_arena.specs.Entries.{Entry, entry, folded}
use Rattle.mz_arena.specs.Extents.{whole, truth, subset, wholes, truths, subsets, empty, Known, bool_extent, variable_extent, set_variable_extent, to_int_extent, comparison_extent, connective_extent, not_extent, member_extent, set_comparison_extent, if_extent, guard_extent, access_extent, cons_extent, set_extent, node_extent, extents}

-- a node that an arena doesn't have
abbrev no_bounds : Known
no_bounds = None

abbrev int : ℤ → ℤ → Known
int l h = Some (whole (l, h))

abbrev bool : ℤ → ℤ → Known
bool l h = Some (truth (l, h))

abbrev open_truth : Known
open_truth = bool (pos 0) (pos 1)

abbrev within : List Range → Known
within u = Some (subset u)

abbrev no_element : Known
no_element = Some empty

abbrev ints : List Ends → Known
ints es = Some (wholes es)

abbrev bools : Known
bools = Some truths

abbrev sets : List (List Range) → Known
sets us = Some (subsets us)

abbrev node : NodeKind → ℕ → ℕ → ℕ → ℤ → Node
node k a b c m = record { kind = k; a = a; b = b; c = c; number = m }

-- a node of a kind, over its children's bounds
abbrev bounds_of : NodeKind → List Known → Known
bounds_of k xs = node_extent (entry (node k 0 0 0 (pos 0))) xs

-- a constant
abbrev of_number : NodeKind → ℤ → Known
of_number k m = node_extent (entry (node k 0 0 0 m)) []

-- a variable or a choice with this mark, over its domain
abbrev of_mark : NodeKind → ℕ → Known → Known
of_mark k c x = node_extent (entry (node k 0 0 c (pos 0))) (x ∷ [])

abbrev of_set : List Range → Known
of_set u = node_extent (record { node = node SetConst 0 0 0 (pos 0); set = u }) []

-- ---- constants, variables and choices

an_integer_at_the_limit : of_number Int greatest_number ≡ int greatest_number greatest_number
an_integer_at_the_limit = refl

an_integer_past_the_limit : of_number Int (pos 2305843009213693953) ≡ no_bounds
an_integer_past_the_limit = refl

yes_is_true : of_number BoolNode (pos 1) ≡ bool (pos 1) (pos 1)
unfolding bool_extent
yes_is_true = refl

two_is_no_truth_value : of_number BoolNode (pos 2) ≡ no_bounds
unfolding bool_extent
two_is_no_truth_value = refl

a_variable_with_gaps : of_mark Var 0 (within ((pos 1, pos 2) ∷ (pos 9, pos 9) ∷ [])) ≡ int (pos 1) (pos 9)
unfolding variable_extent end_of
a_variable_with_gaps = refl

a_variable_with_an_empty_domain : of_mark Var 0 (within []) ≡ int (pos 0) (pos 0)
unfolding variable_extent end_of
a_variable_with_an_empty_domain = refl

a_variable_with_the_whole_limit : of_mark Var 0 (within ((least_number, greatest_number) ∷ [])) ≡ int least_number greatest_number
unfolding variable_extent end_of
a_variable_with_the_whole_limit = refl

a_boolean_variable : of_mark Var 1 (within ((pos 0, pos 1) ∷ [])) ≡ bool (pos 0) (pos 1)
unfolding variable_extent end_of
a_boolean_variable = refl

a_boolean_variable_of_one_value : of_mark Var 1 (within ((pos 1, pos 1) ∷ [])) ≡ no_bounds
unfolding variable_extent end_of
a_boolean_variable_of_one_value = refl

a_boolean_variable_of_an_integer_domain : of_mark Var 1 (within ((pos 0, pos 2) ∷ [])) ≡ no_bounds
unfolding variable_extent end_of
a_boolean_variable_of_an_integer_domain = refl

a_variable_of_no_sort : of_mark Var 2 (within ((pos 0, pos 1) ∷ [])) ≡ no_bounds
unfolding variable_extent end_of
a_variable_of_no_sort = refl

a_choice : of_mark Local 0 (within ((neg_ℤ (pos 5), neg_ℤ (pos 5)) ∷ (pos 0, pos 3) ∷ [])) ≡ int (neg_ℤ (pos 5)) (pos 3)
unfolding variable_extent end_of
a_choice = refl

a_choice_of_a_truth_value : of_mark Local 1 (within ((pos 0, pos 1) ∷ [])) ≡ bool (pos 0) (pos 1)
unfolding variable_extent end_of
a_choice_of_a_truth_value = refl

-- ---- integers

a_sum_at_the_limit : bounds_of Add (int least_number (pos 0) ∷ int (pos 0) greatest_number ∷ []) ≡ int least_number greatest_number
unfolding arith_ends
a_sum_at_the_limit = refl

a_sum_past_the_limit : bounds_of Add (int (pos 0) greatest_number ∷ int (pos 0) (pos 1) ∷ []) ≡ no_bounds
unfolding arith_ends
a_sum_past_the_limit = refl

a_sum_past_the_least_number : bounds_of Add (int least_number (pos 0) ∷ int (neg_ℤ (pos 1)) (neg_ℤ (pos 1)) ∷ []) ≡ no_bounds
unfolding arith_ends
a_sum_past_the_least_number = refl

a_sum_with_a_truth_value : bounds_of Add (int (pos 1) (pos 2) ∷ open_truth ∷ []) ≡ no_bounds
a_sum_with_a_truth_value = refl

a_product_of_both_signs : bounds_of Mul (int (neg_ℤ (pos 2)) (pos 3) ∷ int (neg_ℤ (pos 4)) (pos 5) ∷ []) ≡ int (neg_ℤ (pos 12)) (pos 15)
unfolding arith_ends
a_product_of_both_signs = refl

a_product_of_negatives : bounds_of Mul (int (neg_ℤ (pos 3)) (neg_ℤ (pos 2)) ∷ int (neg_ℤ (pos 5)) (neg_ℤ (pos 4)) ∷ []) ≡ int (pos 8) (pos 15)
unfolding arith_ends
a_product_of_negatives = refl

a_product_past_the_limit : bounds_of Mul (int (pos 0) greatest_number ∷ int (pos 1) (pos 2) ∷ []) ≡ no_bounds
unfolding arith_ends
a_product_past_the_limit = refl

-- 9 by 1 and by -1
a_quotient_around_zero : bounds_of Div (int (pos 1) (pos 9) ∷ int (neg_ℤ (pos 2)) (pos 3) ∷ []) ≡ int (neg_ℤ (pos 9)) (pos 9)
unfolding arith_ends
a_quotient_around_zero = refl

-- 0 divides nothing
a_quotient_from_zero : bounds_of Div (int (neg_ℤ (pos 7)) (pos 9) ∷ int (pos 0) (pos 3) ∷ []) ≡ int (neg_ℤ (pos 7)) (pos 9)
unfolding arith_ends
a_quotient_from_zero = refl

a_quotient_of_negatives : bounds_of Div (int (neg_ℤ (pos 9)) (neg_ℤ (pos 7)) ∷ int (neg_ℤ (pos 3)) (neg_ℤ (pos 2)) ∷ []) ≡ int (pos 2) (pos 4)
unfolding arith_ends
a_quotient_of_negatives = refl

a_quotient_by_zero : bounds_of Div (int (pos 4) (pos 9) ∷ int (pos 0) (pos 0) ∷ []) ≡ int (pos 0) (pos 0)
unfolding arith_ends
a_quotient_by_zero = refl

the_least_number_by_minus_one : bounds_of Div (int least_number least_number ∷ int (neg_ℤ (pos 1)) (neg_ℤ (pos 1)) ∷ []) ≡ int greatest_number greatest_number
unfolding arith_ends
the_least_number_by_minus_one = refl

-- the greater magnitude is 4
a_remainder_around_zero : bounds_of Mod (int (neg_ℤ (pos 9)) (pos 5) ∷ int (neg_ℤ (pos 4)) (pos 2) ∷ []) ≡ int (neg_ℤ (pos 3)) (pos 3)
unfolding arith_ends
a_remainder_around_zero = refl

a_remainder_of_a_small_dividend : bounds_of Mod (int (pos 1) (pos 2) ∷ int (pos 7) (pos 7) ∷ []) ≡ int (pos 0) (pos 2)
unfolding arith_ends
a_remainder_of_a_small_dividend = refl

a_remainder_of_a_negative : bounds_of Mod (int (neg_ℤ (pos 9)) (neg_ℤ (pos 1)) ∷ int (pos 0) (pos 4) ∷ []) ≡ int (neg_ℤ (pos 3)) (pos 0)
unfolding arith_ends
a_remainder_of_a_negative = refl

a_remainder_by_one : bounds_of Mod (int (neg_ℤ (pos 9)) (pos 9) ∷ int (neg_ℤ (pos 1)) (pos 1) ∷ []) ≡ int (pos 0) (pos 0)
unfolding arith_ends
a_remainder_by_one = refl

a_remainder_by_zero : bounds_of Mod (int (pos 4) (pos 9) ∷ int (pos 0) (pos 0) ∷ []) ≡ int (pos 0) (pos 0)
unfolding arith_ends
a_remainder_by_zero = refl

the_least_of_three : bounds_of Min (ints ((pos 1, pos 9) ∷ (pos 3, pos 4) ∷ (neg_ℤ (pos 5), pos 8) ∷ []) ∷ []) ≡ int (neg_ℤ (pos 5)) (pos 4)
unfolding extreme_from toward_ends toward
the_least_of_three = refl

the_least_of_none : bounds_of Min (no_element ∷ []) ≡ int (pos 0) (pos 0)
the_least_of_none = refl

the_greatest_of_three : bounds_of Max (ints ((pos 1, pos 9) ∷ (pos 3, pos 4) ∷ (neg_ℤ (pos 5), pos 8) ∷ []) ∷ []) ≡ int (pos 3) (pos 9)
unfolding extreme_from toward_ends toward
the_greatest_of_three = refl

the_greatest_of_truth_values : bounds_of Max (bools ∷ []) ≡ no_bounds
the_greatest_of_truth_values = refl

a_magnitude_of_both_signs : bounds_of Abs (int (neg_ℤ (pos 5)) (pos 3) ∷ []) ≡ int (pos 0) (pos 5)
unfolding sign_ends
a_magnitude_of_both_signs = refl

a_magnitude_of_negatives : bounds_of Abs (int (neg_ℤ (pos 5)) (neg_ℤ (pos 2)) ∷ []) ≡ int (pos 2) (pos 5)
unfolding sign_ends
a_magnitude_of_negatives = refl

a_magnitude_at_the_limit : bounds_of Abs (int least_number (pos 0) ∷ []) ≡ int (pos 0) greatest_number
unfolding sign_ends
a_magnitude_at_the_limit = refl

a_truth_value_as_an_integer : bounds_of ToInt (bool (pos 1) (pos 1) ∷ []) ≡ int (pos 1) (pos 1)
unfolding to_int_extent
a_truth_value_as_an_integer = refl

an_integer_as_an_integer : bounds_of ToInt (int (pos 0) (pos 1) ∷ []) ≡ no_bounds
unfolding to_int_extent
an_integer_as_an_integer = refl

-- ---- Booleans: 0..1, though the parts be settled

equal_integers : bounds_of Eq (int (pos 3) (pos 3) ∷ int (pos 3) (pos 3) ∷ []) ≡ open_truth
unfolding comparison_extent
equal_integers = refl

equality_with_a_truth_value : bounds_of Eq (int (pos 1) (pos 1) ∷ bool (pos 1) (pos 1) ∷ []) ≡ no_bounds
unfolding comparison_extent
equality_with_a_truth_value = refl

integers_that_differ : bounds_of Ne (int (pos 3) (pos 3) ∷ int (pos 4) (pos 4) ∷ []) ≡ open_truth
unfolding comparison_extent
integers_that_differ = refl

an_integer_at_most_another : bounds_of Le (int (neg_ℤ (pos 1)) (pos 0) ∷ int (pos 1) (pos 2) ∷ []) ≡ open_truth
unfolding comparison_extent
an_integer_at_most_another = refl

an_integer_less_than_another : bounds_of Lt (int (neg_ℤ (pos 1)) (pos 0) ∷ int (pos 1) (pos 2) ∷ []) ≡ open_truth
unfolding comparison_extent
an_integer_less_than_another = refl

less_than_a_set : bounds_of Lt (int (neg_ℤ (pos 1)) (pos 0) ∷ within [] ∷ []) ≡ no_bounds
unfolding comparison_extent
less_than_a_set = refl

both : bounds_of And (bool (pos 0) (pos 0) ∷ bool (pos 1) (pos 1) ∷ []) ≡ open_truth
unfolding connective_extent
both = refl

one_of_two : bounds_of Or (open_truth ∷ bool (pos 1) (pos 1) ∷ []) ≡ open_truth
unfolding connective_extent
one_of_two = refl

an_integer_is_no_truth_value : bounds_of Or (open_truth ∷ int (pos 1) (pos 1) ∷ []) ≡ no_bounds
unfolding connective_extent
an_integer_is_no_truth_value = refl

a_negation : bounds_of Not (bool (pos 1) (pos 1) ∷ []) ≡ open_truth
unfolding not_extent
a_negation = refl

a_negation_of_an_integer : bounds_of Not (int (pos 0) (pos 1) ∷ []) ≡ no_bounds
unfolding not_extent
a_negation_of_an_integer = refl

the_same_truth_value : bounds_of Iff (bool (pos 1) (pos 1) ∷ bool (pos 1) (pos 1) ∷ []) ≡ open_truth
unfolding connective_extent
the_same_truth_value = refl

an_element_of_the_empty_set : bounds_of Member (int (pos 1) (pos 1) ∷ within [] ∷ []) ≡ open_truth
unfolding member_extent
an_element_of_the_empty_set = refl

a_set_is_no_element : bounds_of Member (within [] ∷ within [] ∷ []) ≡ no_bounds
unfolding member_extent
a_set_is_no_element = refl

equal_sets : bounds_of SetEq (within ((pos 1, pos 1) ∷ []) ∷ within ((pos 1, pos 1) ∷ []) ∷ []) ≡ open_truth
unfolding set_comparison_extent
equal_sets = refl

a_subset : bounds_of Subset (within [] ∷ within ((pos 1, pos 3) ∷ []) ∷ []) ≡ open_truth
unfolding set_comparison_extent
a_subset = refl

a_subset_of_an_integer : bounds_of Subset (within [] ∷ int (pos 1) (pos 3) ∷ []) ≡ no_bounds
unfolding set_comparison_extent
a_subset_of_an_integer = refl

-- ---- branches and guards

the_hull_of_two_branches : bounds_of If (bool (pos 1) (pos 1) ∷ int (neg_ℤ (pos 3)) (neg_ℤ (pos 2)) ∷ int (pos 5) (pos 6) ∷ []) ≡ int (neg_ℤ (pos 3)) (pos 6)
unfolding if_extent
the_hull_of_two_branches = refl

branches_of_truth_values : bounds_of If (open_truth ∷ bool (pos 1) (pos 1) ∷ bool (pos 1) (pos 1) ∷ []) ≡ open_truth
unfolding if_extent
branches_of_truth_values = refl

branches_of_sets : bounds_of If (open_truth ∷ within ((pos 1, pos 1) ∷ []) ∷ within ((pos 2, pos 2) ∷ []) ∷ []) ≡ within ((pos 1, pos 2) ∷ [])
unfolding if_extent union complement missing_from intersection
branches_of_sets = refl

branches_of_two_sorts : bounds_of If (open_truth ∷ int (pos 0) (pos 1) ∷ bool (pos 0) (pos 1) ∷ []) ≡ no_bounds
unfolding if_extent
branches_of_two_sorts = refl

branches_of_lists : bounds_of If (open_truth ∷ bools ∷ bools ∷ []) ≡ no_bounds
unfolding if_extent
branches_of_lists = refl

a_condition_that_is_an_integer : bounds_of If (int (pos 0) (pos 1) ∷ int (pos 0) (pos 1) ∷ int (pos 0) (pos 1) ∷ []) ≡ no_bounds
unfolding if_extent
a_condition_that_is_an_integer = refl

a_guarded_integer : bounds_of Guard (open_truth ∷ int (neg_ℤ (pos 3)) (pos 2) ∷ []) ≡ int (neg_ℤ (pos 3)) (pos 2)
unfolding guard_extent
a_guarded_integer = refl

a_guarded_truth_value : bounds_of Guard (open_truth ∷ bool (pos 1) (pos 1) ∷ []) ≡ open_truth
unfolding guard_extent
a_guarded_truth_value = refl

a_guarded_set : bounds_of Guard (open_truth ∷ within ((pos 1, pos 2) ∷ []) ∷ []) ≡ within ((pos 1, pos 2) ∷ [])
unfolding guard_extent
a_guarded_set = refl

-- ---- lists and accesses

an_empty_list : bounds_of Nil [] ≡ no_element
an_empty_list = refl

a_list_of_an_integer : bounds_of Cons (int (neg_ℤ (pos 1)) (pos 2) ∷ no_element ∷ []) ≡ ints ((neg_ℤ (pos 1), pos 2) ∷ [])
unfolding cons_extent
a_list_of_an_integer = refl

a_second_integer : bounds_of Cons (int (neg_ℤ (pos 1)) (pos 2) ∷ ints ((pos 4, pos 9) ∷ []) ∷ []) ≡ ints ((neg_ℤ (pos 1), pos 2) ∷ (pos 4, pos 9) ∷ [])
unfolding cons_extent
a_second_integer = refl

a_list_of_a_truth_value : bounds_of Cons (bool (pos 1) (pos 1) ∷ no_element ∷ []) ≡ bools
unfolding cons_extent
a_list_of_a_truth_value = refl

a_list_of_a_set : bounds_of Cons (within ((pos 1, pos 2) ∷ []) ∷ no_element ∷ []) ≡ sets (((pos 1, pos 2) ∷ []) ∷ [])
unfolding cons_extent
a_list_of_a_set = refl

an_integer_before_truth_values : bounds_of Cons (int (pos 0) (pos 1) ∷ bools ∷ []) ≡ no_bounds
unfolding cons_extent
an_integer_before_truth_values = refl

a_list_of_lists : bounds_of Cons (no_element ∷ no_element ∷ []) ≡ no_bounds
unfolding cons_extent
a_list_of_lists = refl

two_places_reached : bounds_of Access (int (neg_ℤ (pos 1)) (pos 2) ∷ ints ((pos 1, pos 2) ∷ (pos 4, pos 9) ∷ (neg_ℤ (pos 5), pos 0) ∷ []) ∷ []) ≡ int (pos 1) (pos 9)
unfolding access_extent
two_places_reached = refl

all_places_reached : bounds_of Access (int (pos 0) (pos 7) ∷ ints ((pos 1, pos 2) ∷ (pos 4, pos 9) ∷ (neg_ℤ (pos 5), pos 0) ∷ []) ∷ []) ≡ int (neg_ℤ (pos 5)) (pos 9)
unfolding access_extent
all_places_reached = refl

the_first_place : bounds_of Access (int (pos 1) (pos 1) ∷ ints ((pos 1, pos 2) ∷ (pos 4, pos 9) ∷ (neg_ℤ (pos 5), pos 0) ∷ []) ∷ []) ≡ int (pos 1) (pos 2)
unfolding access_extent
the_first_place = refl

the_last_place : bounds_of Access (int (pos 3) (pos 4) ∷ ints ((pos 1, pos 2) ∷ (pos 4, pos 9) ∷ (neg_ℤ (pos 5), pos 0) ∷ []) ∷ []) ≡ int (neg_ℤ (pos 5)) (pos 0)
unfolding access_extent
the_last_place = refl

the_place_before_the_first : bounds_of Access (int (neg_ℤ (pos 2)) (pos 0) ∷ ints ((pos 1, pos 2) ∷ (pos 4, pos 9) ∷ (neg_ℤ (pos 5), pos 0) ∷ []) ∷ []) ≡ int (pos 0) (pos 0)
unfolding access_extent
the_place_before_the_first = refl

the_place_after_the_last : bounds_of Access (int (pos 4) (pos 7) ∷ ints ((pos 1, pos 2) ∷ (pos 4, pos 9) ∷ (neg_ℤ (pos 5), pos 0) ∷ []) ∷ []) ≡ int (pos 0) (pos 0)
unfolding access_extent
the_place_after_the_last = refl

a_place_of_none : bounds_of Access (int (pos 1) (pos 1) ∷ no_element ∷ []) ≡ int (pos 0) (pos 0)
unfolding access_extent
a_place_of_none = refl

a_truth_value_of_a_list : bounds_of Access (int (pos 1) (pos 1) ∷ bools ∷ []) ≡ open_truth
unfolding access_extent
a_truth_value_of_a_list = refl

a_set_of_a_list : bounds_of Access (int (pos 2) (pos 3) ∷ sets (((pos 1, pos 1) ∷ []) ∷ ((pos 2, pos 2) ∷ []) ∷ ((pos 4, pos 5) ∷ []) ∷ []) ∷ []) ≡ within ((pos 2, pos 2) ∷ (pos 4, pos 5) ∷ [])
unfolding access_extent union_from union complement missing_from intersection
a_set_of_a_list = refl

a_place_of_an_integer : bounds_of Access (int (pos 1) (pos 1) ∷ int (pos 1) (pos 1) ∷ []) ≡ no_bounds
unfolding access_extent
a_place_of_an_integer = refl

-- ---- sets

a_constant_set : of_set ((pos 1, pos 3) ∷ []) ≡ within ((pos 1, pos 3) ∷ [])
a_constant_set = refl

a_set_variable : bounds_of SetVar (within ((pos 1, pos 3) ∷ []) ∷ []) ≡ within ((pos 1, pos 3) ∷ [])
unfolding set_variable_extent
a_set_variable = refl

a_set_choice : bounds_of SetLocal (within [] ∷ []) ≡ within []
unfolding set_variable_extent
a_set_choice = refl

a_set_variable_of_an_integer : bounds_of SetVar (int (pos 1) (pos 3) ∷ []) ≡ no_bounds
unfolding set_variable_extent
a_set_variable_of_an_integer = refl

a_union : bounds_of Union (within ((pos 1, pos 2) ∷ []) ∷ within ((pos 3, pos 3) ∷ []) ∷ []) ≡ within ((pos 1, pos 3) ∷ [])
unfolding set_extent combined_upper union complement missing_from intersection
a_union = refl

an_intersection : bounds_of Intersect (within ((pos 1, pos 5) ∷ []) ∷ within ((pos 4, pos 9) ∷ []) ∷ []) ≡ within ((pos 4, pos 5) ∷ [])
unfolding set_extent combined_upper intersection
an_intersection = refl

-- the first set's, whatever the second is
a_difference : bounds_of Diff (within ((pos 1, pos 5) ∷ []) ∷ within ((pos 2, pos 3) ∷ []) ∷ []) ≡ within ((pos 1, pos 5) ∷ [])
unfolding set_extent combined_upper
a_difference = refl

a_symmetric_difference : bounds_of Symdiff (within ((pos 1, pos 5) ∷ []) ∷ within ((pos 4, pos 9) ∷ []) ∷ []) ≡ within ((pos 1, pos 9) ∷ [])
unfolding set_extent combined_upper union complement missing_from intersection
a_symmetric_difference = refl

a_union_with_an_integer : bounds_of Union (within ((pos 1, pos 2) ∷ []) ∷ int (pos 3) (pos 3) ∷ []) ≡ no_bounds
unfolding set_extent
a_union_with_an_integer = refl

a_count_of_elements : bounds_of Card (within ((pos 1, pos 3) ∷ (pos 5, pos 5) ∷ []) ∷ []) ≡ int (pos 0) (pos 4)
a_count_of_elements = refl

a_count_of_the_empty_set : bounds_of Card (within [] ∷ []) ≡ int (pos 0) (pos 0)
a_count_of_the_empty_set = refl

a_count_past_the_limit : bounds_of Card (within ((least_number, greatest_number) ∷ []) ∷ []) ≡ no_bounds
a_count_past_the_limit = refl

-- ---- a whole arena

-- a variable of -3..3, its quotient by itself, a list of both, and what stands at the variable's place
abbrev quotients : List Entry
quotients = record { node = node SetConst 0 0 0 (pos 0); set = (neg_ℤ (pos 3), pos 3) ∷ [] } ∷ entry (node Var 0 0 0 (pos 1)) ∷ entry (node Div 1 1 0 (pos 0)) ∷ entry (node Nil 0 0 0 (pos 0)) ∷ entry (node Cons 2 3 0 (pos 0)) ∷ entry (node Access 1 4 0 (pos 0)) ∷ entry (node Le 5 1 0 (pos 0)) ∷ []

bounds_of_quotients : extents quotients ≡ within ((neg_ℤ (pos 3), pos 3) ∷ []) ∷ int (neg_ℤ (pos 3)) (pos 3) ∷ int (neg_ℤ (pos 3)) (pos 3) ∷ no_element ∷ ints ((neg_ℤ (pos 3), pos 3) ∷ []) ∷ int (neg_ℤ (pos 3)) (pos 3) ∷ open_truth ∷ []
unfolding extents folded variable_extent end_of arith_ends cons_extent access_extent comparison_extent
bounds_of_quotients = refl
