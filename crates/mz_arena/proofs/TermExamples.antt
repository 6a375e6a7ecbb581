-- Worked examples of what nodes mean.
use Rattle.std.specs.Prelude.{◌≡◌, refl, ℕ, ℤ, pos, neg_ℤ, List, [], ◌∷◌, Some, None}
use Rattle.mz_value.specs.Ranges.{Range}
use Rattle.mz_operations.specs.Sets.{union, intersection, difference, combined, contains, same_set, complement, missing_from}
use Rattle.mz_operations.specs.Numbers.{computed, signed, toward}
use Rattle.mz_arena.specs.declared.node.Node.{Node}
use Rattle.mz_arena.specs.declared.node.NodeKind.{NodeKind}
use Rattle.mz_arena.specs.declared.node.NodeKind.TheVariants.{Int, Bool as BoolNode, Var, Local, Add, Mul, Div, Mod, Min, Max, Abs, ToInt, Eq, Ne, Le, Lt, And, Or, Not, Iff, If, Access, Guard, Nil, Cons, SetConst, SetVar, SetLocal, Member, Union, Intersect, Diff, Symdiff, Card, SetEq, Subset}
use Rattle.mz_arena.specs.Entries.{Entry, entry, folded}
use Rattle.mz_arena.specs.Values.{number, set, numbers, sets, empty, Term, Values, arith_term, sign_term, extreme_term, comparison_term, set_comparison_term, member_term, and_term, or_term, not_term, iff_term, to_int_term, if_term, guard_term, access_term, cons_term, set_term, card_term}
use Rattle.mz_arena.specs.Terms.{node_term, terms, term}
use Rattle.mz_arena.specs.Numbering.{by_id}

abbrev undefined : Term
undefined = None

abbrev n : ℕ → Term
n k = Some (number (pos k))

abbrev minus : ℕ → Term
minus k = Some (number (neg_ℤ (pos k)))

abbrev yes : Term
yes = n 1

abbrev no : Term
no = n 0

abbrev members : List Range → Term
members rs = Some (set rs)

abbrev none : Term
none = Some empty

abbrev row : List ℤ → Term
row ns = Some (numbers ns)

abbrev sets_of : List (List Range) → Term
sets_of ss = Some (sets ss)

-- the variable or choice with the id k is k, or the set 0..k
abbrev values : Values
values = record { number = λ k. pos k; set = λ k. (pos 0, pos k) ∷ [] }

abbrev node : NodeKind → ℕ → ℕ → ℤ → Node
node k a b m = record { kind = k; a = a; b = b; c = 0; number = m }

-- a node of a kind, over its children's terms
abbrev means : NodeKind → List Term → Term
means k xs = node_term values (entry (node k 0 0 (pos 0))) xs

-- a constant, a variable or a choice with this number
abbrev of_number : NodeKind → ℤ → Term
of_number k m = node_term values (entry (node k 0 0 m)) (undefined ∷ [])

abbrev of_set : List Range → Term
of_set rs = node_term values (record { node = node SetConst 0 0 (pos 0); set = rs }) []

-- ---- constants, variables and choices

an_integer : of_number Int (neg_ℤ (pos 3)) ≡ minus 3
an_integer = refl

a_truth_value : of_number BoolNode (pos 1) ≡ yes
a_truth_value = refl

a_variable_by_its_id : of_number Var (pos 7) ≡ n 7
a_variable_by_its_id = refl

a_choice_by_its_id : of_number Local (pos 4) ≡ n 4
a_choice_by_its_id = refl

-- ---- integers

a_sum : means Add (n 2 ∷ minus 5 ∷ []) ≡ minus 3
unfolding arith_term computed
a_sum = refl

a_sum_with_an_undefined_first_part : means Add (undefined ∷ n 1 ∷ []) ≡ undefined
unfolding arith_term
a_sum_with_an_undefined_first_part = refl

a_sum_with_an_undefined_second_part : means Add (n 1 ∷ undefined ∷ []) ≡ undefined
unfolding arith_term
a_sum_with_an_undefined_second_part = refl

a_product : means Mul (minus 2 ∷ n 3 ∷ []) ≡ minus 6
unfolding arith_term computed
a_product = refl

zero_by_what_is_undefined : means Mul (n 0 ∷ undefined ∷ []) ≡ undefined
unfolding arith_term
zero_by_what_is_undefined = refl

a_quotient_rounds_toward_zero : means Div (minus 7 ∷ n 2 ∷ []) ≡ minus 3
unfolding arith_term computed
a_quotient_rounds_toward_zero = refl

a_quotient_by_zero : means Div (n 7 ∷ n 0 ∷ []) ≡ undefined
unfolding arith_term computed
a_quotient_by_zero = refl

zero_divided_by_zero : means Div (n 0 ∷ n 0 ∷ []) ≡ undefined
unfolding arith_term computed
zero_divided_by_zero = refl

an_undefined_dividend : means Div (undefined ∷ n 1 ∷ []) ≡ undefined
unfolding arith_term
an_undefined_dividend = refl

a_remainder_of_a_negative : means Mod (minus 7 ∷ n 2 ∷ []) ≡ minus 1
unfolding arith_term computed
a_remainder_of_a_negative = refl

a_remainder_by_a_negative : means Mod (n 7 ∷ minus 2 ∷ []) ≡ n 1
unfolding arith_term computed
a_remainder_by_a_negative = refl

a_remainder_by_zero : means Mod (n 7 ∷ n 0 ∷ []) ≡ undefined
unfolding arith_term computed
a_remainder_by_zero = refl

an_undefined_divisor : means Mod (n 7 ∷ undefined ∷ []) ≡ undefined
unfolding arith_term
an_undefined_divisor = refl

the_least_of_three : means Min (row (pos 2 ∷ neg_ℤ (pos 5) ∷ pos 3 ∷ []) ∷ []) ≡ minus 5
unfolding extreme_term toward
the_least_of_three = refl

the_least_of_none : means Min (none ∷ []) ≡ undefined
unfolding extreme_term
the_least_of_none = refl

the_greatest_of_three : means Max (row (pos 2 ∷ neg_ℤ (pos 5) ∷ pos 3 ∷ []) ∷ []) ≡ n 3
unfolding extreme_term toward
the_greatest_of_three = refl

the_greatest_of_none : means Max (none ∷ []) ≡ undefined
unfolding extreme_term
the_greatest_of_none = refl

the_greatest_of_an_undefined_list : means Max (undefined ∷ []) ≡ undefined
unfolding extreme_term
the_greatest_of_an_undefined_list = refl

a_magnitude : means Abs (minus 5 ∷ []) ≡ n 5
unfolding sign_term signed
a_magnitude = refl

an_undefined_magnitude : means Abs (undefined ∷ []) ≡ undefined
unfolding sign_term
an_undefined_magnitude = refl

true_as_an_integer : means ToInt (yes ∷ []) ≡ n 1
unfolding to_int_term
true_as_an_integer = refl

false_as_an_integer : means ToInt (no ∷ []) ≡ n 0
unfolding to_int_term
false_as_an_integer = refl

an_undefined_truth_value_as_an_integer : means ToInt (undefined ∷ []) ≡ n 0
unfolding to_int_term
an_undefined_truth_value_as_an_integer = refl

-- ---- comparisons: false where a part is undefined

equal_integers : means Eq (n 3 ∷ n 3 ∷ []) ≡ yes
unfolding comparison_term
equal_integers = refl

integers_that_are_not_equal : means Eq (n 3 ∷ minus 3 ∷ []) ≡ no
unfolding comparison_term
integers_that_are_not_equal = refl

two_undefined_parts_are_not_equal : means Eq (undefined ∷ undefined ∷ []) ≡ no
unfolding comparison_term
two_undefined_parts_are_not_equal = refl

integers_that_differ : means Ne (n 3 ∷ n 4 ∷ []) ≡ yes
unfolding comparison_term
integers_that_differ = refl

integers_that_do_not_differ : means Ne (n 3 ∷ n 3 ∷ []) ≡ no
unfolding comparison_term
integers_that_do_not_differ = refl

an_undefined_part_does_not_differ : means Ne (undefined ∷ n 3 ∷ []) ≡ no
unfolding comparison_term
an_undefined_part_does_not_differ = refl

at_most_itself : means Le (n 3 ∷ n 3 ∷ []) ≡ yes
unfolding comparison_term
at_most_itself = refl

not_at_most : means Le (n 0 ∷ minus 1 ∷ []) ≡ no
unfolding comparison_term
not_at_most = refl

at_most_with_an_undefined_part : means Le (undefined ∷ n 3 ∷ []) ≡ no
unfolding comparison_term
at_most_with_an_undefined_part = refl

less_across_zero : means Lt (minus 1 ∷ n 0 ∷ []) ≡ yes
unfolding comparison_term
less_across_zero = refl

not_less_than_itself : means Lt (n 3 ∷ n 3 ∷ []) ≡ no
unfolding comparison_term
not_less_than_itself = refl

less_than_an_undefined_part : means Lt (n 3 ∷ undefined ∷ []) ≡ no
unfolding comparison_term
less_than_an_undefined_part = refl

-- ---- Booleans: an undefined one isn't true

both_true : means And (yes ∷ yes ∷ []) ≡ yes
unfolding and_term
both_true = refl

not_both_true : means And (no ∷ yes ∷ []) ≡ no
unfolding and_term
not_both_true = refl

true_and_undefined : means And (yes ∷ undefined ∷ []) ≡ no
unfolding and_term
true_and_undefined = refl

undefined_and_true : means And (undefined ∷ yes ∷ []) ≡ no
unfolding and_term
undefined_and_true = refl

one_of_two : means Or (no ∷ yes ∷ []) ≡ yes
unfolding or_term
one_of_two = refl

undefined_or_true : means Or (undefined ∷ yes ∷ []) ≡ yes
unfolding or_term
undefined_or_true = refl

undefined_or_false : means Or (undefined ∷ no ∷ []) ≡ no
unfolding or_term
undefined_or_false = refl

not_true : means Not (yes ∷ []) ≡ no
unfolding not_term
not_true = refl

not_false : means Not (no ∷ []) ≡ yes
unfolding not_term
not_false = refl

not_undefined : means Not (undefined ∷ []) ≡ yes
unfolding not_term
not_undefined = refl

both_false : means Iff (no ∷ no ∷ []) ≡ yes
unfolding iff_term
both_false = refl

true_and_false_are_not_the_same : means Iff (yes ∷ no ∷ []) ≡ no
unfolding iff_term
true_and_false_are_not_the_same = refl

undefined_is_as_false : means Iff (undefined ∷ no ∷ []) ≡ yes
unfolding iff_term
undefined_is_as_false = refl

undefined_is_not_as_true : means Iff (yes ∷ undefined ∷ []) ≡ no
unfolding iff_term
undefined_is_not_as_true = refl

-- ---- branches and guards

the_first_branch : means If (yes ∷ n 2 ∷ n 3 ∷ []) ≡ n 2
unfolding if_term
the_first_branch = refl

the_second_branch : means If (no ∷ n 2 ∷ n 3 ∷ []) ≡ n 3
unfolding if_term
the_second_branch = refl

an_undefined_condition : means If (undefined ∷ n 2 ∷ n 3 ∷ []) ≡ n 3
unfolding if_term
an_undefined_condition = refl

an_undefined_branch_that_is_not_taken : means If (yes ∷ n 2 ∷ undefined ∷ []) ≡ n 2
unfolding if_term
an_undefined_branch_that_is_not_taken = refl

an_undefined_branch_that_is_taken : means If (no ∷ n 2 ∷ undefined ∷ []) ≡ undefined
unfolding if_term
an_undefined_branch_that_is_taken = refl

a_branch_that_is_a_set : means If (yes ∷ members ((pos 1, pos 2) ∷ []) ∷ members ((pos 5, pos 5) ∷ []) ∷ []) ≡ members ((pos 1, pos 2) ∷ [])
unfolding if_term
a_branch_that_is_a_set = refl

a_guard_that_holds : means Guard (yes ∷ n 2 ∷ []) ≡ n 2
unfolding guard_term
a_guard_that_holds = refl

a_guard_that_fails : means Guard (no ∷ n 2 ∷ []) ≡ undefined
unfolding guard_term
a_guard_that_fails = refl

an_undefined_guard : means Guard (undefined ∷ n 2 ∷ []) ≡ undefined
unfolding guard_term
an_undefined_guard = refl

what_is_guarded_is_undefined : means Guard (yes ∷ undefined ∷ []) ≡ undefined
unfolding guard_term
what_is_guarded_is_undefined = refl

-- ---- lists

no_element : means Nil [] ≡ none
no_element = refl

one_element : means Cons (minus 1 ∷ none ∷ []) ≡ row (neg_ℤ (pos 1) ∷ [])
unfolding cons_term
one_element = refl

a_third_element : means Cons (n 1 ∷ row (pos 2 ∷ pos 3 ∷ []) ∷ []) ≡ row (pos 1 ∷ pos 2 ∷ pos 3 ∷ [])
unfolding cons_term
a_third_element = refl

a_list_of_a_set : means Cons (members ((pos 1, pos 2) ∷ []) ∷ none ∷ []) ≡ sets_of (((pos 1, pos 2) ∷ []) ∷ [])
unfolding cons_term
a_list_of_a_set = refl

an_undefined_element : means Cons (undefined ∷ row (pos 2 ∷ pos 3 ∷ []) ∷ []) ≡ undefined
unfolding cons_term
an_undefined_element = refl

an_undefined_rest : means Cons (n 1 ∷ undefined ∷ []) ≡ undefined
unfolding cons_term
an_undefined_rest = refl

the_place_before_the_first : means Access (n 0 ∷ row (pos 5 ∷ pos 6 ∷ pos 7 ∷ []) ∷ []) ≡ undefined
unfolding access_term
the_place_before_the_first = refl

the_first_place : means Access (n 1 ∷ row (pos 5 ∷ pos 6 ∷ pos 7 ∷ []) ∷ []) ≡ n 5
unfolding access_term
the_first_place = refl

the_last_place : means Access (n 3 ∷ row (pos 5 ∷ pos 6 ∷ pos 7 ∷ []) ∷ []) ≡ n 7
unfolding access_term
the_last_place = refl

the_place_after_the_last : means Access (n 4 ∷ row (pos 5 ∷ pos 6 ∷ pos 7 ∷ []) ∷ []) ≡ undefined
unfolding access_term
the_place_after_the_last = refl

a_negative_place : means Access (minus 1 ∷ row (pos 5 ∷ pos 6 ∷ pos 7 ∷ []) ∷ []) ≡ undefined
unfolding access_term
a_negative_place = refl

the_first_place_of_none : means Access (n 1 ∷ none ∷ []) ≡ undefined
unfolding access_term
the_first_place_of_none = refl

an_undefined_place : means Access (undefined ∷ row (pos 5 ∷ pos 6 ∷ pos 7 ∷ []) ∷ []) ≡ undefined
unfolding access_term
an_undefined_place = refl

a_place_of_an_undefined_list : means Access (n 1 ∷ undefined ∷ []) ≡ undefined
unfolding access_term
a_place_of_an_undefined_list = refl

a_set_of_a_list : means Access (n 2 ∷ sets_of ([] ∷ ((pos 1, pos 2) ∷ []) ∷ []) ∷ []) ≡ members ((pos 1, pos 2) ∷ [])
unfolding access_term
a_set_of_a_list = refl

-- ---- sets

a_constant_set : of_set ((pos 1, pos 3) ∷ []) ≡ members ((pos 1, pos 3) ∷ [])
a_constant_set = refl

a_set_variable_by_its_id : of_number SetVar (pos 3) ≡ members ((pos 0, pos 3) ∷ [])
a_set_variable_by_its_id = refl

a_set_choice_by_its_id : of_number SetLocal (pos 5) ≡ members ((pos 0, pos 5) ∷ [])
a_set_choice_by_its_id = refl

an_end_is_inside : means Member (n 7 ∷ members ((neg_ℤ (pos 3), pos 0) ∷ (pos 5, pos 7) ∷ []) ∷ []) ≡ yes
unfolding member_term contains
an_end_is_inside = refl

a_gap_is_outside : means Member (n 1 ∷ members ((neg_ℤ (pos 3), pos 0) ∷ (pos 5, pos 7) ∷ []) ∷ []) ≡ no
unfolding member_term contains
a_gap_is_outside = refl

no_element_of_the_empty_set : means Member (n 0 ∷ members [] ∷ []) ≡ no
unfolding member_term contains
no_element_of_the_empty_set = refl

an_undefined_integer_is_no_element : means Member (undefined ∷ members ((neg_ℤ (pos 3), pos 0) ∷ []) ∷ []) ≡ no
unfolding member_term
an_undefined_integer_is_no_element = refl

no_element_of_an_undefined_set : means Member (n 0 ∷ undefined ∷ []) ≡ no
unfolding member_term
no_element_of_an_undefined_set = refl

a_union_of_sets_that_touch : means Union (members ((pos 1, pos 2) ∷ []) ∷ members ((pos 3, pos 4) ∷ []) ∷ []) ≡ members ((pos 1, pos 4) ∷ [])
unfolding set_term combined union complement missing_from intersection
a_union_of_sets_that_touch = refl

a_union_with_an_undefined_set : means Union (members ((pos 1, pos 2) ∷ []) ∷ undefined ∷ []) ≡ undefined
unfolding set_term
a_union_with_an_undefined_set = refl

what_both_have : means Intersect (members ((pos 1, pos 3) ∷ []) ∷ members ((pos 2, pos 9) ∷ []) ∷ []) ≡ members ((pos 2, pos 3) ∷ [])
unfolding set_term combined intersection
what_both_have = refl

what_the_second_has_not : means Diff (members ((pos 1, pos 5) ∷ []) ∷ members ((pos 2, pos 2) ∷ []) ∷ []) ≡ members ((pos 1, pos 1) ∷ (pos 3, pos 5) ∷ [])
unfolding set_term combined difference intersection complement missing_from
what_the_second_has_not = refl

what_one_alone_has : means Symdiff (members ((pos 1, pos 3) ∷ []) ∷ members ((pos 3, pos 5) ∷ []) ∷ []) ≡ members ((pos 1, pos 2) ∷ (pos 4, pos 5) ∷ [])
unfolding set_term combined difference union complement missing_from intersection
what_one_alone_has = refl

an_undefined_first_set : means Diff (undefined ∷ members [] ∷ []) ≡ undefined
unfolding set_term
an_undefined_first_set = refl

three_elements : means Card (members ((pos 1, pos 2) ∷ (pos 5, pos 5) ∷ []) ∷ []) ≡ n 3
unfolding card_term
three_elements = refl

no_elements : means Card (members [] ∷ []) ≡ n 0
unfolding card_term
no_elements = refl

a_count_of_an_undefined_set : means Card (undefined ∷ []) ≡ undefined
unfolding card_term
a_count_of_an_undefined_set = refl

equal_sets : means SetEq (members ((pos 1, pos 2) ∷ (pos 5, pos 5) ∷ []) ∷ members ((pos 1, pos 2) ∷ (pos 5, pos 5) ∷ []) ∷ []) ≡ yes
unfolding set_comparison_term same_set
equal_sets = refl

sets_that_are_not_equal : means SetEq (members ((pos 1, pos 2) ∷ []) ∷ members ((pos 1, pos 3) ∷ []) ∷ []) ≡ no
unfolding set_comparison_term same_set
sets_that_are_not_equal = refl

two_undefined_sets_are_not_equal : means SetEq (undefined ∷ undefined ∷ []) ≡ no
unfolding set_comparison_term
two_undefined_sets_are_not_equal = refl

the_empty_set_is_a_subset : means Subset (members [] ∷ members ((pos 1, pos 1) ∷ []) ∷ []) ≡ yes
unfolding set_comparison_term difference intersection complement missing_from
the_empty_set_is_a_subset = refl

a_subset : means Subset (members ((pos 2, pos 2) ∷ []) ∷ members ((pos 1, pos 3) ∷ []) ∷ []) ≡ yes
unfolding set_comparison_term difference intersection complement missing_from
a_subset = refl

not_a_subset : means Subset (members ((pos 1, pos 3) ∷ []) ∷ members ((pos 2, pos 9) ∷ []) ∷ []) ≡ no
unfolding set_comparison_term difference intersection complement missing_from
not_a_subset = refl

an_undefined_set_is_no_subset : means Subset (undefined ∷ members ((pos 1, pos 3) ∷ []) ∷ []) ≡ no
unfolding set_comparison_term
an_undefined_set_is_no_subset = refl

-- ---- whole arenas

-- 7 div 0, whether that is equal to itself, and whether it isn't
abbrev by_zero : List Entry
by_zero = entry (node Int 0 0 (pos 7)) ∷ entry (node Int 0 0 (pos 0)) ∷ entry (node Div 0 1 (pos 0)) ∷ entry (node Eq 2 2 (pos 0)) ∷ entry (node Not 3 0 (pos 0)) ∷ []

terms_by_zero : terms values by_zero ≡ n 7 ∷ n 0 ∷ undefined ∷ no ∷ yes ∷ []
unfolding terms folded arith_term computed comparison_term not_term
terms_by_zero = refl

no_such_id : term values by_zero 5 ≡ undefined
unfolding terms folded arith_term computed comparison_term not_term
no_such_id = refl

-- a list of 5 and of what isn't there, and its least element
abbrev with_an_undefined_element : List Entry
with_an_undefined_element = entry (node Nil 0 0 (pos 0)) ∷ entry (node Int 0 0 (pos 5)) ∷ entry (node Access 1 0 (pos 0)) ∷ entry (node Cons 2 0 (pos 0)) ∷ entry (node Cons 1 3 (pos 0)) ∷ entry (node Min 4 0 (pos 0)) ∷ []

least_with_an_undefined_element : terms values with_an_undefined_element ≡ none ∷ n 5 ∷ undefined ∷ undefined ∷ undefined ∷ undefined ∷ []
unfolding terms folded access_term cons_term extreme_term
least_with_an_undefined_element = refl

-- 5 before 2, and what is at the place 2
abbrev a_list : List Entry
a_list = entry (node Nil 0 0 (pos 0)) ∷ entry (node Int 0 0 (pos 2)) ∷ entry (node Cons 1 0 (pos 0)) ∷ entry (node Int 0 0 (pos 5)) ∷ entry (node Cons 3 2 (pos 0)) ∷ entry (node Access 1 4 (pos 0)) ∷ []

terms_of_a_list : terms values a_list ≡ none ∷ n 2 ∷ row (pos 2 ∷ []) ∷ n 5 ∷ row (pos 5 ∷ pos 2 ∷ []) ∷ n 2 ∷ []
unfolding terms folded access_term cons_term
terms_of_a_list = refl

-- a variable of the cell 8, and the choice 0: their ids are 1 and 2
abbrev free : List Entry
free = record { node = node SetConst 0 0 (pos 0); set = (pos 0, pos 9) ∷ [] } ∷ entry (node Var 0 8 (pos 1)) ∷ entry (node Local 0 0 (pos 2)) ∷ entry (node Add 1 2 (pos 0)) ∷ []

abbrev choices : Values
choices = record { number = λ k. neg_ℤ (pos 3); set = λ k. [] }

values_by_numbers : terms (by_id free values choices) free ≡ members ((pos 0, pos 9) ∷ []) ∷ n 8 ∷ minus 3 ∷ n 5 ∷ []
unfolding terms folded by_id arith_term computed
values_by_numbers = refl
