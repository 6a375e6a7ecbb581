-- Worked examples of the globals of counting and of sets.
use Rattle.std.specs.Prelude.{◌≡◌, refl, pos, neg_ℤ, ◌^◌, [], ◌∷◌, true, false, Some, None}
use Rattle.mz_operations.specs.declared.row.Comparison.TheVariants.{AtMost, AtLeast}
use Rattle.mz_operations.specs.Views.{as_bool, as_int, as_set, as_items, as_index, as_row}
use Rattle.mz_operations.specs.Arguments.{at, int_at, set_at, items_at, row_at, index_at}
use Rattle.mz_operations.specs.Numbers.{ordered, toward}
use Rattle.mz_operations.specs.Sets.{contains, intersection, union, difference, complement, missing_from, same_set}
use Rattle.mz_operations.specs.Bounds.{bound_of, bounds_of, folded_ends, fold_ends}
use Rattle.mz_globals.specs.declared.global.Global.TheVariants.{CountOf, Count, Times, Among, DifferentValues, Cardinality, SlidingSum, Channel, Link, Disjoint, Partition}
use Rattle.mz_globals.specs.declared.global.Relation.TheVariants as relation
use Rattle.mz_globals.specs.declared.checks.Refusal.TheVariants.{Misfit, Negative, Outside}
use Rattle.mz_globals.specs.Table.{line_of, global_cost}
use Rattle.mz_globals.specs.ExampleWords.{tells, refused, bounds, yes, no, n, minus, from, ns, zs, truths_from, s, sets_from}

record Counts : Type 0 where
  two_ones : tells CountOf (ns (1 ∷ 2 ∷ 1 ∷ []) ∷ n 1 ∷ []) ≡ n 2
  none : tells CountOf (ns [] ∷ n 1 ∷ []) ≡ n 0
  no_three : tells CountOf (ns (1 ∷ 2 ∷ []) ∷ n 3 ∷ []) ≡ n 0
  undefined : tells CountOf (ns (1 ∷ []) ∷ None ∷ []) ≡ None
  of_undefined : tells CountOf (None ∷ n 1 ∷ []) ≡ None
  elements : global_cost CountOf (3 ∷ 9 ∷ []) ≡ 4
  up_to_all : bounds CountOf (ns (1 ∷ 2 ∷ 1 ∷ []) ∷ n 1 ∷ []) ≡ (pos 0, pos 3)
  is_two : tells Count (ns (1 ∷ 2 ∷ 1 ∷ []) ∷ n 1 ∷ n 2 ∷ []) ≡ yes
  isnt_one : tells Count (ns (1 ∷ 2 ∷ 1 ∷ []) ∷ n 1 ∷ n 1 ∷ []) ≡ no
  is_none : tells Count (ns [] ∷ n 1 ∷ n 0 ∷ []) ≡ yes
  constraint_undefined : tells Count (ns (1 ∷ []) ∷ None ∷ n 0 ∷ []) ≡ no
  constraint_elements : global_cost Count (3 ∷ 9 ∷ 9 ∷ []) ≡ 4
  of_a_truth : bounds Count (ns (1 ∷ 2 ∷ 1 ∷ []) ∷ n 1 ∷ n 2 ∷ []) ≡ (pos 0, pos 1)

counts : Counts
unfolding line_of at int_at set_at items_at row_at index_at as_bool as_int as_set as_items as_index as_row ordered toward contains intersection union complement missing_from same_set bound_of bounds_of folded_ends fold_ends
counts = record { two_ones = refl; none = refl; no_three = refl; undefined = refl; of_undefined = refl; elements = refl; up_to_all = refl; is_two = refl; isnt_one = refl; is_none = refl; constraint_undefined = refl; constraint_elements = refl; of_a_truth = refl }

record Related : Type 0 where
  at_least_two : tells (Times relation.AtLeast) (n 2 ∷ ns (7 ∷ 7 ∷ 1 ∷ []) ∷ n 7 ∷ []) ≡ yes
  at_least_three : tells (Times relation.AtLeast) (n 3 ∷ ns (7 ∷ 7 ∷ 1 ∷ []) ∷ n 7 ∷ []) ≡ no
  at_least_none : tells (Times relation.AtLeast) (n 0 ∷ ns [] ∷ n 7 ∷ []) ≡ yes
  at_least_less_than_none : tells (Times relation.AtLeast) (minus 1 ∷ ns [] ∷ n 7 ∷ []) ≡ yes
  elements : global_cost (Times relation.AtLeast) (9 ∷ 3 ∷ 9 ∷ []) ≡ 4
  at_most_two : tells (Times relation.AtMost) (n 2 ∷ ns (7 ∷ 7 ∷ 1 ∷ []) ∷ n 7 ∷ []) ≡ yes
  at_most_one : tells (Times relation.AtMost) (n 1 ∷ ns (7 ∷ 7 ∷ 1 ∷ []) ∷ n 7 ∷ []) ≡ no
  at_most_less_than_none : tells (Times relation.AtMost) (minus 1 ∷ ns [] ∷ n 7 ∷ []) ≡ no
  undefined : tells (Times relation.AtMost) (n 3 ∷ None ∷ n 7 ∷ []) ≡ no
  exactly_two : tells (Times relation.Exactly) (n 2 ∷ ns (7 ∷ 7 ∷ 1 ∷ []) ∷ n 7 ∷ []) ≡ yes
  exactly_one : tells (Times relation.Exactly) (n 1 ∷ ns (7 ∷ 7 ∷ 1 ∷ []) ∷ n 7 ∷ []) ≡ no
  exactly_three : tells (Times relation.Exactly) (n 3 ∷ ns (7 ∷ 7 ∷ 1 ∷ []) ∷ n 7 ∷ []) ≡ no
  exactly_none : tells (Times relation.Exactly) (n 0 ∷ ns (1 ∷ []) ∷ n 7 ∷ []) ≡ yes
  two_among : tells Among (n 2 ∷ ns (1 ∷ 4 ∷ 9 ∷ []) ∷ s ((3, 9) ∷ []) ∷ []) ≡ yes
  one_among : tells Among (n 1 ∷ ns (1 ∷ 4 ∷ 9 ∷ []) ∷ s ((3, 9) ∷ []) ∷ []) ≡ no
  none_in_nothing : tells Among (n 0 ∷ ns (1 ∷ 4 ∷ []) ∷ s [] ∷ []) ≡ yes
  with_a_gap : tells Among (n 2 ∷ ns (1 ∷ 5 ∷ 9 ∷ []) ∷ s ((1, 2) ∷ (9, 9) ∷ []) ∷ []) ≡ yes
  among_undefined : tells Among (n 0 ∷ ns [] ∷ None ∷ []) ≡ no
  among_elements : global_cost Among (9 ∷ 3 ∷ 9 ∷ []) ≡ 4

related : Related
unfolding line_of at int_at set_at items_at row_at index_at as_bool as_int as_set as_items as_index as_row ordered toward contains intersection union complement missing_from same_set bound_of bounds_of folded_ends fold_ends
related = record { at_least_two = refl; at_least_three = refl; at_least_none = refl; at_least_less_than_none = refl; elements = refl; at_most_two = refl; at_most_one = refl; at_most_less_than_none = refl; undefined = refl; exactly_two = refl; exactly_one = refl; exactly_three = refl; exactly_none = refl; two_among = refl; one_among = refl; none_in_nothing = refl; with_a_gap = refl; among_undefined = refl; among_elements = refl }

record Values : Type 0 where
  two_values : tells DifferentValues (n 2 ∷ ns (3 ∷ 1 ∷ 3 ∷ []) ∷ []) ≡ yes
  not_three : tells DifferentValues (n 3 ∷ ns (3 ∷ 1 ∷ 3 ∷ []) ∷ []) ≡ no
  none : tells DifferentValues (n 0 ∷ ns [] ∷ []) ≡ yes
  not_one_of_none : tells DifferentValues (n 1 ∷ ns [] ∷ []) ≡ no
  undefined : tells DifferentValues (None ∷ ns [] ∷ []) ≡ no
  pairs : global_cost DifferentValues (9 ∷ 3 ∷ []) ≡ 10
  each_counted : tells Cardinality (ns (1 ∷ 2 ∷ 1 ∷ 9 ∷ []) ∷ ns (1 ∷ 2 ∷ []) ∷ ns (2 ∷ 1 ∷ []) ∷ []) ≡ yes
  one_too_many : tells Cardinality (ns (1 ∷ 2 ∷ 1 ∷ 9 ∷ []) ∷ ns (1 ∷ 2 ∷ []) ∷ ns (3 ∷ 1 ∷ []) ∷ []) ≡ no
  covered_twice : tells Cardinality (ns (1 ∷ 2 ∷ []) ∷ ns (1 ∷ 1 ∷ []) ∷ ns (1 ∷ 2 ∷ []) ∷ []) ≡ no
  no_cover : tells Cardinality (ns (1 ∷ 2 ∷ []) ∷ ns [] ∷ ns [] ∷ []) ≡ yes
  cardinality_undefined : tells Cardinality (ns (1 ∷ []) ∷ None ∷ ns (1 ∷ []) ∷ []) ≡ no
  a_count_less : refused Cardinality (ns (1 ∷ 2 ∷ []) ∷ ns (1 ∷ 2 ∷ []) ∷ ns (1 ∷ []) ∷ []) ≡ Some Misfit
  of_another_length : refused Cardinality (ns (1 ∷ 2 ∷ 3 ∷ []) ∷ ns (1 ∷ 2 ∷ []) ∷ ns (1 ∷ 1 ∷ []) ∷ []) ≡ None
  unknown_length : refused Cardinality (ns (1 ∷ []) ∷ None ∷ ns (1 ∷ 2 ∷ []) ∷ []) ≡ None
  pairs_of_three : global_cost Cardinality (4 ∷ 2 ∷ 2 ∷ []) ≡ 65

values : Values
unfolding line_of at int_at set_at items_at row_at index_at as_bool as_int as_set as_items as_index as_row ordered toward contains intersection union complement missing_from same_set bound_of bounds_of folded_ends fold_ends
values = record { two_values = refl; not_three = refl; none = refl; not_one_of_none = refl; undefined = refl; pairs = refl; each_counted = refl; one_too_many = refl; covered_twice = refl; no_cover = refl; cardinality_undefined = refl; a_count_less = refl; of_another_length = refl; unknown_length = refl; pairs_of_three = refl }

record Sliding : Type 0 where
  sums_of_two : tells SlidingSum (n 2 ∷ n 4 ∷ n 2 ∷ ns (1 ∷ 1 ∷ 3 ∷ []) ∷ []) ≡ yes
  too_great : tells SlidingSum (n 2 ∷ n 3 ∷ n 2 ∷ ns (1 ∷ 1 ∷ 3 ∷ []) ∷ []) ≡ no
  too_small : tells SlidingSum (n 3 ∷ n 4 ∷ n 2 ∷ ns (1 ∷ 1 ∷ 3 ∷ []) ∷ []) ≡ no
  longer_than_all : tells SlidingSum (n 9 ∷ n 0 ∷ n 4 ∷ ns (1 ∷ 1 ∷ 3 ∷ []) ∷ []) ≡ yes
  all_at_once : tells SlidingSum (n 5 ∷ n 5 ∷ n 3 ∷ ns (1 ∷ 1 ∷ 3 ∷ []) ∷ []) ≡ yes
  empty_sums : tells SlidingSum (n 0 ∷ n 0 ∷ n 0 ∷ ns (5 ∷ []) ∷ []) ≡ yes
  empty_sums_outside : tells SlidingSum (n 1 ∷ n 2 ∷ n 0 ∷ ns [] ∷ []) ≡ no
  undefined : tells SlidingSum (n 0 ∷ None ∷ n 1 ∷ ns [] ∷ []) ≡ no
  negative : refused SlidingSum (n 0 ∷ n 0 ∷ minus 1 ∷ ns (1 ∷ []) ∷ []) ≡ Some (Negative (neg_ℤ (pos 1)))
  outside : refused SlidingSum (n 0 ∷ n 0 ∷ n 2 ∷ ns ((2 ^ 61) ∷ (2 ^ 61) ∷ []) ∷ []) ≡ Some (Outside (pos (2 ^ 62)))
  no_sum_so_long : refused SlidingSum (n 0 ∷ n 0 ∷ n 3 ∷ ns ((2 ^ 61) ∷ (2 ^ 61) ∷ []) ∷ []) ≡ None
  each_partial_sum_inside : refused SlidingSum (n 0 ∷ n 0 ∷ n 3 ∷ zs (neg_ℤ (pos (2 ^ 61)) ∷ pos (2 ^ 61) ∷ pos (2 ^ 61) ∷ []) ∷ []) ≡ None
  partial_sum_outside : refused SlidingSum (n 0 ∷ n 0 ∷ n 3 ∷ zs (pos (2 ^ 61) ∷ pos (2 ^ 61) ∷ neg_ℤ (pos (2 ^ 61)) ∷ []) ∷ []) ≡ Some (Outside (pos (2 ^ 62)))
  unknown_length : refused SlidingSum (n 0 ∷ n 0 ∷ None ∷ ns ((2 ^ 61) ∷ (2 ^ 61) ∷ []) ∷ []) ≡ None
  pairs : global_cost SlidingSum (9 ∷ 9 ∷ 9 ∷ 3 ∷ []) ≡ 10

sliding : Sliding
unfolding line_of at int_at set_at items_at row_at index_at as_bool as_int as_set as_items as_index as_row ordered toward contains intersection union complement missing_from same_set bound_of bounds_of folded_ends fold_ends
sliding = record { sums_of_two = refl; too_great = refl; too_small = refl; longer_than_all = refl; all_at_once = refl; empty_sums = refl; empty_sums_outside = refl; undefined = refl; negative = refl; outside = refl; no_sum_so_long = refl; each_partial_sum_inside = refl; partial_sum_outside = refl; unknown_length = refl; pairs = refl }

record Channelled : Type 0 where
  three_in_two : tells Channel (ns (1 ∷ 2 ∷ 1 ∷ []) ∷ sets_from 1 (((1, 1) ∷ (3, 3) ∷ []) ∷ ((2, 2) ∷ []) ∷ []) ∷ []) ≡ yes
  three_is_missing : tells Channel (ns (1 ∷ 2 ∷ 1 ∷ []) ∷ sets_from 1 (((1, 1) ∷ []) ∷ ((2, 2) ∷ []) ∷ []) ∷ []) ≡ no
  in_two_sets : tells Channel (ns (1 ∷ 2 ∷ []) ∷ sets_from 1 (((1, 2) ∷ []) ∷ ((2, 2) ∷ []) ∷ []) ∷ []) ≡ no
  no_such_set : tells Channel (ns (3 ∷ []) ∷ sets_from 1 (((1, 1) ∷ []) ∷ []) ∷ []) ≡ no
  no_such_element : tells Channel (ns (1 ∷ []) ∷ sets_from 1 (((1, 2) ∷ []) ∷ []) ∷ []) ≡ no
  from_elsewhere : tells Channel (from 0 (5 ∷ 5 ∷ []) ∷ sets_from 5 (((0, 1) ∷ []) ∷ []) ∷ []) ≡ yes
  an_empty_set : tells Channel (ns [] ∷ sets_from 1 ([] ∷ []) ∷ []) ≡ yes
  elements_of_none : tells Channel (ns [] ∷ sets_from 1 (((1, 1) ∷ []) ∷ []) ∷ []) ≡ no
  none : tells Channel (ns [] ∷ sets_from 1 [] ∷ []) ≡ yes
  undefined : tells Channel (ns (1 ∷ []) ∷ None ∷ []) ≡ no
  lengths_arent_paired : refused Channel (ns (1 ∷ 2 ∷ 1 ∷ []) ∷ sets_from 1 ([] ∷ []) ∷ []) ≡ None
  pairs_of_both : global_cost Channel (3 ∷ 2 ∷ []) ≡ 26
  first_and_third : tells Link (s ((1, 1) ∷ (3, 3) ∷ []) ∷ truths_from 1 (true ∷ false ∷ true ∷ []) ∷ []) ≡ yes
  third_is_missing : tells Link (s ((1, 1) ∷ []) ∷ truths_from 1 (true ∷ false ∷ true ∷ []) ∷ []) ≡ no
  second_is_false : tells Link (s ((1, 3) ∷ []) ∷ truths_from 1 (true ∷ false ∷ true ∷ []) ∷ []) ≡ no
  beyond_the_last : tells Link (s ((1, 1) ∷ (4, 4) ∷ []) ∷ truths_from 1 (true ∷ false ∷ false ∷ []) ∷ []) ≡ no
  from_zero : tells Link (s ((0, 0) ∷ []) ∷ truths_from 0 (true ∷ false ∷ []) ∷ []) ≡ yes
  before_the_first : tells Link (s ((4, 5) ∷ []) ∷ truths_from 5 (true ∷ []) ∷ []) ≡ no
  no_boolean : tells Link (s [] ∷ truths_from 1 [] ∷ []) ≡ yes
  some_of_no_boolean : tells Link (s ((1, 1) ∷ []) ∷ truths_from 1 [] ∷ []) ≡ no
  link_undefined : tells Link (None ∷ truths_from 1 [] ∷ []) ≡ no
  a_set_doesnt_count : global_cost Link (9 ∷ 2 ∷ []) ≡ 3

channelled : Channelled
unfolding line_of at int_at set_at items_at row_at index_at as_bool as_int as_set as_items as_index as_row ordered toward contains intersection union difference complement missing_from same_set bound_of bounds_of folded_ends fold_ends
channelled = record { three_in_two = refl; three_is_missing = refl; in_two_sets = refl; no_such_set = refl; no_such_element = refl; from_elsewhere = refl; an_empty_set = refl; elements_of_none = refl; none = refl; undefined = refl; lengths_arent_paired = refl; pairs_of_both = refl; first_and_third = refl; third_is_missing = refl; second_is_false = refl; beyond_the_last = refl; from_zero = refl; before_the_first = refl; no_boolean = refl; some_of_no_boolean = refl; link_undefined = refl; a_set_doesnt_count = refl }

record SetsOfAnArray : Type 0 where
  apart : tells Disjoint (sets_from 1 (((1, 2) ∷ []) ∷ ((3, 3) ∷ []) ∷ []) ∷ []) ≡ yes
  two_in_both : tells Disjoint (sets_from 1 (((1, 2) ∷ []) ∷ ((4, 4) ∷ []) ∷ ((2, 3) ∷ []) ∷ []) ∷ []) ≡ no
  two_empty_sets : tells Disjoint (sets_from 1 ([] ∷ [] ∷ []) ∷ []) ≡ yes
  none : tells Disjoint (sets_from 1 [] ∷ []) ≡ yes
  undefined : tells Disjoint (None ∷ []) ≡ no
  pairs : global_cost Disjoint (3 ∷ []) ≡ 10
  one_to_three : tells Partition (sets_from 1 (((1, 1) ∷ []) ∷ ((2, 3) ∷ []) ∷ []) ∷ s ((1, 3) ∷ []) ∷ []) ≡ yes
  four_is_missing : tells Partition (sets_from 1 (((1, 1) ∷ []) ∷ ((2, 3) ∷ []) ∷ []) ∷ s ((1, 4) ∷ []) ∷ []) ≡ no
  three_is_too_much : tells Partition (sets_from 1 (((1, 1) ∷ []) ∷ ((2, 3) ∷ []) ∷ []) ∷ s ((1, 2) ∷ []) ∷ []) ≡ no
  overlap : tells Partition (sets_from 1 (((1, 2) ∷ []) ∷ ((2, 3) ∷ []) ∷ []) ∷ s ((1, 3) ∷ []) ∷ []) ≡ no
  nothing_of_none : tells Partition (sets_from 1 [] ∷ s [] ∷ []) ≡ yes
  one_of_none : tells Partition (sets_from 1 [] ∷ s ((1, 1) ∷ []) ∷ []) ≡ no
  partition_undefined : tells Partition (sets_from 1 [] ∷ None ∷ []) ≡ no
  sets_of_the_array_count : global_cost Partition (3 ∷ 9 ∷ []) ≡ 10

sets_of_an_array : SetsOfAnArray
unfolding line_of at int_at set_at items_at row_at index_at as_bool as_int as_set as_items as_index as_row ordered toward contains intersection union complement missing_from same_set bound_of bounds_of folded_ends fold_ends
sets_of_an_array = record { apart = refl; two_in_both = refl; two_empty_sets = refl; none = refl; undefined = refl; pairs = refl; one_to_three = refl; four_is_missing = refl; three_is_too_much = refl; overlap = refl; nothing_of_none = refl; one_of_none = refl; partition_undefined = refl; sets_of_the_array_count = refl }
