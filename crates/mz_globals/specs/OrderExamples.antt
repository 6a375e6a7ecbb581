-- Worked examples of the globals of order.
use Rattle.std.specs.Prelude.{◌≡◌, refl, pos, neg_ℤ, ◌^◌, [], ◌∷◌, true, false, None}
use Rattle.mz_operations.specs.declared.row.Comparison.TheVariants.{Less, AtMost, Greater, AtLeast}
use Rattle.mz_operations.specs.declared.row.Side.TheVariants.{Least, Greatest}
use Rattle.mz_operations.specs.Views.{as_bool, as_int, as_set, as_items, as_index, as_row}
use Rattle.mz_operations.specs.Arguments.{at, int_at, set_at, items_at, row_at, index_at}
use Rattle.mz_operations.specs.Numbers.{ordered, toward}
use Rattle.mz_operations.specs.Sets.{contains, intersection, union, complement, missing_from, same_set}
use Rattle.mz_operations.specs.Bounds.{bound_of, bounds_of, folded_ends, fold_ends}
use Rattle.mz_globals.specs.declared.global.Global.TheVariants.{AllDifferent, DifferentButZero, AllEqual, Ordered, Lex, Sort, Precede, Extreme, Member}
use Rattle.mz_globals.specs.Table.{line_of, global_cost}
use Rattle.mz_globals.specs.ExampleWords.{tells, refused, yes, no, n, minus, ns, zs}

record Different : Type 0 where
  three_values : tells AllDifferent (ns (1 ∷ 3 ∷ 2 ∷ []) ∷ []) ≡ yes
  two_twice : tells AllDifferent (ns (2 ∷ 3 ∷ 2 ∷ []) ∷ []) ≡ no
  of_none : tells AllDifferent (ns [] ∷ []) ≡ yes
  undefined : tells AllDifferent (None ∷ []) ≡ no
  pairs : global_cost AllDifferent (3 ∷ []) ≡ 10
  at_the_limit : global_cost AllDifferent ((2 ^ 40) ∷ []) ≡ 2 ^ 62
  never_refused : refused AllDifferent (ns (1 ∷ 1 ∷ []) ∷ []) ≡ None
  zeros : tells DifferentButZero (ns (0 ∷ 1 ∷ 0 ∷ []) ∷ []) ≡ yes
  ones_beside_a_zero : tells DifferentButZero (ns (1 ∷ 0 ∷ 1 ∷ []) ∷ []) ≡ no
  but_zero_of_none : tells DifferentButZero (ns [] ∷ []) ≡ yes
  but_zero_undefined : tells DifferentButZero (None ∷ []) ≡ no
  but_zero_pairs : global_cost DifferentButZero (2 ∷ []) ≡ 5

different : Different
unfolding line_of at int_at set_at items_at row_at index_at as_bool as_int as_set as_items as_index as_row ordered toward contains intersection union complement missing_from same_set bound_of bounds_of folded_ends fold_ends
different = record { three_values = refl; two_twice = refl; of_none = refl; undefined = refl; pairs = refl; at_the_limit = refl; never_refused = refl; zeros = refl; ones_beside_a_zero = refl; but_zero_of_none = refl; but_zero_undefined = refl; but_zero_pairs = refl }

record Equal : Type 0 where
  three_fours : tells AllEqual (ns (4 ∷ 4 ∷ 4 ∷ []) ∷ []) ≡ yes
  a_five : tells AllEqual (ns (4 ∷ 4 ∷ 5 ∷ []) ∷ []) ≡ no
  of_none : tells AllEqual (ns [] ∷ []) ≡ yes
  of_one : tells AllEqual (ns (7 ∷ []) ∷ []) ≡ yes
  undefined : tells AllEqual (None ∷ []) ≡ no
  elements : global_cost AllEqual (3 ∷ []) ≡ 4

equal : Equal
unfolding line_of at int_at set_at items_at row_at index_at as_bool as_int as_set as_items as_index as_row ordered toward contains intersection union complement missing_from same_set bound_of bounds_of folded_ends fold_ends
equal = record { three_fours = refl; a_five = refl; of_none = refl; of_one = refl; undefined = refl; elements = refl }

record InOrder : Type 0 where
  increasing_with_equals : tells (Ordered AtMost) (ns (1 ∷ 1 ∷ 2 ∷ []) ∷ []) ≡ yes
  increasing_falls : tells (Ordered AtMost) (ns (3 ∷ 1 ∷ []) ∷ []) ≡ no
  increasing_of_none : tells (Ordered AtMost) (ns [] ∷ []) ≡ yes
  increasing_elements : global_cost (Ordered AtMost) (3 ∷ []) ≡ 4
  decreasing_with_equals : tells (Ordered AtLeast) (ns (2 ∷ 1 ∷ 1 ∷ []) ∷ []) ≡ yes
  decreasing_rises : tells (Ordered AtLeast) (ns (2 ∷ 1 ∷ 2 ∷ []) ∷ []) ≡ no
  decreasing_of_one : tells (Ordered AtLeast) (ns (5 ∷ []) ∷ []) ≡ yes
  strictly_increasing : tells (Ordered Less) (ns (1 ∷ 2 ∷ 4 ∷ []) ∷ []) ≡ yes
  strictly_increasing_stays : tells (Ordered Less) (ns (1 ∷ 2 ∷ 2 ∷ []) ∷ []) ≡ no
  strictly_increasing_of_none : tells (Ordered Less) (ns [] ∷ []) ≡ yes
  strictly_increasing_undefined : tells (Ordered Less) (None ∷ []) ≡ no
  strictly_decreasing : tells (Ordered Greater) (zs (pos 2 ∷ pos 0 ∷ neg_ℤ (pos 1) ∷ []) ∷ []) ≡ yes
  strictly_decreasing_stays : tells (Ordered Greater) (ns (1 ∷ 1 ∷ []) ∷ []) ≡ no
  strictly_decreasing_of_none : tells (Ordered Greater) (ns [] ∷ []) ≡ yes

in_order : InOrder
unfolding line_of at int_at set_at items_at row_at index_at as_bool as_int as_set as_items as_index as_row ordered toward contains intersection union complement missing_from same_set bound_of bounds_of folded_ends fold_ends
in_order = record { increasing_with_equals = refl; increasing_falls = refl; increasing_of_none = refl; increasing_elements = refl; decreasing_with_equals = refl; decreasing_rises = refl; decreasing_of_one = refl; strictly_increasing = refl; strictly_increasing_stays = refl; strictly_increasing_of_none = refl; strictly_increasing_undefined = refl; strictly_decreasing = refl; strictly_decreasing_stays = refl; strictly_decreasing_of_none = refl }

record Lexicographic : Type 0 where
  first_place_decides : tells (Lex false) (ns (1 ∷ 9 ∷ []) ∷ ns (2 ∷ 0 ∷ []) ∷ []) ≡ yes
  first_place_is_greater : tells (Lex false) (ns (2 ∷ 0 ∷ []) ∷ ns (1 ∷ 9 ∷ []) ∷ []) ≡ no
  proper_prefix : tells (Lex false) (ns (1 ∷ []) ∷ ns (1 ∷ 0 ∷ []) ∷ []) ≡ yes
  prefix_of_it : tells (Lex false) (ns (1 ∷ 0 ∷ []) ∷ ns (1 ∷ []) ∷ []) ≡ no
  equal_lists : tells (Lex false) (ns (1 ∷ 2 ∷ []) ∷ ns (1 ∷ 2 ∷ []) ∷ []) ≡ no
  none_before_one : tells (Lex false) (ns [] ∷ ns (0 ∷ []) ∷ []) ≡ yes
  none_and_none : tells (Lex false) (ns [] ∷ ns [] ∷ []) ≡ no
  undefined : tells (Lex false) (ns [] ∷ None ∷ []) ≡ no
  lengths_differ : refused (Lex false) (ns [] ∷ ns (0 ∷ []) ∷ []) ≡ None
  elements_of_both : global_cost (Lex false) (3 ∷ 2 ∷ []) ≡ 6
  equal_lists_too : tells (Lex true) (ns (1 ∷ 2 ∷ []) ∷ ns (1 ∷ 2 ∷ []) ∷ []) ≡ yes
  none_and_none_too : tells (Lex true) (ns [] ∷ ns [] ∷ []) ≡ yes
  second_place_is_greater : tells (Lex true) (ns (1 ∷ 2 ∷ []) ∷ ns (1 ∷ 1 ∷ []) ∷ []) ≡ no
  one_before_none : tells (Lex true) (ns (1 ∷ []) ∷ ns [] ∷ []) ≡ no
  prefix_too : tells (Lex true) (ns (1 ∷ []) ∷ ns (1 ∷ 1 ∷ []) ∷ []) ≡ yes

lexicographic : Lexicographic
unfolding line_of at int_at set_at items_at row_at index_at as_bool as_int as_set as_items as_index as_row ordered toward contains intersection union complement missing_from same_set bound_of bounds_of folded_ends fold_ends
lexicographic = record { first_place_decides = refl; first_place_is_greater = refl; proper_prefix = refl; prefix_of_it = refl; equal_lists = refl; none_before_one = refl; none_and_none = refl; undefined = refl; lengths_differ = refl; elements_of_both = refl; equal_lists_too = refl; none_and_none_too = refl; second_place_is_greater = refl; one_before_none = refl; prefix_too = refl }

record Sorted : Type 0 where
  with_equals : tells Sort (ns (3 ∷ 1 ∷ 1 ∷ []) ∷ ns (1 ∷ 1 ∷ 3 ∷ []) ∷ []) ≡ yes
  another_value_twice : tells Sort (ns (3 ∷ 1 ∷ 1 ∷ []) ∷ ns (1 ∷ 3 ∷ 3 ∷ []) ∷ []) ≡ no
  not_increasing : tells Sort (ns (3 ∷ 1 ∷ []) ∷ ns (3 ∷ 1 ∷ []) ∷ []) ≡ no
  longer : tells Sort (ns (1 ∷ []) ∷ ns (1 ∷ 1 ∷ []) ∷ []) ≡ no
  shorter : tells Sort (ns (1 ∷ 1 ∷ []) ∷ ns (1 ∷ []) ∷ []) ≡ no
  none : tells Sort (ns [] ∷ ns [] ∷ []) ≡ yes
  undefined : tells Sort (None ∷ ns [] ∷ []) ≡ no
  lengths_arent_paired : refused Sort (ns (1 ∷ []) ∷ ns (1 ∷ 1 ∷ []) ∷ []) ≡ None
  pairs_of_both : global_cost Sort (2 ∷ 3 ∷ []) ≡ 26

sorted : Sorted
unfolding line_of at int_at set_at items_at row_at index_at as_bool as_int as_set as_items as_index as_row ordered toward contains intersection union complement missing_from same_set bound_of bounds_of folded_ends fold_ends
sorted = record { with_equals = refl; another_value_twice = refl; not_increasing = refl; longer = refl; shorter = refl; none = refl; undefined = refl; lengths_arent_paired = refl; pairs_of_both = refl }

record Preceded : Type 0 where
  one_before_two : tells Precede (n 1 ∷ n 2 ∷ ns (3 ∷ 1 ∷ 2 ∷ 2 ∷ []) ∷ []) ≡ yes
  two_before_one : tells Precede (n 1 ∷ n 2 ∷ ns (2 ∷ 1 ∷ []) ∷ []) ≡ no
  no_two : tells Precede (n 1 ∷ n 2 ∷ ns (3 ∷ 1 ∷ []) ∷ []) ≡ yes
  of_none : tells Precede (n 1 ∷ n 2 ∷ ns [] ∷ []) ≡ yes
  never_before_itself : tells Precede (n 1 ∷ n 1 ∷ ns (1 ∷ []) ∷ []) ≡ no
  itself_is_not_there : tells Precede (n 1 ∷ n 1 ∷ ns (2 ∷ []) ∷ []) ≡ yes
  undefined : tells Precede (n 1 ∷ None ∷ ns [] ∷ []) ≡ no
  elements : global_cost Precede (1 ∷ 9 ∷ 3 ∷ []) ≡ 4

preceded : Preceded
unfolding line_of at int_at set_at items_at row_at index_at as_bool as_int as_set as_items as_index as_row ordered toward contains intersection union complement missing_from same_set bound_of bounds_of folded_ends fold_ends
preceded = record { one_before_two = refl; two_before_one = refl; no_two = refl; of_none = refl; never_before_itself = refl; itself_is_not_there = refl; undefined = refl; elements = refl }

record Extremes : Type 0 where
  maximum : tells (Extreme Greatest) (n 5 ∷ ns (1 ∷ 5 ∷ 2 ∷ []) ∷ []) ≡ yes
  not_maximum : tells (Extreme Greatest) (n 2 ∷ ns (1 ∷ 5 ∷ 2 ∷ []) ∷ []) ≡ no
  above_all : tells (Extreme Greatest) (n 6 ∷ ns (1 ∷ 5 ∷ 2 ∷ []) ∷ []) ≡ no
  maximum_of_none : tells (Extreme Greatest) (n 0 ∷ ns [] ∷ []) ≡ no
  maximum_undefined : tells (Extreme Greatest) (None ∷ ns (1 ∷ []) ∷ []) ≡ no
  elements : global_cost (Extreme Greatest) (7 ∷ 3 ∷ []) ≡ 4
  minimum : tells (Extreme Least) (n 1 ∷ ns (3 ∷ 1 ∷ 2 ∷ []) ∷ []) ≡ yes
  below_all : tells (Extreme Least) (n 0 ∷ ns (3 ∷ 1 ∷ 2 ∷ []) ∷ []) ≡ no
  minimum_of_none : tells (Extreme Least) (n 0 ∷ ns [] ∷ []) ≡ no
  minimum_of_one : tells (Extreme Least) (minus 4 ∷ zs (neg_ℤ (pos 4) ∷ []) ∷ []) ≡ yes

extremes : Extremes
unfolding line_of at int_at set_at items_at row_at index_at as_bool as_int as_set as_items as_index as_row ordered toward contains intersection union complement missing_from same_set bound_of bounds_of folded_ends fold_ends
extremes = record { maximum = refl; not_maximum = refl; above_all = refl; maximum_of_none = refl; maximum_undefined = refl; elements = refl; minimum = refl; below_all = refl; minimum_of_none = refl; minimum_of_one = refl }

record Members : Type 0 where
  second : tells Member (ns (1 ∷ 2 ∷ []) ∷ n 2 ∷ []) ≡ yes
  not_there : tells Member (ns (1 ∷ 2 ∷ []) ∷ n 3 ∷ []) ≡ no
  of_none : tells Member (ns [] ∷ n 0 ∷ []) ≡ no
  undefined : tells Member (ns (1 ∷ []) ∷ None ∷ []) ≡ no
  elements : global_cost Member (2 ∷ 9 ∷ []) ≡ 3

members : Members
unfolding line_of at int_at set_at items_at row_at index_at as_bool as_int as_set as_items as_index as_row ordered toward contains intersection union complement missing_from same_set bound_of bounds_of folded_ends fold_ends
members = record { second = refl; not_there = refl; of_none = refl; undefined = refl; elements = refl }
