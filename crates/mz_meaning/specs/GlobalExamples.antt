-- Worked examples of globals.
use Rattle.std.specs.Prelude.{◌≡◌, refl, ℕ, ◌+◌, ℤ, pos, negsuc, true, false, List, [], ◌∷◌, length, Option, Some, None}
use Rattle.mz_base.specs.declared.kind.Kind.TheVariants as kind
use Rattle.mz_value.specs.Contents.{Content}
use Rattle.mz_value.specs.Shown.{range_elements}
use Rattle.mz_core.specs.Tree.{Tree, Decl, declares}
use Rattle.mz_operations.specs.Views.{as_bool, as_int, as_case, as_set, as_text, as_items, as_index, as_row, as_ordinal, as_element, as_pair, as_option, is_single, enum_of}
use Rattle.mz_operations.specs.Arguments.{at, bool_at, int_at, case_at, ordinal_at, element_at, option_at, set_at, enum_at, text_at, items_at, row_at, index_at, pair}
use Rattle.mz_operations.specs.Numbers.{connected, ordered, computed, signed, folded, raised, toward, nearer, quantified}
use Rattle.mz_operations.specs.Sets.{contains, end_of, up_to, same_set, intersection, union, complement, missing_from}
use Rattle.mz_operations.specs.Arrays.{fold_from, summand, instance, place_count, with_index, shape_from}
use Rattle.mz_operations.specs.Values.{equality, scalar_value, made_value, bounding_value, is_bounded, is_fixable}
use Rattle.mz_operations.specs.Answers.{is_mismatched, negative, is_failed, limited}
use Rattle.mz_operations.specs.Costs.{scalar_counts, made_counts, bounding_counts, counts_from, cost}
use Rattle.mz_operations.specs.Bounds.{bound_of, bounds_of, is_settled, toward_ends, arith_ends, sign_ends, extreme_from, fold_ends, folded_ends, raised_ends, index_tuples, is_reached, reached, branch_bound, branch_bounds, if_bounds, combined_upper}
use Rattle.mz_operations.specs.RowBounds.{bounds_at, each, ends_at, upper_at, elements_at, all_ends_at, all_uppers_at, uppers_before, scalar_bounds, made_bounds, lower_of, upper_of, value_by_bounds}
use Rattle.mz_operations.specs.Lines.{lines, line_at, place_in}
use Rattle.mz_globals.specs.declared.global.Global.TheVariants.{AllDifferent, CountOf, Link, Cumulative, Disjunctive, Regular}
use Rattle.mz_globals.specs.Names.{globals, named_at}
use Rattle.mz_globals.specs.Table.{line_of}
use Rattle.mz_meaning.specs.Cells.{Par, Blank, Bare, Env, bind, no_names, par_value}
use Rattle.mz_meaning.specs.Globals.{global_of, call_cost}
use Rattle.mz_meaning.specs.Chains.{innermost_of, innermost_in, back_of, back_in, backed}
use Rattle.mz_meaning.specs.Evaluation.{eval}
use Rattle.mz_meaning.specs.Written.{int, var_int, bool, var_bool, list_of, num, slot, fun, bin, to_var, list, choose, let_in, range, within, from, decl, i, b, row, var_number, run, result, gives, is, is_undefined, stops, given, by_zero}
use Rattle.mz_meaning.specs.RowNumbers as op

-- ---- the globals' numbers, by their places among the globals

abbrev numbered : ℕ → ℕ
numbered place = length lines + place

abbrev all_different : ℕ
all_different = numbered 0

abbrev count_of : ℕ
count_of = numbered 15

abbrev link : ℕ
link = numbered 25

abbrev cumulative : ℕ
cumulative = numbered 28

abbrev disjunctive : ℕ
disjunctive = numbered 29

record Numbered : Type 0 where
  is_all_different : global_of all_different ≡ Some AllDifferent
  is_count : global_of count_of ≡ Some CountOf
  is_link : global_of link ≡ Some Link
  is_cumulative : global_of cumulative ≡ Some Cumulative
  is_disjunctive : global_of disjunctive ≡ Some Disjunctive
  plus_is_none : global_of op.plus ≡ None
  none_behind_the_last : global_of (numbered 39) ≡ None

numbers : Numbered
unfolding eval lines line_at place_in innermost_of innermost_in back_of back_in backed scalar_value made_value bounding_value equality is_bounded is_fixable as_bool as_int as_case as_set as_text as_items as_index as_row as_ordinal as_element as_pair as_option is_single enum_of at bool_at int_at case_at ordinal_at element_at option_at set_at enum_at text_at items_at row_at index_at pair connected ordered computed signed folded raised toward nearer quantified contains end_of up_to same_set fold_from summand instance place_count with_index shape_from is_mismatched negative is_failed limited scalar_counts made_counts bounding_counts counts_from cost bound_of bounds_of is_settled toward_ends arith_ends sign_ends extreme_from fold_ends folded_ends raised_ends index_tuples is_reached reached branch_bound branch_bounds if_bounds combined_upper bounds_at each ends_at upper_at elements_at all_ends_at all_uppers_at uppers_before scalar_bounds made_bounds lower_of upper_of value_by_bounds range_elements intersection union complement missing_from globals named_at line_of
numbers = record { is_all_different = refl; is_count = refl; is_link = refl; is_cumulative = refl; is_disjunctive = refl; plus_is_none = refl; none_behind_the_last = refl }

-- ---- of par arguments

-- an array of two, which begins at a column
abbrev two : ℕ → ℤ → ℤ → Tree
two at x y = list at int (num (at + 1) x ∷ num (at + 4) y ∷ [])

abbrev one : ℕ → ℤ → Tree
one at x = list at int (num (at + 1) x ∷ [])

record OfParArguments : Type 0 where
  -- all_different([1, 2]): work 3 of the array, 1, and the cost of two elements, 5
  different : result (fun 1 bool all_different (two 15 (pos 1) (pos 2) ∷ [])) ≡ is (b true) 9
  -- all_different([1, 1])
  equal : result (fun 1 bool all_different (two 15 (pos 1) (pos 1) ∷ [])) ≡ is (b false) 9
  -- all_different([1 div 0]): of an undefined argument it is false, and no element counts
  undefined : result (fun 1 bool all_different (list 15 int (by_zero 16 ∷ []) ∷ [])) ≡ is (b false) 7
  -- count([1, 1 div 0], 1): the number is undefined
  undefined_number : result (fun 1 int count_of (list 7 int (num 8 (pos 1) ∷ by_zero 11 ∷ []) ∷ num 21 (pos 1) ∷ [])) ≡ is_undefined 9
  -- disjunctive([1, 2], [1]): arrays that don't fit
  misfit : result (fun 1 bool disjunctive (two 13 (pos 1) (pos 2) ∷ one 21 (pos 1) ∷ [])) ≡ stops kind.IndexMismatch 1 (pos 0)
  -- disjunctive([1, 2], [-1]): this comes first
  misfit_first : result (fun 1 bool disjunctive (two 13 (pos 1) (pos 2) ∷ one 21 (negsuc 0) ∷ [])) ≡ stops kind.IndexMismatch 1 (pos 0)
  -- disjunctive([2305843009213693952, 1], [1, -1]): then what is negative
  negative : result (fun 1 bool disjunctive (two 13 (pos 2305843009213693952) (pos 1) ∷ two 39 (pos 1) (negsuc 0) ∷ [])) ≡ stops kind.NegativeArgument 1 (negsuc 0)
  -- disjunctive([2305843009213693952], [1]): then a sum
  outside : result (fun 1 bool disjunctive (one 13 (pos 2305843009213693952) ∷ one 36 (pos 1) ∷ [])) ≡ stops kind.Bounds 1 (pos 2305843009213693953)
  -- disjunctive([1 div 0], [-1]): an undefined array fits any other one, but the other is negative all the same
  beside_undefined : result (fun 1 bool disjunctive (list 13 int (by_zero 14 ∷ []) ∷ one 24 (negsuc 0) ∷ [])) ≡ stops kind.NegativeArgument 1 (negsuc 0)
  -- regular([1], -1, 1, d, 1, {1}): a negative number of states counts as 0
  no_states : call_cost Regular (par_value (row (pos 1) (pos 1) (i (pos 1) ∷ [])) ∷ par_value (i (negsuc 0)) ∷ par_value (i (pos 1)) ∷ Par None ∷ par_value (i (pos 1)) ∷ Par None ∷ []) ≡ 2

of_par_arguments : OfParArguments
unfolding eval lines line_at place_in innermost_of innermost_in back_of back_in backed scalar_value made_value bounding_value equality is_bounded is_fixable as_bool as_int as_case as_set as_text as_items as_index as_row as_ordinal as_element as_pair as_option is_single enum_of at bool_at int_at case_at ordinal_at element_at option_at set_at enum_at text_at items_at row_at index_at pair connected ordered computed signed folded raised toward nearer quantified contains end_of up_to same_set fold_from summand instance place_count with_index shape_from is_mismatched negative is_failed limited scalar_counts made_counts bounding_counts counts_from cost bound_of bounds_of is_settled toward_ends arith_ends sign_ends extreme_from fold_ends folded_ends raised_ends index_tuples is_reached reached branch_bound branch_bounds if_bounds combined_upper bounds_at each ends_at upper_at elements_at all_ends_at all_uppers_at uppers_before scalar_bounds made_bounds lower_of upper_of value_by_bounds range_elements intersection union complement missing_from globals named_at line_of
of_par_arguments = record { different = refl; equal = refl; undefined = refl; undefined_number = refl; misfit = refl; misfit_first = refl; negative = refl; outside = refl; beside_undefined = refl; no_states = refl }

-- ---- of var arguments

-- x is a var int in 0..3, d one in -1..2, q a var bool that is false; with these values, or none
abbrev scope : Option Content → Option Content → Env
scope x d = bind 5 (var_number (pos 0) (pos 3) x) (bind 6 (var_number (negsuc 0) (pos 2) d) (bind 7 (var_number (pos 0) (pos 1) (Some (b false))) no_names))

abbrev x : ℕ → Tree
x at = slot at var_int 5

-- [x, 1]
abbrev with_x : ℕ → Tree
with_x at = list at var_int (x (at + 1) ∷ to_var (num (at + 4) (pos 1)) ∷ [])

-- if q then [1 div 0] else [1 div 0] endif
abbrev unshaped : ℕ → Tree
unshaped at = choose at (list_of var_int) (slot (at + 3) var_bool 7) (list (at + 10) int (by_zero (at + 11) ∷ [])) (Some (list (at + 25) int (by_zero (at + 26) ∷ [])))

-- let { var 1..2: y } in y = 1, whose declaration begins at 34
abbrev y : Decl
y = decl 44 20 (from 34 (within var_int (range 38 (pos 1) (pos 2)))) None

abbrev free : Tree
free = let_in 28 var_bool (declares y ∷ []) (bin 51 var_bool (slot 51 var_int 20) op.equal (to_var (num 55 (pos 1))))

record OfVarArguments : Type 0 where
  -- all_different([x, 1]) where x is 1, 2, undefined, and without values
  equal : run [] given (scope (Some (i (pos 1))) None) (fun 1 var_bool all_different (with_x 15 ∷ [])) ≡ gives (var_number (pos 0) (pos 1) (Some (b false))) 9
  different : run [] given (scope (Some (i (pos 2))) None) (fun 1 var_bool all_different (with_x 15 ∷ [])) ≡ gives (var_number (pos 0) (pos 1) (Some (b true))) 9
  undefined : run [] given (scope None None) (fun 1 var_bool all_different (with_x 15 ∷ [])) ≡ gives (var_number (pos 0) (pos 1) (Some (b false))) 9
  without_values : run [] Bare (scope None None) (fun 1 var_bool all_different (with_x 15 ∷ [])) ≡ gives (var_number (pos 0) (pos 1) None) 9
  -- count([x, 1], 1): as many as there are elements at most
  number : run [] given (scope (Some (i (pos 0))) None) (fun 1 var_int count_of (with_x 7 ∷ to_var (num 15 (pos 1)) ∷ [])) ≡ gives (var_number (pos 0) (pos 2) (Some (i (pos 1)))) 8
  undefined_number : run [] given (scope None None) (fun 1 var_int count_of (with_x 7 ∷ to_var (num 15 (pos 1)) ∷ [])) ≡ gives (var_number (pos 0) (pos 2) None) 8
  -- disjunctive([x], [d]): a bound is negative, whatever the value is
  negative : run [] given (scope (Some (i (pos 0))) (Some (i (pos 1)))) (fun 1 var_bool disjunctive (list 13 var_int (x 14 ∷ []) ∷ list 18 var_int (slot 19 var_int 6 ∷ []) ∷ [])) ≡ stops kind.NegativeArgument 1 (negsuc 0)
  -- disjunctive([2305843009213693950], [x]): of a sum the greater bound is outside
  outside : run [] Bare (scope None None) (fun 1 var_bool disjunctive (list 13 var_int (to_var (num 14 (pos 2305843009213693950)) ∷ []) ∷ list 36 var_int (x 37 ∷ []) ∷ [])) ≡ stops kind.Bounds 1 (pos 2305843009213693953)
  -- disjunctive(if q then [1 div 0] else [1 div 0] endif, [x, 1]): an array without a shape fits any other one
  no_shape : run [] Bare (scope None None) (fun 1 var_bool disjunctive (unshaped 13 ∷ with_x 61 ∷ [])) ≡ gives (var_number (pos 0) (pos 1) None) 21
  -- link_set_to_booleans(1..1, [let { var 1..2: y } in y = 1]): no place for a free local
  local : run [] (Blank true) no_names (fun 1 var_bool link (to_var (range 22 (pos 1) (pos 1)) ∷ list 27 var_bool (free ∷ []) ∷ [])) ≡ stops kind.FreeInContext 34 (pos 0)

of_var_arguments : OfVarArguments
unfolding eval lines line_at place_in innermost_of innermost_in back_of back_in backed scalar_value made_value bounding_value equality is_bounded is_fixable as_bool as_int as_case as_set as_text as_items as_index as_row as_ordinal as_element as_pair as_option is_single enum_of at bool_at int_at case_at ordinal_at element_at option_at set_at enum_at text_at items_at row_at index_at pair connected ordered computed signed folded raised toward nearer quantified contains end_of up_to same_set fold_from summand instance place_count with_index shape_from is_mismatched negative is_failed limited scalar_counts made_counts bounding_counts counts_from cost bound_of bounds_of is_settled toward_ends arith_ends sign_ends extreme_from fold_ends folded_ends raised_ends index_tuples is_reached reached branch_bound branch_bounds if_bounds combined_upper bounds_at each ends_at upper_at elements_at all_ends_at all_uppers_at uppers_before scalar_bounds made_bounds lower_of upper_of value_by_bounds range_elements intersection union complement missing_from globals named_at line_of
of_var_arguments = record { equal = refl; different = refl; undefined = refl; without_values = refl; number = refl; undefined_number = refl; negative = refl; outside = refl; no_shape = refl; local = refl }
