-- Worked examples of arrays and their index sets.
use Rattle.std.specs.Prelude.{◌≡◌, refl, ℕ, ◌+◌, ℤ, pos, true, false, List, [], ◌∷◌, Option, Some, None}
use Rattle.mz_value.specs.Shown.{range_elements}
use Rattle.mz_core.specs.Program.{Function}
use Rattle.mz_core.specs.Tree.{Tree, declares, trees, branches}
use Rattle.mz_operations.specs.Views.{as_bool, as_int, as_case, as_set, as_text, as_items, as_index, as_row, as_ordinal, as_element, as_pair, as_option, is_single, enum_of}
use Rattle.mz_operations.specs.Arguments.{at, bool_at, int_at, case_at, ordinal_at, element_at, option_at, set_at, enum_at, text_at, items_at, row_at, index_at, pair}
use Rattle.mz_operations.specs.Numbers.{connected, ordered, computed, signed, folded, raised, toward, nearer, quantified}
use Rattle.mz_operations.specs.Sets.{contains, end_of, up_to, same_set}
use Rattle.mz_operations.specs.Arrays.{fold_from, summand, instance, place_count, with_index, shape_from}
use Rattle.mz_operations.specs.Values.{equality, scalar_value, made_value, bounding_value, is_bounded, is_fixable}
use Rattle.mz_operations.specs.Answers.{is_mismatched, negative, is_failed, limited}
use Rattle.mz_operations.specs.Costs.{scalar_counts, made_counts, bounding_counts, counts_from, cost}
use Rattle.mz_operations.specs.Bounds.{bound_of, bounds_of, is_settled, toward_ends, arith_ends, sign_ends, extreme_from, fold_ends, folded_ends, raised_ends, index_tuples, is_reached, reached, branch_bound, branch_bounds, if_bounds, combined_upper}
use Rattle.mz_operations.specs.RowBounds.{bounds_at, each, ends_at, upper_at, elements_at, all_ends_at, all_uppers_at, uppers_before, scalar_bounds, made_bounds, lower_of, upper_of, value_by_bounds}
use Rattle.mz_meaning.specs.Runs.{Answer, Out}
use Rattle.mz_meaning.specs.Cells.{Cell, Par, Unshaped, Bare, Env, bind, no_names}
use Rattle.mz_operations.specs.Lines.{lines, line_at, place_in}
use Rattle.mz_meaning.specs.Chains.{innermost_of, innermost_in, back_of, back_in, backed}
use Rattle.mz_meaning.specs.Evaluation.{eval}
use Rattle.mz_meaning.specs.Written.{col, int, var_int, var_bool, ints, list_of, table_of, num, lit, slot, fun, call, bin, to_var, list, access, choose, let_in, range, plain, indexed, decl, param, function, i, b, set, fromto, row, between, var_number, var_row, run, result, gives, is, is_undefined, stops, given, by_zero}
use Rattle.mz_base.specs.declared.kind.Kind.TheVariants as kind
use Rattle.mz_core.specs.Tree as tree
use Rattle.mz_meaning.specs.RowNumbers as op

-- an array of integers under declared index sets, in a let whose body asks for it
abbrev declared : List (Option Tree) → Tree → Tree → Tree
declared ixs value body = let_in 1 int (declares (decl 30 1 (indexed (list_of int) ixs None) (Some value)) ∷ []) body

abbrev a : Tree
a = slot 50 (list_of int) 1

abbrev one_two : Tree
one_two = list 34 int (num 35 (pos 1) ∷ num 38 (pos 2) ∷ [])

abbrev from_to : ℕ → ℤ → ℤ → Option Tree
from_to at x y = Some (range at x y)

-- [| 1, 2 | 3, 4 |], with work 5
abbrev two_by_two : Tree
two_by_two = tree.node (col 34) (table_of int) (tree.rows (tree.rows_of ((num 37 (pos 1) ∷ num 40 (pos 2) ∷ []) ∷ (num 44 (pos 3) ∷ num 47 (pos 4) ∷ []) ∷ [])))

-- function int: f(array[1..2] of int: n) = n[2]; function array[0..1] of int: g(array[int] of int: n) = n;
abbrev fs : List Function
fs = function (param 10 (indexed (list_of int) (from_to 20 (pos 1) (pos 2) ∷ []) None) ∷ []) (plain int) (access 60 int (slot 60 (list_of int) 10) (num 62 (pos 2)))
    ∷ function (param 11 (indexed (list_of int) (None ∷ []) None) ∷ []) (indexed (list_of int) (from_to 20 (pos 0) (pos 1) ∷ []) None) (slot 60 (list_of int) 11)
    ∷ []

abbrev value : Tree → Answer Cell
value e = run fs Bare no_names e

-- An array takes its declared index sets where the number of its elements fits
record IndexSets : Type 0 where
  -- let { array[0..1] of int: a = [1, 2] } in a[1] is 2: work 4 of the index set, 3 of the value, 2 elements, 3 of the access and 1
  taken : result (declared (from_to 7 (pos 0) (pos 1) ∷ []) one_two (access 50 int a (num 52 (pos 1)))) ≡ is (i (pos 2)) 13
  -- let { array[int] of int: a = [1, 2] } in a[1]: its own
  own : result (declared (None ∷ []) one_two (access 50 int a (num 52 (pos 1)))) ≡ is (i (pos 1)) 9
  -- let { array[0..2] of int: a = [1, 2] } in 7: else IndexMismatch, at the value
  not_as_many : result (declared (from_to 7 (pos 0) (pos 2) ∷ []) one_two (num 50 (pos 7))) ≡ stops kind.IndexMismatch 34 (pos 0)
  -- let { array[0..2] of int: a = [1 div 0] } in 7: an undefined array isn't tested
  undefined_array : result (declared (from_to 7 (pos 0) (pos 2) ∷ []) (list 34 int (by_zero 35 ∷ [])) (num 50 (pos 7))) ≡ is_undefined 14
  -- let { array[1..4, 1..1] of int: a = [| 1, 2 | 3, 4 |] } in a[3, 1]: all elements count, whatever their rows
  other_rows : result (let_in 1 int (declares (decl 30 1 (indexed (table_of int) (from_to 7 (pos 1) (pos 4) ∷ from_to 13 (pos 1) (pos 1) ∷ []) None) (Some two_by_two)) ∷ []) (tree.node (col 50) int (tree.access (slot 50 (table_of int) 1) (trees (num 52 (pos 3) ∷ num 55 (pos 1) ∷ []))))) ≡ is (i (pos 3)) 22
  -- array[int, 1..1] of int: a = [1, 2], which a data file may say: `int` takes the value's own set of that place, and a list has one
  own_of_two : result (let_in 1 int (declares (decl 30 1 (indexed (table_of int) (None ∷ from_to 13 (pos 1) (pos 1) ∷ []) None) (Some one_two)) ∷ []) (num 50 (pos 7))) ≡ stops kind.IndexMismatch 34 (pos 0)
  -- f([1, 2])
  argument : value (call 1 int 0 (one_two ∷ [])) ≡ is (i (pos 2)) 11
  -- f([]): at the argument
  argument_not_as_long : value (call 1 int 0 (list 3 int [] ∷ [])) ≡ stops kind.IndexMismatch 3 (pos 0)
  -- g([1, 2])[0]: the result's index set is 0..1
  result_moved : value (access 1 int (call 1 (list_of int) 1 (one_two ∷ [])) (num 11 (pos 0))) ≡ is (i (pos 1)) 11
  -- g([1]): at the body
  result_not_as_long : value (call 1 (list_of int) 1 (list 3 int (num 4 (pos 1) ∷ []) ∷ [])) ≡ stops kind.IndexMismatch 60 (pos 0)

index_sets : IndexSets
unfolding eval lines line_at place_in innermost_of innermost_in back_of back_in backed scalar_value made_value bounding_value equality is_bounded is_fixable as_bool as_int as_case as_set as_text as_items as_index as_row as_ordinal as_element as_pair as_option is_single enum_of at bool_at int_at case_at ordinal_at element_at option_at set_at enum_at text_at items_at row_at index_at pair connected ordered computed signed folded raised toward nearer quantified contains end_of up_to same_set fold_from summand instance place_count with_index shape_from is_mismatched negative is_failed limited scalar_counts made_counts bounding_counts counts_from cost bound_of bounds_of is_settled toward_ends arith_ends sign_ends extreme_from fold_ends folded_ends raised_ends index_tuples is_reached reached branch_bound branch_bounds if_bounds combined_upper bounds_at each ends_at upper_at elements_at all_ends_at all_uppers_at uppers_before scalar_bounds made_bounds lower_of upper_of value_by_bounds range_elements
index_sets = record { taken = refl; own = refl; not_as_many = refl; undefined_array = refl; other_rows = refl; own_of_two = refl; argument = refl; argument_not_as_long = refl; result_moved = refl; result_not_as_long = refl }

-- Rows, `array2d` and `if`
record Shapes : Type 0 where
  -- [| 1, 2 | 3 |]: rows of two lengths
  rows_of_two_lengths : result (tree.node (col 34) (table_of int) (tree.rows (tree.rows_of ((num 37 (pos 1) ∷ num 40 (pos 2) ∷ []) ∷ (num 44 (pos 3) ∷ []) ∷ [])))) ≡ stops kind.IndexMismatch 34 (pos 0)
  -- [| 1 div 0, 2 | 3 |]: with an undefined element they aren't compared
  undefined_row : result (tree.node (col 34) (table_of int) (tree.rows (tree.rows_of ((by_zero 37 ∷ num 46 (pos 2) ∷ []) ∷ (num 50 (pos 3) ∷ []) ∷ [])))) ≡ is_undefined 7
  -- [| 1, 2 | 3, 4 |][2, 1]
  access_to_a_table : result (tree.node (col 34) int (tree.access two_by_two (trees (num 53 (pos 2) ∷ num 56 (pos 1) ∷ [])))) ≡ is (i (pos 3)) 8
  -- array2d(1..2, 1..2, [1])
  shape_that_does_not_fit : result (fun 1 (table_of int) op.array2d (range 9 (pos 1) (pos 2) ∷ range 15 (pos 1) (pos 2) ∷ list 21 int (num 22 (pos 1) ∷ []) ∷ [])) ≡ stops kind.IndexMismatch 1 (pos 0)
  -- array2d(1..2, 1..2, [1 div 0])
  undefined_in_a_shape : result (fun 1 (table_of int) op.array2d (range 9 (pos 1) (pos 2) ∷ range 15 (pos 1) (pos 2) ∷ list 21 int (by_zero 22 ∷ []) ∷ [])) ≡ is_undefined 15
  -- array2d(1..1, 1..1 div 0, [1])
  undefined_index_set : result (fun 1 (table_of int) op.array2d (range 9 (pos 1) (pos 1) ∷ bin 15 ints (num 15 (pos 1)) op.up_to (by_zero 18) ∷ list 27 int (num 28 (pos 1) ∷ []) ∷ [])) ≡ is_undefined 16
  -- array1d(0..1, [1, 2])[0]
  given_index_set : result (access 1 int (fun 1 (list_of int) op.array1d (range 9 (pos 0) (pos 1) ∷ list 15 int (num 16 (pos 1) ∷ num 19 (pos 2) ∷ []) ∷ [])) (num 23 (pos 0))) ≡ is (i (pos 1)) 13
  -- index_set(array1d(0..1, [1, 2]))
  asked_for : result (fun 1 ints op.index_set (fun 11 (list_of int) op.array1d (range 19 (pos 0) (pos 1) ∷ list 25 int (num 26 (pos 1) ∷ num 29 (pos 2) ∷ []) ∷ []) ∷ [])) ≡ is (set (fromto (pos 0) (pos 1))) 15

shapes : Shapes
unfolding eval lines line_at place_in innermost_of innermost_in back_of back_in backed scalar_value made_value bounding_value equality is_bounded is_fixable as_bool as_int as_case as_set as_text as_items as_index as_row as_ordinal as_element as_pair as_option is_single enum_of at bool_at int_at case_at ordinal_at element_at option_at set_at enum_at text_at items_at row_at index_at pair connected ordered computed signed folded raised toward nearer quantified contains end_of up_to same_set fold_from summand instance place_count with_index shape_from is_mismatched negative is_failed limited scalar_counts made_counts bounding_counts counts_from cost bound_of bounds_of is_settled toward_ends arith_ends sign_ends extreme_from fold_ends folded_ends raised_ends index_tuples is_reached reached branch_bound branch_bounds if_bounds combined_upper bounds_at each ends_at upper_at elements_at all_ends_at all_uppers_at uppers_before scalar_bounds made_bounds lower_of upper_of value_by_bounds range_elements
shapes = record { rows_of_two_lengths = refl; undefined_row = refl; access_to_a_table = refl; shape_that_does_not_fit = refl; undefined_in_a_shape = refl; undefined_index_set = refl; given_index_set = refl; asked_for = refl }

-- q is a var bool; a par array of two, and an undefined one
abbrev scope : Env
scope = bind 7 (var_number (pos 0) (pos 1) (Some (b false))) no_names

abbrev chosen : Tree → Tree → Answer Cell
chosen x y = run [] given scope (choose 1 (list_of var_int) (slot 4 var_bool 7) x (Some y))

abbrev q : Tree
q = slot 4 var_bool 7

-- two var Booleans
abbrev two : Tree
two = list 34 var_bool (q ∷ q ∷ [])

abbrev no_set : ℕ → Tree
no_set at = bin at ints (num at (pos 1)) op.up_to (by_zero (at + 3))

-- if q then [1 div 0] else [1 div 0] endif
abbrev unshaped : Tree
unshaped = choose 1 (list_of var_int) q (list 34 int (by_zero 35 ∷ [])) (Some (list 50 int (by_zero 51 ∷ [])))

abbrev square : Tree
square = fun 1 (table_of var_int) op.array2d (range 9 (pos 1) (pos 2) ∷ range 15 (pos 1) (pos 2) ∷ unshaped ∷ [])

-- An array without a shape: its index sets are compared with nothing, and it keeps its number of dimensions alone
record NoShape : Type 0 where
  -- array1d(1..1 div 0, [q, q])
  undefined_index_set : run [] given scope (fun 1 (list_of var_bool) op.array1d (no_set 9 ∷ two ∷ [])) ≡ gives (Unshaped 1) 14
  -- array2d(1..2, 1..1 div 0, [q, q])
  undefined_second_set : run [] Bare scope (fun 1 (table_of var_bool) op.array2d (range 9 (pos 1) (pos 2) ∷ no_set 15 ∷ two ∷ [])) ≡ gives (Unshaped 2) 18
  -- array1d(unshaped)
  as_a_list : run [] given scope (fun 1 (list_of var_int) op.as_list (unshaped ∷ [])) ≡ gives (Unshaped 1) 14
  -- array2d(1..2, 1..2, unshaped): the number of dimensions is the result's
  as_a_table : run [] given scope square ≡ gives (Unshaped 2) 22
  -- index_set_1of2(array2d(1..2, 1..2, unshaped))
  first_index_set : run [] given scope (fun 1 ints op.index_set_1of2 (square ∷ [])) ≡ is (set []) 24

no_shape : NoShape
unfolding eval lines line_at place_in innermost_of innermost_in back_of back_in backed scalar_value made_value bounding_value equality is_bounded is_fixable as_bool as_int as_case as_set as_text as_items as_index as_row as_ordinal as_element as_pair as_option is_single enum_of at bool_at int_at case_at ordinal_at element_at option_at set_at enum_at text_at items_at row_at index_at pair connected ordered computed signed folded raised toward nearer quantified contains end_of up_to same_set fold_from summand instance place_count with_index shape_from is_mismatched negative is_failed limited scalar_counts made_counts bounding_counts counts_from cost bound_of bounds_of is_settled toward_ends arith_ends sign_ends extreme_from fold_ends folded_ends raised_ends index_tuples is_reached reached branch_bound branch_bounds if_bounds combined_upper bounds_at each ends_at upper_at elements_at all_ends_at all_uppers_at uppers_before scalar_bounds made_bounds lower_of upper_of value_by_bounds range_elements
no_shape = record { undefined_index_set = refl; undefined_second_set = refl; as_a_list = refl; as_a_table = refl; first_index_set = refl }

abbrev heavy : Cell → ℕ → ℕ → Answer Cell
heavy c n k = Out c (record { work = n; taken = []; weight = k })

-- An `if` under a var condition has the hull of its branches, element by element; an undefined par array is left out
record ArrayBranches : Type 0 where
  -- if q then [1, 2] else [5, 0] endif, where q is false; the elements of both branches are weight
  two_arrays : chosen one_two (list 50 int (num 51 (pos 5) ∷ num 54 (pos 0) ∷ [])) ≡ heavy (var_row (pos 1) (pos 2) (between (pos 1) (pos 5) ∷ between (pos 0) (pos 2) ∷ []) (Some (row (pos 1) (pos 2) (i (pos 5) ∷ i (pos 0) ∷ [])))) 8 4
  -- if q then [1 div 0] else [5, 0] endif
  undefined_branch : chosen (list 34 int (by_zero 35 ∷ [])) (list 50 int (num 51 (pos 5) ∷ num 54 (pos 0) ∷ [])) ≡ heavy (var_row (pos 1) (pos 2) (between (pos 5) (pos 5) ∷ between (pos 0) (pos 0) ∷ []) (Some (row (pos 1) (pos 2) (i (pos 5) ∷ i (pos 0) ∷ [])))) 10 2
  -- if q then [1, 2] else [1 div 0] endif
  chosen_undefined : chosen one_two (list 50 int (by_zero 51 ∷ [])) ≡ heavy (var_row (pos 1) (pos 2) (between (pos 1) (pos 1) ∷ between (pos 2) (pos 2) ∷ []) None) 10 2
  -- if q then [1 div 0] else [1 div 0] endif has no shape
  both_undefined : chosen (list 34 int (by_zero 35 ∷ [])) (list 50 int (by_zero 51 ∷ [])) ≡ heavy (Unshaped 1) 12 0
  -- if q then 1 elseif true then 2 else 1 div 0 endif: a par condition that is true makes its branch the last
  then_a_par_condition : run [] given scope (tree.node (col 1) var_int (tree.choice (branches ((slot 4 var_bool 7, to_var (num 11 (pos 1))) ∷ (lit 20 true, to_var (num 30 (pos 2))) ∷ [])) (tree.just (to_var (by_zero 37))))) ≡ gives (var_number (pos 1) (pos 2) (Some (i (pos 2)))) 5
  -- f([1, 2]) of above: the elements of its argument are weight
  weight_of_an_argument : run fs given no_names (call 1 int 0 (one_two ∷ [])) ≡ heavy (Par (Some (i (pos 2)))) 11 2
  -- g([1, 2]): and those of its result
  weight_of_a_result : run fs given no_names (call 1 (list_of int) 1 (one_two ∷ [])) ≡ heavy (Par (Some (row (pos 0) (pos 1) (i (pos 1) ∷ i (pos 2) ∷ [])))) 9 4
  -- if q then [1, 2] else [5] endif
  two_lengths : chosen one_two (list 50 int (num 51 (pos 5) ∷ [])) ≡ stops kind.IndexMismatch 1 (pos 0)

array_branches : ArrayBranches
unfolding eval lines line_at place_in innermost_of innermost_in back_of back_in backed scalar_value made_value bounding_value equality is_bounded is_fixable as_bool as_int as_case as_set as_text as_items as_index as_row as_ordinal as_element as_pair as_option is_single enum_of at bool_at int_at case_at ordinal_at element_at option_at set_at enum_at text_at items_at row_at index_at pair connected ordered computed signed folded raised toward nearer quantified contains end_of up_to same_set fold_from summand instance place_count with_index shape_from is_mismatched negative is_failed limited scalar_counts made_counts bounding_counts counts_from cost bound_of bounds_of is_settled toward_ends arith_ends sign_ends extreme_from fold_ends folded_ends raised_ends index_tuples is_reached reached branch_bound branch_bounds if_bounds combined_upper bounds_at each ends_at upper_at elements_at all_ends_at all_uppers_at uppers_before scalar_bounds made_bounds lower_of upper_of value_by_bounds range_elements
array_branches = record { two_arrays = refl; undefined_branch = refl; chosen_undefined = refl; both_undefined = refl; then_a_par_condition = refl; weight_of_an_argument = refl; weight_of_a_result = refl; two_lengths = refl }
