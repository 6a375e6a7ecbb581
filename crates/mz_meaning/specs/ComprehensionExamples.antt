-- Worked examples of options and of comprehensions.
use Rattle.std.specs.Prelude.{◌≡◌, refl, ℕ, ℤ, pos, true, false, List, [], ◌∷◌, Some, None}
use Rattle.mz_value.specs.Contents.{Content}
use Rattle.mz_value.specs.Shown.{range_elements}
use Rattle.mz_core.specs.Types.{PlainType}
use Rattle.mz_core.specs.Tree.{Tree, declares}
use Rattle.mz_operations.specs.Views.{as_bool, as_int, as_case, as_set, as_text, as_items, as_index, as_row, as_ordinal, as_element, as_pair, as_option, is_single, enum_of}
use Rattle.mz_operations.specs.Arguments.{at, bool_at, int_at, case_at, ordinal_at, element_at, option_at, set_at, enum_at, text_at, items_at, row_at, index_at, pair}
use Rattle.mz_operations.specs.Numbers.{connected, ordered, computed, signed, folded, raised, toward, nearer, quantified}
use Rattle.mz_operations.specs.Sets.{contains, end_of, up_to, same_set}
use Rattle.mz_operations.specs.Arrays.{fold_from, summand, instance, place_count, with_index, shape_from}
use Rattle.mz_operations.specs.Values.{equality, scalar_value, made_value, bounding_value, is_bounded, is_fixable}
use Rattle.mz_operations.specs.Answers.{is_mismatched, negative, is_failed, limited}
use Rattle.mz_operations.specs.Costs.{scalar_counts, made_counts, bounding_counts, counts_from, cost}
use Rattle.mz_operations.specs.Bounds.{Bound, bound_of, bounds_of, is_settled, toward_ends, arith_ends, sign_ends, extreme_from, fold_ends, folded_ends, raised_ends, index_tuples, is_reached, reached, branch_bound, branch_bounds, if_bounds, combined_upper}
use Rattle.mz_operations.specs.RowBounds.{bounds_at, each, ends_at, upper_at, elements_at, all_ends_at, all_uppers_at, uppers_before, scalar_bounds, made_bounds, lower_of, upper_of, value_by_bounds}
use Rattle.mz_meaning.specs.Cells.{Bare, Env, bind, no_names}
use Rattle.mz_operations.specs.Lines.{lines, line_at, place_in}
use Rattle.mz_meaning.specs.Chains.{innermost_of, innermost_in, back_of, back_in, backed}
use Rattle.mz_meaning.specs.Evaluation.{eval}
use Rattle.mz_meaning.specs.Written.{int, var_int, bool, var_bool, opt_int, var_opt_int, ints, var_ints, list_of, num, lit, slot, fun, bin, to_var, to_opt, list, comp, gen, let_in, range, within, decl, i, b, set, fromto, row, between, var_number, var_set, var_row, run, result, gives, is, is_undefined, given, absent, by_zero}
use Rattle.mz_value.specs.Contents as values
use Rattle.mz_core.specs.declared.types.Base.TheVariants as base
use Rattle.mz_meaning.specs.RowNumbers as op

-- from 1 to 3, with work 4
abbrev one_to_three : ℕ → Tree
one_to_three at = range at (pos 1) (pos 3)

abbrev opt_bool : PlainType
opt_bool = record { var = false; opt = true; base = base.Bool; dims = [] }

abbrev absent_int : ℕ → Tree
absent_int at = absent at opt_int

-- An absent value is a value, and is different from an undefined one
record AbsentValues : Type 0 where
  -- sum([<>, 2])
  summand_of_nothing : result (fun 1 int op.sum_of_options (list 5 opt_int (absent_int 6 ∷ to_opt (num 10 (pos 2)) ∷ []) ∷ [])) ≡ is (i (pos 2)) 7
  -- forall([<>, true]): absent counts as true
  absent_in_forall : result (fun 1 bool op.forall_options (list 8 opt_bool (absent 9 opt_bool ∷ to_opt (lit 13 true) ∷ []) ∷ [])) ≡ is (b true) 7
  -- exists([<>, false]): absent counts as false
  absent_in_exists : result (fun 1 bool op.exists_options (list 8 opt_bool (absent 9 opt_bool ∷ to_opt (lit 13 false) ∷ []) ∷ [])) ≡ is (b false) 7
  -- count([<>, true])
  absent_in_count : result (fun 1 int op.count_options (list 7 opt_bool (absent 8 opt_bool ∷ to_opt (lit 12 true) ∷ []) ∷ [])) ≡ is (i (pos 1)) 7
  -- <> = <>
  both_absent : result (bin 1 bool (absent_int 1) op.equal (absent_int 6)) ≡ is (b true) 4
  -- <> = 0
  one_absent : result (bin 1 bool (absent_int 1) op.equal (to_opt (num 6 (pos 0)))) ≡ is (b false) 4
  -- <> != 0
  one_absent_differs : result (bin 1 bool (absent_int 1) op.unequal (to_opt (num 6 (pos 0)))) ≡ is (b true) 4
  -- deopt(<>)
  value_of_nothing : result (fun 1 int op.deopt (absent_int 7 ∷ [])) ≡ is_undefined 3
  -- occurs(<>)
  occurs_not : result (fun 1 bool op.occurs (absent_int 8 ∷ [])) ≡ is (b false) 3
  -- let { opt 1..0: o = <> } in 7: nothing lies in an empty set, not even an absent value
  absent_in_nothing : result (let_in 1 int (declares (decl 17 1 (within opt_int (range 11 (pos 1) (pos 0))) (Some (absent_int 21))) ∷ []) (num 29 (pos 7))) ≡ is_undefined 7
  -- let { opt 1..1: o = <> } in 7
  absent_in_something : result (let_in 1 int (declares (decl 17 1 (within opt_int (range 11 (pos 1) (pos 1))) (Some (absent_int 21))) ∷ []) (num 29 (pos 7))) ≡ is (i (pos 7)) 7

absent_values : AbsentValues
unfolding eval lines line_at place_in innermost_of innermost_in back_of back_in backed scalar_value made_value bounding_value equality is_bounded is_fixable as_bool as_int as_case as_set as_text as_items as_index as_row as_ordinal as_element as_pair as_option is_single enum_of at bool_at int_at case_at ordinal_at element_at option_at set_at enum_at text_at items_at row_at index_at pair connected ordered computed signed folded raised toward nearer quantified contains end_of up_to same_set fold_from summand instance place_count with_index shape_from is_mismatched negative is_failed limited scalar_counts made_counts bounding_counts counts_from cost bound_of bounds_of is_settled toward_ends arith_ends sign_ends extreme_from fold_ends folded_ends raised_ends index_tuples is_reached reached branch_bound branch_bounds if_bounds combined_upper bounds_at each ends_at upper_at elements_at all_ends_at all_uppers_at uppers_before scalar_bounds made_bounds lower_of upper_of value_by_bounds range_elements
absent_values = record { summand_of_nothing = refl; absent_in_forall = refl; absent_in_exists = refl; absent_in_count = refl; both_absent = refl; one_absent = refl; one_absent_differs = refl; value_of_nothing = refl; occurs_not = refl; absent_in_nothing = refl; absent_in_something = refl }

-- Each value that is given to a name counts 1; the first name varies slowest
record Generators : Type 0 where
  -- [n | n in 1..3]: 4 of the set, 1 and 1 for each element, and 1
  one_name : result (comp 1 int (slot 2 int 1) (gen (1 ∷ []) (one_to_three 11) None ∷ [])) ≡ is (row (pos 1) (pos 3) (i (pos 1) ∷ i (pos 2) ∷ i (pos 3) ∷ [])) 11
  -- [10 * n + k | n, k in 1..2]
  two_names : result (comp 1 int (bin 2 int (bin 2 int (num 2 (pos 10)) op.times (slot 7 int 1)) op.plus (slot 11 int 2)) (gen (1 ∷ 2 ∷ []) (range 23 (pos 1) (pos 2)) None ∷ [])) ≡ is (row (pos 1) (pos 4) (i (pos 11) ∷ i (pos 12) ∷ i (pos 21) ∷ i (pos 22) ∷ [])) 39
  -- [k | n in 1..3, k in n..2]: the second set is evaluated for each element of the first
  nested : result (comp 1 int (slot 2 int 2) (gen (1 ∷ []) (one_to_three 11) None ∷ gen (2 ∷ []) (bin 22 ints (slot 22 int 1) op.up_to (num 25 (pos 2))) None ∷ [])) ≡ is (row (pos 1) (pos 3) (i (pos 1) ∷ i (pos 2) ∷ i (pos 2) ∷ [])) 26
  -- [n | n in 1..3 where n > 2]: what is dropped is not evaluated
  filtered : result (comp 1 int (slot 2 int 1) (gen (1 ∷ []) (one_to_three 11) (Some (bin 22 bool (slot 22 int 1) op.greater (num 26 (pos 2)))) ∷ [])) ≡ is (row (pos 1) (pos 1) (i (pos 3) ∷ [])) 21
  -- [n | n in [5, 6]]: over an array, its elements
  over_an_array : result (comp 1 int (slot 2 int 1) (gen (1 ∷ []) (list 11 int (num 12 (pos 5) ∷ num 15 (pos 6) ∷ [])) None ∷ [])) ≡ is (row (pos 1) (pos 2) (i (pos 5) ∷ i (pos 6) ∷ [])) 8
  -- [n | n in 1..1 div 0]: an undefined set
  undefined_set : result (comp 1 int (slot 2 int 1) (gen (1 ∷ []) (bin 11 ints (num 11 (pos 1)) op.up_to (by_zero 14)) None ∷ [])) ≡ is_undefined 8
  -- [7 | n in 2..1, k in 1..1 div 0]: the second set is not evaluated
  inner_set_not_reached : result (comp 1 int (num 2 (pos 7)) (gen (1 ∷ []) (range 11 (pos 2) (pos 1)) None ∷ gen (2 ∷ []) (bin 22 ints (num 22 (pos 1)) op.up_to (by_zero 25)) None ∷ [])) ≡ is (row (pos 1) (pos 0) []) 5
  -- [1 div n | n in 0..1]
  an_undefined_element : result (comp 1 int (bin 2 int (num 2 (pos 1)) op.quotient (slot 8 int 1)) (gen (1 ∷ []) (range 15 (pos 0) (pos 1)) None ∷ [])) ≡ is_undefined 15

generators : Generators
unfolding eval lines line_at place_in innermost_of innermost_in back_of back_in backed scalar_value made_value bounding_value equality is_bounded is_fixable as_bool as_int as_case as_set as_text as_items as_index as_row as_ordinal as_element as_pair as_option is_single enum_of at bool_at int_at case_at ordinal_at element_at option_at set_at enum_at text_at items_at row_at index_at pair connected ordered computed signed folded raised toward nearer quantified contains end_of up_to same_set fold_from summand instance place_count with_index shape_from is_mismatched negative is_failed limited scalar_counts made_counts bounding_counts counts_from cost bound_of bounds_of is_settled toward_ends arith_ends sign_ends extreme_from fold_ends folded_ends raised_ends index_tuples is_reached reached branch_bound branch_bounds if_bounds combined_upper bounds_at each ends_at upper_at elements_at all_ends_at all_uppers_at uppers_before scalar_bounds made_bounds lower_of upper_of value_by_bounds range_elements
generators = record { one_name = refl; two_names = refl; nested = refl; filtered = refl; over_an_array = refl; undefined_set = refl; inner_set_not_reached = refl; an_undefined_element = refl }

-- x is a var int in 0..3, s a var set of 1..3, and a an array of two of x's kind
abbrev scope : ℤ → Content → Env
scope n s = bind 5 (var_number (pos 0) (pos 3) (Some (i n))) (bind 6 (var_set [] (fromto (pos 1) (pos 3)) (Some s)) (bind 7 (var_row (pos 1) (pos 2) (between (pos 0) (pos 3) ∷ between (pos 0) (pos 3) ∷ []) (Some (row (pos 1) (pos 2) (i n ∷ i (pos 3) ∷ [])))) no_names))

abbrev blank : Env
blank = bind 5 (var_number (pos 0) (pos 3) None) (bind 6 (var_set [] (fromto (pos 1) (pos 3)) None) (bind 7 (var_row (pos 1) (pos 2) (between (pos 0) (pos 3) ∷ between (pos 0) (pos 3) ∷ []) None) no_names))

abbrev x : ℕ → Tree
x at = slot at var_int 5

abbrev s : ℕ → Tree
s at = slot at var_ints 6

-- [n | n in 1..3 where n < x]
abbrev below_x : Tree
below_x = comp 1 var_opt_int (slot 2 int 1) (gen (1 ∷ []) (one_to_three 11) (Some (bin 22 var_bool (to_var (slot 22 int 1)) op.less (x 26))) ∷ [])

-- [n | n in s]
abbrev members : Tree
members = comp 1 var_opt_int (slot 2 int 1) (gen (1 ∷ []) (s 11) None ∷ [])

-- [6 div n | n in s]
abbrev quotients : Tree
quotients = comp 1 var_opt_int (bin 2 int (num 2 (pos 6)) op.quotient (bin 8 int (slot 8 int 1) op.minus (num 12 (pos 1)))) (gen (1 ∷ []) (s 22) None ∷ [])

-- [7 | n in s, k in 1..(1 div (n - 1))]
abbrev inner_sets : Tree
inner_sets = comp 1 var_opt_int (num 2 (pos 7)) (gen (1 ∷ []) (s 11) None ∷ gen (2 ∷ []) (bin 22 ints (num 22 (pos 1)) op.up_to (bin 26 int (num 26 (pos 1)) op.quotient (bin 33 int (slot 33 int 1) op.minus (num 37 (pos 1))))) None ∷ [])

abbrev all_bounds : List Bound
all_bounds = between (pos 1) (pos 1) ∷ between (pos 2) (pos 2) ∷ between (pos 3) (pos 3) ∷ []

-- A var `where` and a var set make elements that may be absent
record OptionalElements : Type 0 where
  -- where x is 2
  var_where : run [] given (scope (pos 2) (set [])) below_x ≡ gives (var_row (pos 1) (pos 3) all_bounds (Some (row (pos 1) (pos 3) (i (pos 1) ∷ values.absent ∷ values.absent ∷ [])))) 23
  -- the same without an assignment: the same work and bounds
  var_where_blank : run [] Bare blank below_x ≡ gives (var_row (pos 1) (pos 3) all_bounds None) 23
  -- where s is {2, 3}
  over_a_var_set : run [] given (scope (pos 0) (set (fromto (pos 2) (pos 3)))) members ≡ gives (var_row (pos 1) (pos 3) all_bounds (Some (row (pos 1) (pos 3) (values.absent ∷ i (pos 2) ∷ i (pos 3) ∷ [])))) 8
  -- [6 div (n - 1) | n in s] where s is {2}: that the first element is undefined doesn't count, since it is absent
  absent_and_undefined : run [] given (scope (pos 0) (set (fromto (pos 2) (pos 2)))) quotients ≡ gives (var_row (pos 1) (pos 3) (between (pos 0) (pos 0) ∷ between (pos 6) (pos 6) ∷ between (pos 3) (pos 3) ∷ []) (Some (row (pos 1) (pos 3) (values.absent ∷ i (pos 6) ∷ values.absent ∷ [])))) 26
  -- and where s is {1}
  there_and_undefined : run [] given (scope (pos 0) (set (fromto (pos 1) (pos 1)))) quotients ≡ gives (var_row (pos 1) (pos 3) (between (pos 0) (pos 0) ∷ between (pos 6) (pos 6) ∷ between (pos 3) (pos 3) ∷ []) None) 26
  -- [7 | n in s, k in 1..(1 div (n - 1))] where s is {3}: the undefined set of n = 1 doesn't count; that of n = 2 is 1..1, and that of n = 3 is 1..0
  inner_set_of_an_absent_element : run [] given (scope (pos 0) (set (fromto (pos 3) (pos 3)))) inner_sets ≡ gives (var_row (pos 1) (pos 1) (between (pos 7) (pos 7) ∷ []) (Some (row (pos 1) (pos 1) (values.absent ∷ [])))) 37
  -- and where s is {1}
  inner_set_that_counts : run [] given (scope (pos 0) (set (fromto (pos 1) (pos 1)))) inner_sets ≡ gives (var_row (pos 1) (pos 1) (between (pos 7) (pos 7) ∷ []) None) 37
  -- sum([n | n in s]) where s is {2, 3}: its bounds join each element with 0
  sum_of_options : run [] given (scope (pos 0) (set (fromto (pos 2) (pos 3)))) (fun 1 var_int op.sum_of_options (members ∷ [])) ≡ gives (var_number (pos 0) (pos 6) (Some (i (pos 5)))) 13
  -- [n + 1 | n in a] for a var array a, where its first element is 2
  over_a_var_array : run [] given (scope (pos 2) (set [])) (comp 1 var_int (bin 2 var_int (slot 2 var_int 1) op.plus (to_var (num 6 (pos 1)))) (gen (1 ∷ []) (slot 15 (list_of var_int) 7) None ∷ [])) ≡ gives (var_row (pos 1) (pos 2) (between (pos 1) (pos 4) ∷ between (pos 1) (pos 4) ∷ []) (Some (row (pos 1) (pos 2) (i (pos 3) ∷ i (pos 4) ∷ [])))) 12
  -- [x | n in 1..1 div 0]: a var array keeps its range, 1..0
  no_var_elements : run [] Bare blank (comp 1 var_int (x 2) (gen (1 ∷ []) (bin 11 ints (num 11 (pos 1)) op.up_to (by_zero 14)) None ∷ [])) ≡ gives (var_row (pos 1) (pos 0) [] None) 8
  -- [x | n in 1..2, k in 1..1 div 0]
  no_inner_elements : run [] given (scope (pos 2) (set [])) (comp 1 var_int (x 2) (gen (1 ∷ []) (range 11 (pos 1) (pos 2)) None ∷ gen (2 ∷ []) (bin 22 ints (num 22 (pos 1)) op.up_to (by_zero 25)) None ∷ [])) ≡ gives (var_row (pos 1) (pos 0) [] None) 21
  -- [x | n in 2..1]
  no_elements : run [] given (scope (pos 2) (set [])) (comp 1 var_int (x 2) (gen (1 ∷ []) (range 11 (pos 2) (pos 1)) None ∷ [])) ≡ gives (var_row (pos 1) (pos 0) [] (Some (row (pos 1) (pos 0) []))) 5

optional_elements : OptionalElements
unfolding eval lines line_at place_in innermost_of innermost_in back_of back_in backed scalar_value made_value bounding_value equality is_bounded is_fixable as_bool as_int as_case as_set as_text as_items as_index as_row as_ordinal as_element as_pair as_option is_single enum_of at bool_at int_at case_at ordinal_at element_at option_at set_at enum_at text_at items_at row_at index_at pair connected ordered computed signed folded raised toward nearer quantified contains end_of up_to same_set fold_from summand instance place_count with_index shape_from is_mismatched negative is_failed limited scalar_counts made_counts bounding_counts counts_from cost bound_of bounds_of is_settled toward_ends arith_ends sign_ends extreme_from fold_ends folded_ends raised_ends index_tuples is_reached reached branch_bound branch_bounds if_bounds combined_upper bounds_at each ends_at upper_at elements_at all_ends_at all_uppers_at uppers_before scalar_bounds made_bounds lower_of upper_of value_by_bounds range_elements
optional_elements = record { var_where = refl; var_where_blank = refl; over_a_var_set = refl; absent_and_undefined = refl; there_and_undefined = refl; inner_set_of_an_absent_element = refl; inner_set_that_counts = refl; sum_of_options = refl; over_a_var_array = refl; no_var_elements = refl; no_inner_elements = refl; no_elements = refl }
