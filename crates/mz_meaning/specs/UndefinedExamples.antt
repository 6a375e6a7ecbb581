-- Worked examples of undefinedness.
use Rattle.std.specs.Prelude.{◌≡◌, refl, pos, true, false, List, [], ◌∷◌, Some, None}
use Rattle.mz_value.specs.Shown.{range_elements}
use Rattle.mz_core.specs.Program.{Function}
use Rattle.mz_core.specs.Tree.{Decl, declares, constrains}
use Rattle.mz_operations.specs.Views.{as_bool, as_int, as_case, as_set, as_text, as_items, as_index, as_row, as_ordinal, as_element, as_pair, as_option, is_single, enum_of}
use Rattle.mz_operations.specs.Arguments.{at, bool_at, int_at, case_at, ordinal_at, element_at, option_at, set_at, enum_at, text_at, items_at, row_at, index_at, pair}
use Rattle.mz_operations.specs.Numbers.{connected, ordered, computed, signed, folded, raised, toward, nearer, quantified}
use Rattle.mz_operations.specs.Sets.{contains, end_of, up_to, same_set}
use Rattle.mz_operations.specs.Arrays.{fold_from, summand, instance, place_count, with_index, shape_from}
use Rattle.mz_operations.specs.Values.{equality, scalar_value, made_value, bounding_value, is_bounded, is_fixable}
use Rattle.mz_operations.specs.Answers.{is_mismatched, negative, is_failed, limited}
use Rattle.mz_operations.specs.Costs.{scalar_counts, made_counts, bounding_counts, counts_from, cost}
use Rattle.mz_operations.specs.Bounds.{bound_of, bounds_of, is_settled, toward_ends, arith_ends, sign_ends, extreme_from, fold_ends, folded_ends, raised_ends, index_tuples, is_reached, reached, branch_bound, branch_bounds, if_bounds, combined_upper}
use Rattle.mz_operations.specs.RowBounds.{bounds_at, each, ends_at, upper_at, elements_at, all_ends_at, all_uppers_at, uppers_before, scalar_bounds, made_bounds, lower_of, upper_of, value_by_bounds}
use Rattle.mz_meaning.specs.Cells.{Bare, no_names}
use Rattle.mz_operations.specs.Lines.{lines, line_at, place_in}
use Rattle.mz_meaning.specs.Chains.{innermost_of, innermost_in, back_of, back_in, backed}
use Rattle.mz_meaning.specs.Evaluation.{eval}
use Rattle.mz_meaning.specs.Written.{int, bool, ints, num, lit, slot, fun, call, bin, list, access, choose, let_in, range, plain, within, decl, param, function, i, b, run, result, is, is_undefined, by_zero}
use Rattle.mz_meaning.specs.RowNumbers as op

-- A Boolean is never undefined: it is false where a part is, at the nearest Boolean
record UndefinedInBooleans : Type 0 where
  -- 1 div 0 = 1 is false. Its work: 4 of the quotient, 1 of the number, 2 of the comparison
  comparison : result (bin 1 bool (by_zero 1) op.equal (num 11 (pos 1))) ≡ is (b false) 7
  -- not (1 div 0 = 1) is true: the undefined part is false at the comparison, and not at the root
  negation : result (fun 1 bool op.negation (bin 6 bool (by_zero 6) op.equal (num 16 (pos 1)) ∷ [])) ≡ is (b true) 9
  -- exists([1 div 0 = 1, true])
  in_exists : result (fun 1 bool op.exists (list 8 bool (bin 9 bool (by_zero 9) op.equal (num 19 (pos 1)) ∷ lit 22 true ∷ []) ∷ [])) ≡ is (b true) 13
  -- forall([1 div 0 = 1, true])
  in_forall : result (fun 1 bool op.forall (list 8 bool (bin 9 bool (by_zero 9) op.equal (num 19 (pos 1)) ∷ lit 22 true ∷ []) ∷ [])) ≡ is (b false) 13
  -- (1 div 0 = 1) -> false
  implied : result (bin 1 bool (bin 2 bool (by_zero 2) op.equal (num 12 (pos 1))) op.implies (lit 18 false)) ≡ is (b true) 10
  -- 1 div 0 != 1 is false too
  different : result (bin 1 bool (by_zero 1) op.unequal (num 12 (pos 1))) ≡ is (b false) 7
  -- an access to an array of Booleans outside its index set: [true][2]
  access_to_booleans : result (access 1 bool (list 1 bool (lit 2 true ∷ [])) (num 8 (pos 2))) ≡ is (b false) 4

undefined_in_booleans : UndefinedInBooleans
unfolding eval lines line_at place_in innermost_of innermost_in back_of back_in backed scalar_value made_value bounding_value equality is_bounded is_fixable as_bool as_int as_case as_set as_text as_items as_index as_row as_ordinal as_element as_pair as_option is_single enum_of at bool_at int_at case_at ordinal_at element_at option_at set_at enum_at text_at items_at row_at index_at pair connected ordered computed signed folded raised toward nearer quantified contains end_of up_to same_set fold_from summand instance place_count with_index shape_from is_mismatched negative is_failed limited scalar_counts made_counts bounding_counts counts_from cost bound_of bounds_of is_settled toward_ends arith_ends sign_ends extreme_from fold_ends folded_ends raised_ends index_tuples is_reached reached branch_bound branch_bounds if_bounds combined_upper bounds_at each ends_at upper_at elements_at all_ends_at all_uppers_at uppers_before scalar_bounds made_bounds lower_of upper_of value_by_bounds range_elements
undefined_in_booleans = record { comparison = refl; negation = refl; in_exists = refl; in_forall = refl; implied = refl; different = refl; access_to_booleans = refl }

-- Anything else is undefined where a part is
record UndefinedInOthers : Type 0 where
  -- 1 div 0, with work 4
  quotient : result (by_zero 1) ≡ is_undefined 4
  -- 1 mod 0
  remainder : result (bin 1 int (num 1 (pos 1)) op.modulo (num 7 (pos 0))) ≡ is_undefined 4
  -- (1 div 0) * 0
  product : result (bin 1 int (by_zero 2) op.times (num 14 (pos 0))) ≡ is_undefined 7
  -- [1 div 0, 1]: an array with one undefined element
  an_element : result (list 1 int (by_zero 2 ∷ num 11 (pos 1) ∷ [])) ≡ is_undefined 6
  -- [1 div 0, 1][2]: also where another element is asked for
  another_element : result (access 1 int (list 1 int (by_zero 2 ∷ num 11 (pos 1) ∷ [])) (num 14 (pos 2))) ≡ is_undefined 8
  -- [1, 2][3]
  outside : result (access 1 int (list 1 int (num 2 (pos 1) ∷ num 5 (pos 2) ∷ [])) (num 8 (pos 3))) ≡ is_undefined 5
  -- min([]) of an array of integers
  least_of_none : result (fun 1 int op.least_of_array (list 5 int [] ∷ [])) ≡ is_undefined 3
  -- min(2..1)
  least_of_the_empty_set : result (fun 1 int op.least_of_set (range 5 (pos 2) (pos 1) ∷ [])) ≡ is_undefined 6
  -- sum([]) is 0, and product([]) is 1
  sum_of_none : result (fun 1 int op.sum (list 5 int [] ∷ [])) ≡ is (i (pos 0)) 3
  product_of_none : result (fun 1 int op.product (list 9 int [] ∷ [])) ≡ is (i (pos 1)) 3

undefined_in_others : UndefinedInOthers
unfolding eval lines line_at place_in innermost_of innermost_in back_of back_in backed scalar_value made_value bounding_value equality is_bounded is_fixable as_bool as_int as_case as_set as_text as_items as_index as_row as_ordinal as_element as_pair as_option is_single enum_of at bool_at int_at case_at ordinal_at element_at option_at set_at enum_at text_at items_at row_at index_at pair connected ordered computed signed folded raised toward nearer quantified contains end_of up_to same_set fold_from summand instance place_count with_index shape_from is_mismatched negative is_failed limited scalar_counts made_counts bounding_counts counts_from cost bound_of bounds_of is_settled toward_ends arith_ends sign_ends extreme_from fold_ends folded_ends raised_ends index_tuples is_reached reached branch_bound branch_bounds if_bounds combined_upper bounds_at each ends_at upper_at elements_at all_ends_at all_uppers_at uppers_before scalar_bounds made_bounds lower_of upper_of value_by_bounds range_elements
undefined_in_others = record { quotient = refl; remainder = refl; product = refl; an_element = refl; another_element = refl; outside = refl; least_of_none = refl; least_of_the_empty_set = refl; sum_of_none = refl; product_of_none = refl }

-- The branch that isn't chosen doesn't count, and under a par condition it isn't evaluated
record UndefinedInIf : Type 0 where
  -- if true then 1 else 1 div 0 endif
  else_not_chosen : result (choose 1 int (lit 4 true) (num 14 (pos 1)) (Some (by_zero 21))) ≡ is (i (pos 1)) 3
  -- if false then 1 div 0 else 2 endif
  then_not_chosen : result (choose 1 int (lit 4 false) (by_zero 15) (Some (num 28 (pos 2)))) ≡ is (i (pos 2)) 3
  -- if true then 1 div 0 else 2 endif
  undefined_branch : result (choose 1 int (lit 4 true) (by_zero 14) (Some (num 27 (pos 2)))) ≡ is_undefined 6
  -- if 1 div 0 = 1 then 1 else 2 endif: the condition is false
  undefined_condition : result (choose 1 int (bin 4 bool (by_zero 4) op.equal (num 14 (pos 1))) (num 21 (pos 1)) (Some (num 28 (pos 2)))) ≡ is (i (pos 2)) 9
  -- if false then false endif is true
  no_else : result (choose 1 bool (lit 4 false) (lit 15 false) None) ≡ is (b true) 2

undefined_in_if : UndefinedInIf
unfolding eval lines line_at place_in innermost_of innermost_in back_of back_in backed scalar_value made_value bounding_value equality is_bounded is_fixable as_bool as_int as_case as_set as_text as_items as_index as_row as_ordinal as_element as_pair as_option is_single enum_of at bool_at int_at case_at ordinal_at element_at option_at set_at enum_at text_at items_at row_at index_at pair connected ordered computed signed folded raised toward nearer quantified contains end_of up_to same_set fold_from summand instance place_count with_index shape_from is_mismatched negative is_failed limited scalar_counts made_counts bounding_counts counts_from cost bound_of bounds_of is_settled toward_ends arith_ends sign_ends extreme_from fold_ends folded_ends raised_ends index_tuples is_reached reached branch_bound branch_bounds if_bounds combined_upper bounds_at each ends_at upper_at elements_at all_ends_at all_uppers_at uppers_before scalar_bounds made_bounds lower_of upper_of value_by_bounds range_elements
undefined_in_if = record { else_not_chosen = refl; then_not_chosen = refl; undefined_branch = refl; undefined_condition = refl; no_else = refl }

-- A let is undefined where a constraint is false, or a declared value or set is undefined, or a value lies outside its set; a Boolean one is false there
record UndefinedInLet : Type 0 where
  -- let { constraint 1 div 0 = 1 } in 2
  false_constraint : result (let_in 1 int (constrains (bin 18 bool (by_zero 18) op.equal (num 28 (pos 1))) ∷ []) (num 35 (pos 2))) ≡ is_undefined 9
  -- let { constraint false } in true
  boolean_let : result (let_in 1 bool (constrains (lit 18 false) ∷ []) (lit 29 true)) ≡ is (b false) 3
  -- let { 1..3: x = 5 } in 7
  outside_its_set : result (let_in 1 int (declares (decl 13 1 (within int (range 7 (pos 1) (pos 3))) (Some (num 17 (pos 5)))) ∷ []) (num 24 (pos 7))) ≡ is_undefined 7
  -- let { 1..3: x = 2 } in x + x
  inside_its_set : result (let_in 1 int (declares (decl 13 1 (within int (range 7 (pos 1) (pos 3))) (Some (num 17 (pos 2)))) ∷ []) (bin 24 int (slot 24 int 1) op.plus (slot 28 int 1))) ≡ is (i (pos 4)) 10
  -- let { int: x = 1 div 0 } in 7
  undefined_value : result (let_in 1 int (declares (decl 12 1 (plain int) (Some (by_zero 16))) ∷ []) (num 29 (pos 7))) ≡ is_undefined 6
  -- let { 1..1 div 0: x = 1 } in 7
  undefined_set : result (let_in 1 int (declares (decl 19 1 (within int (bin 7 ints (num 7 (pos 1)) op.up_to (by_zero 10))) (Some (num 23 (pos 1)))) ∷ []) (num 29 (pos 7))) ≡ is_undefined 10

undefined_in_let : UndefinedInLet
unfolding eval lines line_at place_in innermost_of innermost_in back_of back_in backed scalar_value made_value bounding_value equality is_bounded is_fixable as_bool as_int as_case as_set as_text as_items as_index as_row as_ordinal as_element as_pair as_option is_single enum_of at bool_at int_at case_at ordinal_at element_at option_at set_at enum_at text_at items_at row_at index_at pair connected ordered computed signed folded raised toward nearer quantified contains end_of up_to same_set fold_from summand instance place_count with_index shape_from is_mismatched negative is_failed limited scalar_counts made_counts bounding_counts counts_from cost bound_of bounds_of is_settled toward_ends arith_ends sign_ends extreme_from fold_ends folded_ends raised_ends index_tuples is_reached reached branch_bound branch_bounds if_bounds combined_upper bounds_at each ends_at upper_at elements_at all_ends_at all_uppers_at uppers_before scalar_bounds made_bounds lower_of upper_of value_by_bounds range_elements
undefined_in_let = record { false_constraint = refl; boolean_let = refl; outside_its_set = refl; inside_its_set = refl; undefined_value = refl; undefined_set = refl }

-- function int: f(1..3: n) = n; function 1..3: g(int: n) = n; test t(1..3: n) = true;
abbrev small : Decl
small = param 10 (within int (range 1 (pos 1) (pos 3)))

abbrev fs : List Function
fs = function (small ∷ []) (plain int) (slot 28 int 10)
    ∷ function (param 11 (plain int) ∷ []) (within int (range 1 (pos 1) (pos 3))) (slot 28 int 11)
    ∷ function (small ∷ []) (plain bool) (lit 28 true)
    ∷ []

-- A call is undefined where an argument lies outside its parameter's set, or the result outside the result's
record UndefinedInCalls : Type 0 where
  -- f(3): its work is 1 of the argument, 4 of the set, 1 of the body and 1
  inside : run fs Bare no_names (call 1 int 0 (num 3 (pos 3) ∷ [])) ≡ is (i (pos 3)) 7
  -- f(4)
  argument_outside : run fs Bare no_names (call 1 int 0 (num 3 (pos 4) ∷ [])) ≡ is_undefined 7
  -- f(1 div 0)
  undefined_argument : run fs Bare no_names (call 1 int 0 (by_zero 3 ∷ [])) ≡ is_undefined 10
  -- g(4)
  result_outside : run fs Bare no_names (call 1 int 1 (num 3 (pos 4) ∷ [])) ≡ is_undefined 7
  -- t(4) is false
  boolean_call : run fs Bare no_names (call 1 bool 2 (num 3 (pos 4) ∷ [])) ≡ is (b false) 7

undefined_in_calls : UndefinedInCalls
unfolding eval lines line_at place_in innermost_of innermost_in back_of back_in backed scalar_value made_value bounding_value equality is_bounded is_fixable as_bool as_int as_case as_set as_text as_items as_index as_row as_ordinal as_element as_pair as_option is_single enum_of at bool_at int_at case_at ordinal_at element_at option_at set_at enum_at text_at items_at row_at index_at pair connected ordered computed signed folded raised toward nearer quantified contains end_of up_to same_set fold_from summand instance place_count with_index shape_from is_mismatched negative is_failed limited scalar_counts made_counts bounding_counts counts_from cost bound_of bounds_of is_settled toward_ends arith_ends sign_ends extreme_from fold_ends folded_ends raised_ends index_tuples is_reached reached branch_bound branch_bounds if_bounds combined_upper bounds_at each ends_at upper_at elements_at all_ends_at all_uppers_at uppers_before scalar_bounds made_bounds lower_of upper_of value_by_bounds range_elements
undefined_in_calls = record { inside = refl; argument_outside = refl; undefined_argument = refl; result_outside = refl; boolean_call = refl }
