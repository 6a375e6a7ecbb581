-- Worked examples of sets, enums and `assert`.
use Rattle.std.specs.Prelude.{◌≡◌, refl, ℕ, pos, true, false, List, [], ◌∷◌, Some, None, codes}
use Rattle.mz_value.specs.Ranges.{Range}
use Rattle.mz_value.specs.Shown.{range_elements}
use Rattle.mz_core.specs.Types.{PlainType}
use Rattle.mz_core.specs.Tree.{Tree, trees}
use Rattle.mz_operations.specs.Views.{as_bool, as_int, as_case, as_set, as_text, as_items, as_index, as_row, as_ordinal, as_element, as_pair, as_option, is_single, enum_of}
use Rattle.mz_operations.specs.Arguments.{at, bool_at, int_at, case_at, ordinal_at, element_at, option_at, set_at, enum_at, text_at, items_at, row_at, index_at, pair}
use Rattle.mz_operations.specs.Numbers.{connected, ordered, computed, signed, folded, raised, toward, nearer, quantified}
use Rattle.mz_operations.specs.Sets.{contains, end_of, up_to, same_set, union, intersection, difference, combined, complement, missing_from}
use Rattle.mz_operations.specs.Arrays.{fold_from, summand, instance, place_count, with_index, shape_from}
use Rattle.mz_operations.specs.Values.{equality, scalar_value, made_value, bounding_value, is_bounded, is_fixable}
use Rattle.mz_operations.specs.Answers.{is_mismatched, negative, is_failed, limited}
use Rattle.mz_operations.specs.Costs.{scalar_counts, made_counts, bounding_counts, counts_from, cost}
use Rattle.mz_operations.specs.Bounds.{bound_of, bounds_of, is_settled, toward_ends, arith_ends, sign_ends, extreme_from, fold_ends, folded_ends, raised_ends, union_from, index_tuples, is_reached, reached, branch_bound, branch_bounds, if_bounds, combined_upper}
use Rattle.mz_operations.specs.RowBounds.{bounds_at, each, ends_at, upper_at, elements_at, all_ends_at, all_uppers_at, uppers_before, scalar_bounds, made_bounds, lower_of, upper_of, value_by_bounds}
use Rattle.mz_meaning.specs.Runs.{Answer, start}
use Rattle.mz_meaning.specs.Cells.{Cell, Par, Bare, Env, bind, no_names}
use Rattle.mz_operations.specs.Lines.{lines, line_at, place_in}
use Rattle.mz_meaning.specs.Contexts.{Positive}
use Rattle.mz_meaning.specs.Chains.{innermost_of, innermost_in, back_of, back_in, backed}
use Rattle.mz_meaning.specs.Evaluation.{eval}
use Rattle.mz_meaning.specs.Written.{col, scalar, int, var_int, bool, var_bool, ints, var_ints, text, num, lit, slot, fun, call, bin, to_var, comp, gen, choose, range, plain, param, function, i, b, set, fromto, row, var_number, var_set, run, result, gives, is, is_undefined, stops, given, by_zero}
use Rattle.mz_base.specs.declared.kind.Kind.TheVariants as kind
use Rattle.mz_value.specs.Contents as values
use Rattle.mz_core.specs.declared.types.Base.TheVariants as base
use Rattle.mz_core.specs.Tree as tree
use Rattle.mz_meaning.specs.RowNumbers as op

abbrev literal : List Tree → Tree
literal es = tree.node (col 1) ints (tree.set (trees es))

-- s is a var set below {1, 2, 3}, with the value {2}
abbrev scope : Env
scope = bind 6 (var_set [] (fromto (pos 1) (pos 3)) (Some (set (fromto (pos 2) (pos 2))))) no_names

abbrev s : ℕ → Tree
s at = slot at var_ints 6

abbrev one_and_three : List Range
one_and_three = (pos 1, pos 1) ∷ (pos 3, pos 3) ∷ []

-- enum E = {A, B, C}; as the enum with number 0
abbrev case_type : PlainType
case_type = scalar false (base.Enum 0)

abbrev cases_type : PlainType
cases_type = scalar false (base.SetEnum 0)

abbrev case : ℕ → ℕ → Tree
case at k = tree.node (col at) case_type (tree.case 0 (pos k))

abbrev all_cases : ℕ → Tree
all_cases at = tree.node (col at) cases_type (tree.enum_set 0)

abbrev with_cases : Tree → Answer Cell
with_cases e = eval (record { functions = []; cases = ((codes "A" ∷ codes "B" ∷ codes "C" ∷ []) ∷ []); texts = (5, codes "m") ∷ []; budget = 100; int_range = pos 1000; top = no_names; mode = Bare }) 600 Positive e no_names start

abbrev message : ℕ → Tree
message at = tree.node (col at) text (tree.text 5)

-- Sets, and their least and greatest bounds
record Sets : Type 0 where
  -- {3, 1, 3}
  set_literal : result (literal (num 2 (pos 3) ∷ num 5 (pos 1) ∷ num 8 (pos 3) ∷ [])) ≡ is (set one_and_three) 4
  -- {true}, a set of integers
  set_of_truths : result (literal (lit 2 true ∷ [])) ≡ is (set (fromto (pos 1) (pos 1))) 2
  -- {1 div 0}
  undefined_literal : result (literal (by_zero 2 ∷ [])) ≡ is_undefined 5
  -- {n + n | n in 1..2}
  set_of_heads : result (tree.node (col 1) ints (tree.comp true (bin 2 int (slot 2 int 1) op.plus (slot 6 int 1)) (tree.gens (gen (1 ∷ []) (range 15 (pos 1) (pos 2)) None ∷ [])))) ≡ is (set ((pos 2, pos 2) ∷ (pos 4, pos 4) ∷ [])) 15
  -- s union {5}: nothing is sure, and at most {1, 2, 3, 5}
  union_bounds : run [] given scope (bin 1 var_ints (s 1) op.union (to_var (range 9 (pos 5) (pos 5)))) ≡ gives (var_set [] ((pos 1, pos 3) ∷ (pos 5, pos 5) ∷ []) (Some (set ((pos 2, pos 2) ∷ (pos 5, pos 5) ∷ [])))) 7
  -- lb(g(3) union {5}), with function var set of int: g(int: n) = 1..n
  least_of_a_union : run (function (param 12 (plain int) ∷ []) (plain var_ints) (to_var (bin 38 ints (num 38 (pos 1)) op.up_to (slot 41 int 12))) ∷ []) Bare no_names (fun 1 ints op.lb_set (bin 4 var_ints (call 4 var_ints 0 (num 6 (pos 3) ∷ [])) op.union (to_var (literal (num 16 (pos 5) ∷ []))) ∷ [])) ≡ is (set []) 12
  -- card(s)
  cardinality_bounds : run [] given scope (fun 1 var_int op.card (s 6 ∷ [])) ≡ gives (var_number (pos 0) (pos 3) (Some (i (pos 1)))) 3
  -- 2 in s
  membership : run [] given scope (bin 1 var_bool (to_var (num 1 (pos 2))) op.member (s 6)) ≡ gives (var_number (pos 0) (pos 1) (Some (b true))) 4
  -- ub(s), and lb(s), which is empty
  greatest : run [] given scope (fun 1 ints op.ub_set (s 4 ∷ [])) ≡ gives (Par (Some (set (fromto (pos 1) (pos 3))))) 3
  least : run [] given scope (fun 1 ints op.lb_set (s 4 ∷ [])) ≡ gives (Par (Some (set []))) 3
  -- if true then s else s endif: after an `if` nothing is sure
  set_of_if : run [] given scope (choose 1 var_ints (lit 4 true) (to_var (range 9 (pos 1) (pos 2))) (Some (s 20))) ≡ gives (var_set [] (fromto (pos 1) (pos 2)) (Some (set (fromto (pos 1) (pos 2))))) 6

sets : Sets
unfolding eval lines line_at place_in innermost_of innermost_in back_of back_in backed scalar_value made_value bounding_value equality is_bounded is_fixable as_bool as_int as_case as_set as_text as_items as_index as_row as_ordinal as_element as_pair as_option is_single enum_of at bool_at int_at case_at ordinal_at element_at option_at set_at enum_at text_at items_at row_at index_at pair connected ordered computed signed folded raised toward nearer quantified contains end_of up_to same_set fold_from summand instance place_count with_index shape_from is_mismatched negative is_failed limited scalar_counts made_counts bounding_counts counts_from cost bound_of bounds_of is_settled toward_ends arith_ends sign_ends extreme_from fold_ends folded_ends raised_ends index_tuples is_reached reached branch_bound branch_bounds if_bounds combined_upper bounds_at each ends_at upper_at elements_at all_ends_at all_uppers_at uppers_before scalar_bounds made_bounds lower_of upper_of value_by_bounds range_elements union intersection difference combined union_from complement missing_from
sets = record { set_literal = refl; set_of_truths = refl; undefined_literal = refl; set_of_heads = refl; union_bounds = refl; least_of_a_union = refl; cardinality_bounds = refl; membership = refl; greatest = refl; least = refl; set_of_if = refl }

-- Cases are numbered from 1
record Enums : Type 0 where
  -- E
  whole_enum : with_cases (all_cases 1) ≡ is (values.set (Some 0) (fromto (pos 1) (pos 3))) 1
  -- enum_next(E, A)
  next_case : with_cases (fun 1 case_type op.enum_next (all_cases 11 ∷ case 14 1 ∷ [])) ≡ is (values.case 0 (pos 2)) 4
  -- enum_next(E, C) is undefined
  no_next_case : with_cases (fun 1 case_type op.enum_next (all_cases 11 ∷ case 14 3 ∷ [])) ≡ is_undefined 4
  -- A < B
  order_of_cases : with_cases (bin 1 bool (case 1 1) op.less (case 5 2)) ≡ is (b true) 4
  -- max(E) is a case, though the row finds a number
  greatest_case : with_cases (fun 1 case_type op.greatest_of_set (all_cases 5 ∷ [])) ≡ is (values.case 0 (pos 3)) 3
  -- [n | n in E]
  cases_as_elements : with_cases (comp 1 case_type (slot 2 case_type 1) (gen (1 ∷ []) (all_cases 7) None ∷ [])) ≡ is (row (pos 1) (pos 3) (values.case 0 (pos 1) ∷ values.case 0 (pos 2) ∷ values.case 0 (pos 3) ∷ [])) 8
  -- assert(1 < 2, "m")
  holding_assert : with_cases (fun 1 bool op.assert (bin 8 bool (num 8 (pos 1)) op.less (num 12 (pos 2)) ∷ message 15 ∷ [])) ≡ is (b true) 7
  -- assert(2 < 1, "m")
  failed_assert : with_cases (fun 1 bool op.assert (bin 8 bool (num 8 (pos 2)) op.less (num 12 (pos 1)) ∷ message 15 ∷ [])) ≡ stops kind.AssertFailed 1 (pos 0)
  -- assert(1 div 0 = 1, "m"): the condition is false
  undefined_assert : with_cases (fun 1 bool op.assert (bin 8 bool (by_zero 8) op.equal (num 18 (pos 1)) ∷ message 21 ∷ [])) ≡ stops kind.AssertFailed 1 (pos 0)
  -- assert(true, "m", 7)
  assert_with_value : with_cases (fun 1 int op.assert_value (lit 8 true ∷ message 14 ∷ num 19 (pos 7) ∷ [])) ≡ is (i (pos 7)) 5

enums : Enums
unfolding eval lines line_at place_in innermost_of innermost_in back_of back_in backed scalar_value made_value bounding_value equality is_bounded is_fixable as_bool as_int as_case as_set as_text as_items as_index as_row as_ordinal as_element as_pair as_option is_single enum_of at bool_at int_at case_at ordinal_at element_at option_at set_at enum_at text_at items_at row_at index_at pair connected ordered computed signed folded raised toward nearer quantified contains end_of up_to same_set fold_from summand instance place_count with_index shape_from is_mismatched negative is_failed limited scalar_counts made_counts bounding_counts counts_from cost bound_of bounds_of is_settled toward_ends arith_ends sign_ends extreme_from fold_ends folded_ends raised_ends index_tuples is_reached reached branch_bound branch_bounds if_bounds combined_upper bounds_at each ends_at upper_at elements_at all_ends_at all_uppers_at uppers_before scalar_bounds made_bounds lower_of upper_of value_by_bounds range_elements union intersection difference combined union_from complement missing_from
enums = record { whole_enum = refl; next_case = refl; no_next_case = refl; order_of_cases = refl; greatest_case = refl; cases_as_elements = refl; holding_assert = refl; failed_assert = refl; undefined_assert = refl; assert_with_value = refl }
