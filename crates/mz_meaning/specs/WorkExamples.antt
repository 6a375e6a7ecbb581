-- Worked examples of work, nesting, and chains.
use Rattle.std.specs.Prelude.{◌≡◌, refl, ℕ, pos, true, List, [], ◌∷◌, Some, None}
use Rattle.mz_value.specs.Shown.{range_elements}
use Rattle.mz_core.specs.Program.{Function}
use Rattle.mz_core.specs.Tree.{Tree, declares}
use Rattle.mz_operations.specs.Views.{as_bool, as_int, as_case, as_set, as_text, as_items, as_index, as_row, as_ordinal, as_element, as_pair, as_option, is_single, enum_of}
use Rattle.mz_operations.specs.Arguments.{at, bool_at, int_at, case_at, ordinal_at, element_at, option_at, set_at, enum_at, text_at, items_at, row_at, index_at, pair}
use Rattle.mz_operations.specs.Numbers.{connected, ordered, computed, signed, folded, raised, toward, nearer, quantified}
use Rattle.mz_operations.specs.Sets.{contains, end_of, up_to, same_set}
use Rattle.mz_operations.specs.Arrays.{fold_from, summand, instance, place_count, with_index, shape_from}
use Rattle.mz_operations.specs.Values.{equality, scalar_value, made_value, bounding_value, is_bounded, is_fixable}
use Rattle.mz_operations.specs.Answers.{is_mismatched, negative, is_failed, limited}
use Rattle.mz_operations.specs.Costs.{scalar_counts, made_counts, bounding_counts, counts_from, cost}
use Rattle.mz_operations.specs.Bounds.{bound_of, bounds_of, is_settled, toward_ends, arith_ends, sign_ends, extreme_from, fold_ends, folded_ends, raised_ends, index_tuples, is_reached, reached, branch_bound, branch_bounds, if_bounds, combined_upper}
use Rattle.mz_operations.specs.RowBounds.{bounds_at, each, ends_at, upper_at, elements_at, all_ends_at, all_uppers_at, uppers_before, scalar_bounds, made_bounds, lower_of, upper_of, value_by_bounds}
use Rattle.mz_meaning.specs.Runs.{Answer, start}
use Rattle.mz_meaning.specs.Cells.{Cell, Bare, no_names}
use Rattle.mz_operations.specs.Lines.{lines, line_at, place_in}
use Rattle.mz_meaning.specs.Contexts.{Positive}
use Rattle.mz_meaning.specs.Chains.{innermost_of, innermost_in, back_of, back_in, backed}
use Rattle.mz_meaning.specs.Evaluation.{eval}
use Rattle.mz_meaning.specs.Written.{col, int, bool, ints, list_of, num, lit, slot, fun, call, step, opened, chain, bin, to_int, list, comp, gen, choose, let_in, range, plain, indexed, decl, param, function, i, set, fromto, row, world, result, is, stops}
use Rattle.mz_base.specs.declared.kind.Kind.TheVariants as kind
use Rattle.mz_core.specs.declared.types.Coercion.TheVariants as coercion
use Rattle.mz_core.specs.Tree as tree
use Rattle.mz_meaning.specs.RowNumbers as op

-- function int: f(int: n) = f(n + 1);
abbrev endless : Function
endless = function (param 10 (plain int) ∷ []) (plain int) (call 27 int 0 (bin 29 int (slot 29 int 10) op.plus (num 33 (pos 1)) ∷ []))

-- function int: d(int: n) = if n = 0 then 0 else d(n - 1) endif;
abbrev down : Function
down = function (param 11 (plain int) ∷ []) (plain int) (choose 27 int (bin 30 bool (slot 30 int 11) op.equal (num 34 (pos 0))) (num 41 (pos 0)) (Some (call 48 int 1 (bin 50 int (slot 50 int 11) op.minus (num 54 (pos 1)) ∷ []))))

-- function int: f(int: n) = if n = 0 then 0 else (f(n - 1) + 1) + 1 endif;
abbrev chained : Function
chained = function (param 12 (plain int) ∷ []) (plain int) (choose 27 int (bin 30 bool (slot 30 int 12) op.equal (num 34 (pos 0))) (num 41 (pos 0)) (Some (bin 48 int (bin 49 int (call 49 int 2 (bin 51 int (slot 51 int 12) op.minus (num 55 (pos 1)) ∷ [])) op.plus (num 60 (pos 1))) op.plus (num 65 (pos 1)))))

abbrev fs : List Function
fs = endless ∷ down ∷ chained ∷ []

abbrev with_budget : ℕ → Tree → Answer Cell
with_budget n e = eval (world fs n Bare no_names) 600 Positive e no_names start

-- sum([1, 2, 3]): 3 and 1 of the array, 1 and 1 + 3 of the sum
abbrev a_sum : Tree
a_sum = fun 1 int op.sum (list 5 int (num 6 (pos 1) ∷ num 9 (pos 2) ∷ num 12 (pos 3) ∷ []) ∷ [])

-- length(1..3), with the coercion from a set to an array
abbrev length_of_set : Tree
length_of_set = fun 10 int op.length (tree.node (col 17) (list_of int) (tree.coerce coercion.SetToArray (range 17 (pos 1) (pos 3))) ∷ [])

-- 0..d(n)
abbrev from_zero : ℕ → Tree
from_zero n = bin 1 ints (num 1 (pos 0)) op.up_to (call 4 int 1 (num 6 (pos n) ∷ []))

-- Work is 1 for each node, its row's cost besides, and what generators, arrays and sets count; Budget comes at the node where it passes
record Work : Type 0 where
  -- sum([1, 2, 3])
  whole_sum : with_budget 9 a_sum ≡ is (i (pos 6)) 9
  -- with a budget of 8
  at_the_sum : with_budget 8 a_sum ≡ stops kind.Budget 1 (pos 9)
  -- of 3
  at_the_array : with_budget 3 a_sum ≡ stops kind.Budget 5 (pos 4)
  -- of 2
  at_an_element : with_budget 2 a_sum ≡ stops kind.Budget 12 (pos 3)
  -- 1 + 2 + 3: each operator counts 1 and its cost
  chain_of_two : result (chain 1 int (num 1 (pos 1)) (step op.plus int (num 5 (pos 2)) ∷ step op.plus int (num 9 (pos 3)) ∷ [])) ≡ is (i (pos 6)) 7
  -- true + 1: a coercion costs nothing
  coercion : result (bin 1 int (to_int (lit 1 true)) op.plus (num 8 (pos 1))) ≡ is (i (pos 2)) 4
  -- length(1..3): but the one from a set to an array counts the set's elements, at the set
  set_to_array : with_budget 100 length_of_set ≡ is (i (pos 3)) 12
  -- with a budget of 6
  budget_at_the_set : with_budget 6 length_of_set ≡ stops kind.Budget 17 (pos 7)
  -- [n | n in 1..3]: 4, then 2 for each element; with a budget of 8 at the third, whose place is the comprehension's
  at_a_generator : with_budget 8 (comp 3 int (slot 4 int 1) (gen (1 ∷ []) (range 13 (pos 1) (pos 3)) None ∷ [])) ≡ stops kind.Budget 3 (pos 9)
  -- let { array[1..100] of int: a = [1] } in 2: a declared array counts its elements at its name, after its value and before its length is compared
  declared_array : with_budget 50 (let_in 1 int (declares (decl 28 1 (indexed (list_of int) (Some (range 13 (pos 1) (pos 100)) ∷ []) None) (Some (list 32 int (num 33 (pos 1) ∷ [])))) ∷ []) (num 40 (pos 2))) ≡ stops kind.Budget 28 (pos 51)

work : Work
unfolding eval lines line_at place_in innermost_of innermost_in back_of back_in backed scalar_value made_value bounding_value equality is_bounded is_fixable as_bool as_int as_case as_set as_text as_items as_index as_row as_ordinal as_element as_pair as_option is_single enum_of at bool_at int_at case_at ordinal_at element_at option_at set_at enum_at text_at items_at row_at index_at pair connected ordered computed signed folded raised toward nearer quantified contains end_of up_to same_set fold_from summand instance place_count with_index shape_from is_mismatched negative is_failed limited scalar_counts made_counts bounding_counts counts_from cost bound_of bounds_of is_settled toward_ends arith_ends sign_ends extreme_from fold_ends folded_ends raised_ends index_tuples is_reached reached branch_bound branch_bounds if_bounds combined_upper bounds_at each ends_at upper_at elements_at all_ends_at all_uppers_at uppers_before scalar_bounds made_bounds lower_of upper_of value_by_bounds range_elements
work = record { whole_sum = refl; at_the_sum = refl; at_the_array = refl; at_an_element = refl; chain_of_two = refl; coercion = refl; set_to_array = refl; budget_at_the_set = refl; at_a_generator = refl; declared_array = refl }

-- At most 600 levels of nesting: a call's body has one more than the call, and a chain's operators all have one
record Nesting : Type 0 where
  -- f(0), where f has no end
  without_end : with_budget 100000 (call 1 int 0 (num 3 (pos 0) ∷ [])) ≡ stops kind.Depth 29 (pos 601)
  -- 0..d(297), with work 10 for each call, 7 for the last, and 4
  deep_enough : with_budget 100000 (from_zero 297) ≡ is (set (fromto (pos 0) (pos 0))) 2981
  -- 0..d(298)
  too_deep : with_budget 100000 (from_zero 298) ≡ stops kind.Depth 30 (pos 601)
  -- f(198): (f(n - 1) + 1) + 1 is one chain
  chain_deep_enough : with_budget 100000 (call 1 int 2 (num 3 (pos 198) ∷ [])) ≡ is (i (pos 396)) 3176
  -- f(199)
  chain_too_deep : with_budget 100000 (call 1 int 2 (num 3 (pos 199) ∷ [])) ≡ stops kind.Depth 30 (pos 601)

nesting : Nesting
unfolding eval lines line_at place_in innermost_of innermost_in back_of back_in backed scalar_value made_value bounding_value equality is_bounded is_fixable as_bool as_int as_case as_set as_text as_items as_index as_row as_ordinal as_element as_pair as_option is_single enum_of at bool_at int_at case_at ordinal_at element_at option_at set_at enum_at text_at items_at row_at index_at pair connected ordered computed signed folded raised toward nearer quantified contains end_of up_to same_set fold_from summand instance place_count with_index shape_from is_mismatched negative is_failed limited scalar_counts made_counts bounding_counts counts_from cost bound_of bounds_of is_settled toward_ends arith_ends sign_ends extreme_from fold_ends folded_ends raised_ends index_tuples is_reached reached branch_bound branch_bounds if_bounds combined_upper bounds_at each ends_at upper_at elements_at all_ends_at all_uppers_at uppers_before scalar_bounds made_bounds lower_of upper_of value_by_bounds range_elements
nesting = record { without_end = refl; deep_enough = refl; too_deep = refl; chain_deep_enough = refl; chain_too_deep = refl }

-- [1] ++ [2] ++ [3]
abbrev lists : Tree
lists = chain 1 (list_of int) (list 1 int (num 2 (pos 1) ∷ [])) (step op.append (list_of int) (list 8 int (num 9 (pos 2) ∷ [])) ∷ step op.append (list_of int) (list 15 int (num 16 (pos 3) ∷ [])) ∷ [])

-- `++` is read from the last operand: all operands come first, and then the nodes from the last on
record Appending : Type 0 where
  -- [1] ++ [2] ++ [3]: 2 for each list; then 1 and 1 + 2, and 1 and 1 + 3
  three_lists : result lists ≡ is (row (pos 1) (pos 3) (i (pos 1) ∷ i (pos 2) ∷ i (pos 3) ∷ [])) 15
  -- [1] ++ ([2] ++ [3]) is the same chain
  nested_lists : result (bin 1 (list_of int) (list 1 int (num 2 (pos 1) ∷ [])) op.append (bin 9 (list_of int) (list 9 int (num 10 (pos 2) ∷ [])) op.append (list 16 int (num 17 (pos 3) ∷ [])))) ≡ is (row (pos 1) (pos 3) (i (pos 1) ∷ i (pos 2) ∷ i (pos 3) ∷ [])) 15
  -- with a budget of 6: the node of `[2] ++ [3]` has the place of its own first operand
  at_an_inner_node : with_budget 6 lists ≡ stops kind.Budget 8 (pos 7)
  -- [1] ++ ([2]) ++ [3]: the inner node has the place of its `(`
  at_a_parenthesis : with_budget 6 (chain 1 (list_of int) (list 1 int (num 2 (pos 1) ∷ [])) (opened 8 op.append (list_of int) (list 9 int (num 10 (pos 2) ∷ [])) ∷ step op.append (list_of int) (list 17 int (num 18 (pos 3) ∷ [])) ∷ [])) ≡ stops kind.Budget 8 (pos 7)
  -- with a budget of 10
  at_the_whole : with_budget 10 lists ≡ stops kind.Budget 1 (pos 11)

appending : Appending
unfolding eval lines line_at place_in innermost_of innermost_in back_of back_in backed scalar_value made_value bounding_value equality is_bounded is_fixable as_bool as_int as_case as_set as_text as_items as_index as_row as_ordinal as_element as_pair as_option is_single enum_of at bool_at int_at case_at ordinal_at element_at option_at set_at enum_at text_at items_at row_at index_at pair connected ordered computed signed folded raised toward nearer quantified contains end_of up_to same_set fold_from summand instance place_count with_index shape_from is_mismatched negative is_failed limited scalar_counts made_counts bounding_counts counts_from cost bound_of bounds_of is_settled toward_ends arith_ends sign_ends extreme_from fold_ends folded_ends raised_ends index_tuples is_reached reached branch_bound branch_bounds if_bounds combined_upper bounds_at each ends_at upper_at elements_at all_ends_at all_uppers_at uppers_before scalar_bounds made_bounds lower_of upper_of value_by_bounds range_elements
appending = record { three_lists = refl; nested_lists = refl; at_an_inner_node = refl; at_a_parenthesis = refl; at_the_whole = refl }
