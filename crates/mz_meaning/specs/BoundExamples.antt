-- Worked examples of bounds, and of par expressions with var parts.
use Rattle.std.specs.Prelude.{◌≡◌, refl, ℕ, ◌+◌, ℤ, pos, negsuc, false, List, [], ◌∷◌, Some, None}
use Rattle.mz_value.specs.Shown.{range_elements}
use Rattle.mz_core.specs.Program.{Function}
use Rattle.mz_core.specs.Tree.{Tree}
use Rattle.mz_operations.specs.Views.{as_bool, as_int, as_case, as_set, as_text, as_items, as_index, as_row, as_ordinal, as_element, as_pair, as_option, is_single, enum_of}
use Rattle.mz_operations.specs.Arguments.{at, bool_at, int_at, case_at, ordinal_at, element_at, option_at, set_at, enum_at, text_at, items_at, row_at, index_at, pair}
use Rattle.mz_operations.specs.Numbers.{connected, ordered, computed, signed, folded, raised, toward, nearer, quantified}
use Rattle.mz_operations.specs.Sets.{contains, end_of, up_to, same_set}
use Rattle.mz_operations.specs.Arrays.{fold_from, summand, instance, place_count, with_index, shape_from}
use Rattle.mz_operations.specs.Values.{equality, scalar_value, made_value, bounding_value, is_bounded, is_fixable}
use Rattle.mz_operations.specs.Answers.{is_mismatched, negative, is_failed, limited}
use Rattle.mz_operations.specs.Costs.{scalar_counts, made_counts, bounding_counts, counts_from, cost}
use Rattle.mz_operations.specs.Bounds.{bound_of, bounds_of, is_settled, toward_ends, arith_ends, sign_ends, extreme_from, fold_ends, folded_ends, raised_ends, index_tuples, is_reached, reached, branch_bound, branch_bounds, if_bounds, combined_upper}
use Rattle.mz_operations.specs.RowBounds.{bounds_at, each, ends_at, upper_at, elements_at, all_ends_at, all_uppers_at, uppers_before, scalar_bounds, made_bounds, lower_of, upper_of, value_by_bounds}
use Rattle.mz_meaning.specs.Runs.{Answer}
use Rattle.mz_meaning.specs.Cells.{Cell, Bare, Env, bind, no_names}
use Rattle.mz_operations.specs.Lines.{lines, line_at, place_in}
use Rattle.mz_meaning.specs.Chains.{innermost_of, innermost_in, back_of, back_in, backed}
use Rattle.mz_meaning.specs.Evaluation.{eval}
use Rattle.mz_meaning.specs.Written.{int, var_int, bool, var_bool, var_opt_int, ints, var_ints, list_of, num, slot, fun, call, bin, to_var, list, access, comp, gen, choose, range, plain, within, param, function, i, b, set, fromto, var_number, run, result, gives, is, is_undefined, stops, by_zero}
use Rattle.mz_base.specs.declared.kind.Kind.TheVariants as kind
use Rattle.mz_meaning.specs.RowNumbers as op

-- function var int: f(int: n) = n; predicate p(int: n) = n > 3; function var set of int: g(int: n) = 1..n; function int: h(int: n) = h(n + 1); function int: k(var 1..2: n) = 3;
abbrev fs : List Function
fs = function (param 10 (plain int) ∷ []) (plain var_int) (to_var (slot 31 int 10))
    ∷ function (param 11 (plain int) ∷ []) (plain var_bool) (to_var (bin 21 bool (slot 21 int 11) op.greater (num 25 (pos 3))))
    ∷ function (param 12 (plain int) ∷ []) (plain var_ints) (to_var (bin 38 ints (num 38 (pos 1)) op.up_to (slot 41 int 12)))
    ∷ function (param 13 (plain int) ∷ []) (plain int) (call 27 int 3 (bin 29 int (slot 29 int 13) op.plus (num 33 (pos 1)) ∷ []))
    ∷ function (param 14 (within var_int (range 21 (pos 1) (pos 2))) ∷ []) (plain int) (num 32 (pos 3))
    ∷ []

abbrev f : ℕ → ℤ → Tree
f at n = call at var_int 0 (num (at + 2) n ∷ [])

abbrev p : ℕ → ℤ → Tree
p at n = call at var_bool 1 (num (at + 2) n ∷ [])

abbrev g : ℕ → ℤ → Tree
g at n = call at var_ints 2 (num (at + 2) n ∷ [])

abbrev value : Tree → Answer Cell
value e = run fs Bare no_names e

-- [n | n in 1..3 where p(n)]
abbrev filtered : ℕ → Tree
filtered at = comp at var_opt_int (slot (at + 1) int 1) (gen (1 ∷ []) (range (at + 10) (pos 1) (pos 3)) (Some (call (at + 21) var_bool 1 (slot (at + 23) int 1 ∷ []))) ∷ [])

-- A par expression may ask for the bounds of a var part, which go by rules and never by the part's value
record VarPartsOfParExpressions : Type 0 where
  -- is_fixed(p(5)): a call of type var bool may be false or true
  is_fixed_truth : value (fun 1 bool op.is_fixed (p 10 (pos 5) ∷ [])) ≡ is (b false) 8
  -- fix(p(5)) is undefined, and so false
  fixed_truth : value (fun 1 bool op.fix (p 5 (pos 5) ∷ [])) ≡ is (b false) 8
  -- fix(f(5))
  fixed_number : value (fun 1 int op.fix (f 5 (pos 5) ∷ [])) ≡ is (i (pos 5)) 5
  -- lb(bool2int(p(5))), though the value is 1
  lower_of_truth : value (fun 1 int op.lb (fun 4 var_int op.bool2int (p 13 (pos 5) ∷ []) ∷ [])) ≡ is (i (pos 0)) 10
  -- ub(sum([n | n in 1..3 where p(n)]))
  upper_of_sum : value (fun 1 int op.ub (fun 4 var_int op.sum_of_options (filtered 8 ∷ []) ∷ [])) ≡ is (i (pos 6)) 36
  -- length([n | n in 1..3 where p(n)])
  length_of_options : value (fun 1 int op.length (filtered 8 ∷ [])) ≡ is (i (pos 3)) 34
  -- length([n | n in g(3)])
  length_over_a_var_set : value (fun 1 int op.length (comp 8 var_opt_int (slot 9 int 1) (gen (1 ∷ []) (g 18 (pos 3)) None ∷ []) ∷ [])) ≡ is (i (pos 3)) 18
  -- lb(f(3) * f(-2))
  lower_of_product : value (fun 1 int op.lb (bin 4 var_int (f 4 (pos 3)) op.times (f 11 (negsuc 1)) ∷ [])) ≡ is (i (negsuc 5)) 10
  -- lb(f(2305843009213693952) + f(1))
  bounds_of_a_part : value (fun 1 int op.lb (bin 4 var_int (f 4 (pos 2305843009213693952)) op.plus (f 29 (pos 1)) ∷ [])) ≡ stops kind.Bounds 4 (pos 2305843009213693953)
  -- lb(if p(5) then 1 else h(1) endif): a var condition evaluates both branches, and h has no end
  both_branches : value (fun 1 int op.lb (choose 4 var_int (p 7 (pos 5)) (num 17 (pos 1)) (Some (call 24 int 3 (num 26 (pos 1) ∷ []))) ∷ [])) ≡ stops kind.Depth 29 (pos 601)
  -- ub(if p(1) then 1 else 7 endif)
  upper_of_if : value (fun 1 int op.ub (choose 4 var_int (p 7 (pos 1)) (num 17 (pos 1)) (Some (num 24 (pos 7))) ∷ [])) ≡ is (i (pos 7)) 11
  -- length(if p(1) then [1] else [1, 2] endif)
  branches_of_two_lengths : value (fun 1 int op.length (choose 8 (list_of var_int) (p 11 (pos 1)) (list 21 int (num 22 (pos 1) ∷ [])) (Some (list 30 int (num 31 (pos 1) ∷ num 34 (pos 2) ∷ []))) ∷ [])) ≡ stops kind.IndexMismatch 8 (pos 0)
  -- lb(g(3))
  lower_of_set : value (fun 1 ints op.lb_set (g 4 (pos 3) ∷ [])) ≡ is (set (fromto (pos 1) (pos 3))) 8
  -- lb(f(1) div f(0)): undefined, and its bounds are asked
  lower_of_undefined : value (fun 1 int op.lb (bin 4 var_int (f 4 (pos 1)) op.quotient (f 13 (pos 0)) ∷ [])) ≡ is (i (pos 0)) 10
  -- length([f(1) div 0, 2]): an undefined var array has a length
  length_of_undefined : value (fun 1 int op.length (list 8 var_int (bin 9 var_int (f 9 (pos 1)) op.quotient (to_var (num 18 (pos 0))) ∷ to_var (num 21 (pos 2)) ∷ []) ∷ [])) ≡ is (i (pos 2)) 12
  -- length([1 div 0, 2]): an undefined par array hasn't
  length_of_undefined_par : value (fun 1 int op.length (list 8 int (by_zero 9 ∷ num 18 (pos 2) ∷ []) ∷ [])) ≡ is_undefined 8
  -- k(1 div 0): the parameter is var and the result par
  undefined_argument_of_par_call : value (call 1 int 4 (to_var (by_zero 3) ∷ [])) ≡ is (i (pos 3)) 10
  -- k(7), outside the parameter's set
  argument_outside_of_par_call : value (call 1 int 4 (to_var (num 3 (pos 7)) ∷ [])) ≡ is (i (pos 3)) 7

var_parts_of_par_expressions : VarPartsOfParExpressions
unfolding eval lines line_at place_in innermost_of innermost_in back_of back_in backed scalar_value made_value bounding_value equality is_bounded is_fixable as_bool as_int as_case as_set as_text as_items as_index as_row as_ordinal as_element as_pair as_option is_single enum_of at bool_at int_at case_at ordinal_at element_at option_at set_at enum_at text_at items_at row_at index_at pair connected ordered computed signed folded raised toward nearer quantified contains end_of up_to same_set fold_from summand instance place_count with_index shape_from is_mismatched negative is_failed limited scalar_counts made_counts bounding_counts counts_from cost bound_of bounds_of is_settled toward_ends arith_ends sign_ends extreme_from fold_ends folded_ends raised_ends index_tuples is_reached reached branch_bound branch_bounds if_bounds combined_upper bounds_at each ends_at upper_at elements_at all_ends_at all_uppers_at uppers_before scalar_bounds made_bounds lower_of upper_of value_by_bounds range_elements
var_parts_of_par_expressions = record { is_fixed_truth = refl; fixed_truth = refl; fixed_number = refl; lower_of_truth = refl; upper_of_sum = refl; length_of_options = refl; length_over_a_var_set = refl; lower_of_product = refl; bounds_of_a_part = refl; both_branches = refl; upper_of_if = refl; branches_of_two_lengths = refl; lower_of_set = refl; lower_of_undefined = refl; length_of_undefined = refl; length_of_undefined_par = refl; undefined_argument_of_par_call = refl; argument_outside_of_par_call = refl }

-- x is a var int in -5..7, y in 0..3, and q a var bool
abbrev blank : Env
blank = bind 5 (var_number (negsuc 4) (pos 7) None) (bind 6 (var_number (pos 0) (pos 3) None) (bind 7 (var_number (pos 0) (pos 1) None) no_names))

abbrev x : ℕ → Tree
x at = slot at var_int 5

abbrev y : ℕ → Tree
y at = slot at var_int 6

-- the bounds of x and 3, or of x and y, under an operator
abbrev x_and_three : ℕ → Answer Cell
x_and_three n = run [] Bare blank (bin 1 var_int (x 1) n (to_var (num 5 (pos 3))))

abbrev x_and_y : ℕ → Answer Cell
x_and_y n = run [] Bare blank (bin 1 var_int (x 1) n (y 5))

abbrev open_number : ℤ → ℤ → ℕ → Answer Cell
open_number a c n = gives (var_number a c None) n

-- The bounds of var nodes
record BoundsOfNodes : Type 0 where
  -- x + 3
  sum : x_and_three op.plus ≡ open_number (negsuc 1) (pos 10) 4
  -- x - y
  difference : x_and_y op.minus ≡ open_number (negsuc 7) (pos 7) 4
  -- x * y
  product : x_and_y op.times ≡ open_number (negsuc 14) (pos 21) 4
  -- x div y: by 1 and by 3
  quotient : x_and_y op.quotient ≡ open_number (negsuc 4) (pos 7) 4
  -- x mod 3: from -2 to 2
  remainder : x_and_three op.modulo ≡ open_number (negsuc 1) (pos 2) 4
  -- abs(x)
  magnitude : run [] Bare blank (fun 1 var_int op.abs (x 5 ∷ [])) ≡ open_number (pos 0) (pos 7) 3
  -- x < 3 may be false or true
  truth : run [] Bare blank (bin 1 var_bool (x 1) op.less (to_var (num 5 (pos 3)))) ≡ open_number (pos 0) (pos 1) 4
  -- y ^ 2, with a par exponent
  power : run [] Bare blank (bin 1 var_int (y 1) op.power (num 5 (pos 2))) ≡ open_number (pos 0) (pos 9) 4
  -- [10, 20, 30][y]: over the places that y reaches
  access_by_a_var_index : run [] Bare blank (access 1 var_int (list 1 int (num 2 (pos 10) ∷ num 6 (pos 20) ∷ num 10 (pos 30) ∷ [])) (y 14)) ≡ open_number (pos 10) (pos 30) 6
  -- [10, 20][x - 20]: it reaches none
  access_to_no_place : run [] Bare blank (access 1 var_int (list 1 int (num 2 (pos 10) ∷ num 6 (pos 20) ∷ [])) (bin 10 var_int (x 10) op.minus (to_var (num 14 (pos 20))))) ≡ open_number (pos 0) (pos 0) 8
  -- if q then x else 9 endif
  hull_of_branches : run [] Bare blank (choose 1 var_int (slot 4 var_bool 7) (x 11) (Some (to_var (num 18 (pos 9))))) ≡ open_number (negsuc 4) (pos 9) 4

bounds_of_nodes : BoundsOfNodes
unfolding eval lines line_at place_in innermost_of innermost_in back_of back_in backed scalar_value made_value bounding_value equality is_bounded is_fixable as_bool as_int as_case as_set as_text as_items as_index as_row as_ordinal as_element as_pair as_option is_single enum_of at bool_at int_at case_at ordinal_at element_at option_at set_at enum_at text_at items_at row_at index_at pair connected ordered computed signed folded raised toward nearer quantified contains end_of up_to same_set fold_from summand instance place_count with_index shape_from is_mismatched negative is_failed limited scalar_counts made_counts bounding_counts counts_from cost bound_of bounds_of is_settled toward_ends arith_ends sign_ends extreme_from fold_ends folded_ends raised_ends index_tuples is_reached reached branch_bound branch_bounds if_bounds combined_upper bounds_at each ends_at upper_at elements_at all_ends_at all_uppers_at uppers_before scalar_bounds made_bounds lower_of upper_of value_by_bounds range_elements
bounds_of_nodes = record { sum = refl; difference = refl; product = refl; quotient = refl; remainder = refl; magnitude = refl; truth = refl; power = refl; access_by_a_var_index = refl; access_to_no_place = refl; hull_of_branches = refl }

-- Bounds comes where an end leaves the limit: the lower one is named first, and a fold's first partial result counts
record Limit : Type 0 where
  -- 2305843009213693952 + 1
  par_sum : result (bin 1 int (num 1 (pos 2305843009213693952)) op.plus (num 23 (pos 1))) ≡ stops kind.Bounds 1 (pos 2305843009213693953)
  -- sum([2305843009213693952, 1, -1]): the whole lies in the limit, the first partial sum that leaves it is named
  partial_sum : result (fun 1 int op.sum (list 5 int (num 6 (pos 2305843009213693952) ∷ num 27 (pos 1) ∷ num 30 (negsuc 0) ∷ []) ∷ [])) ≡ stops kind.Bounds 1 (pos 2305843009213693953)
  -- x * 2305843009213693952
  lower_end : run [] Bare blank (bin 1 var_int (x 1) op.times (to_var (num 5 (pos 2305843009213693952)))) ≡ stops kind.Bounds 1 (negsuc 11529215046068469759)
  -- (1 div 0) * 2305843009213693952: an undefined par node has the bounds 0..0
  undefined_product : result (bin 1 int (by_zero 2) op.times (num 13 (pos 2305843009213693952))) ≡ is_undefined 7
  -- 10 ^ 20: the first partial product that leaves the limit
  partial_product : result (bin 1 int (num 1 (pos 10)) op.power (num 6 (pos 20))) ≡ stops kind.Bounds 1 (pos 10000000000000000000)
  -- (1 div 0) ^ (-1): a negative exponent is refused all the same
  negative_exponent : result (bin 1 int (by_zero 2) op.power (num 14 (negsuc 0))) ≡ stops kind.NegativeArgument 1 (negsuc 0)

limit : Limit
unfolding eval lines line_at place_in innermost_of innermost_in back_of back_in backed scalar_value made_value bounding_value equality is_bounded is_fixable as_bool as_int as_case as_set as_text as_items as_index as_row as_ordinal as_element as_pair as_option is_single enum_of at bool_at int_at case_at ordinal_at element_at option_at set_at enum_at text_at items_at row_at index_at pair connected ordered computed signed folded raised toward nearer quantified contains end_of up_to same_set fold_from summand instance place_count with_index shape_from is_mismatched negative is_failed limited scalar_counts made_counts bounding_counts counts_from cost bound_of bounds_of is_settled toward_ends arith_ends sign_ends extreme_from fold_ends folded_ends raised_ends index_tuples is_reached reached branch_bound branch_bounds if_bounds combined_upper bounds_at each ends_at upper_at elements_at all_ends_at all_uppers_at uppers_before scalar_bounds made_bounds lower_of upper_of value_by_bounds range_elements
limit = record { par_sum = refl; partial_sum = refl; lower_end = refl; undefined_product = refl; partial_product = refl; negative_exponent = refl }
