-- Worked examples of whole models: walks, refusals and solutions.
use Rattle.std.specs.Prelude.{◌≡◌, refl, ℕ, ◌+◌, ℤ, pos, negsuc, Bool, true, false, List, [], ◌∷◌, map, Option, Some, None, nat_eq, if◌then◌else◌, length, filter}
use Rattle.std.specs.List.{flat_map, list_all}
use Rattle.mz_value.specs.Contents.{Content}
use Rattle.mz_value.specs.Shown.{range_elements}
use Rattle.mz_core.specs.Program.{Function, PlainProgram, Goal, satisfy, minimize}
use Rattle.mz_core.specs.Tree.{Tree, Decl, DeclaredType, declares, trees}
use Rattle.mz_operations.specs.Views.{as_bool, as_int, as_case, as_set, as_text, as_items, as_index, as_row, as_ordinal, as_element, as_pair, as_option, is_single, enum_of}
use Rattle.mz_operations.specs.Arguments.{at, bool_at, int_at, case_at, ordinal_at, element_at, option_at, set_at, enum_at, text_at, items_at, row_at, index_at, pair}
use Rattle.mz_operations.specs.Numbers.{connected, ordered, computed, signed, folded, raised, toward, nearer, quantified}
use Rattle.mz_operations.specs.Sets.{contains, end_of, up_to, same_set, union, intersection, difference, combined, complement, missing_from}
use Rattle.mz_operations.specs.Arrays.{fold_from, summand, instance, place_count, with_index, shape_from}
use Rattle.mz_operations.specs.Values.{equality, scalar_value, made_value, bounding_value, is_bounded, is_fixable}
use Rattle.mz_operations.specs.Answers.{is_mismatched, negative, is_failed, limited}
use Rattle.mz_operations.specs.Costs.{scalar_counts, made_counts, bounding_counts, counts_from, cost}
use Rattle.mz_operations.specs.Bounds.{bound_of, bounds_of, is_settled, toward_ends, arith_ends, sign_ends, extreme_from, fold_ends, folded_ends, raised_ends, union_from, index_tuples, is_reached, reached, branch_bound, branch_bounds, if_bounds, combined_upper}
use Rattle.mz_operations.specs.RowBounds.{bounds_at, each, ends_at, upper_at, elements_at, all_ends_at, all_uppers_at, uppers_before, scalar_bounds, made_bounds, lower_of, upper_of, value_by_bounds}
use Rattle.mz_meaning.specs.Runs.{Answer, Out, Stopped, start, then_do, give, fault}
use Rattle.mz_meaning.specs.Cells.{Given, value_of, is_true}
use Rattle.mz_meaning.specs.Domains.{Domain, Domains, Scalar, is_canonical, lies_in, all_lie_in}
use Rattle.mz_operations.specs.Lines.{lines, line_at, place_in}
use Rattle.mz_meaning.specs.Contexts.{Positive}
use Rattle.mz_meaning.specs.Chains.{innermost_of, innermost_in, back_of, back_in, backed}
use Rattle.mz_meaning.specs.Evaluation.{eval}
use Rattle.mz_meaning.specs.Unbounded.{unbounded_in, in_form, in_maybe, in_trees, in_maybes, in_rows, in_branches, in_steps, in_gens, in_items, first_unbounded}
use Rattle.mz_meaning.specs.Walk.{Limits, Assignment, Walked, walk}
use Rattle.mz_meaning.specs.Solutions.{SolvesWith}
use Rattle.mz_meaning.specs.Written.{col, int, var_int, bool, var_bool, var_opt_int, ints, var_ints, list_of, table_of, num, lit, slot, fun, call, bin, to_var, list, access, choose, let_in, range, plain, within, from, indexed, decl, param, function, i, b, set, fromto, row, no_choices, by_zero}
use Rattle.mz_base.specs.declared.kind.Kind.{Kind}
use Rattle.mz_base.specs.declared.kind.Kind.TheVariants as kind
use Rattle.mz_value.specs.Contents as values
use Rattle.mz_core.specs.declared.types.Base.TheVariants as base
use Rattle.mz_core.specs.Tree as tree
use Rattle.mz_meaning.specs.RowNumbers as op

abbrev limits : Limits
limits = record { budget = 10000; int_range = pos 1000000000 }

-- declarations in the order of their evaluation
abbrev numbers : ℕ → List Decl → List ℕ
numbers n [] = []
numbers n (d ∷ ds) = n ∷ numbers (n + 1) ds

abbrev model_with : List Function → List Decl → List ℕ → List Tree → Goal → PlainProgram
model_with fs ds order cs goal = record { cases = []; texts = []; decls = ds; order = order; functions = fs; constraints = cs; goal = goal; outputs = [] }

abbrev model : List Decl → List Tree → PlainProgram
model ds cs = model_with [] ds (numbers 0 ds) cs satisfy

abbrev given_to : PlainProgram → Assignment → (ℕ → Content) → Answer Walked
given_to p a f = walk Positive limits (Given f) a p start

-- what the constraints are under an assignment
abbrev constraints_of : Answer Walked → Answer (List (Option Content))
constraints_of answer = then_do answer (λ out. give (map value_of out.constraints))

abbrev tells : List (Option Content) → ℕ → ℕ → Answer (List (Option Content))
tells vs n k = Out vs (record { work = n; taken = []; weight = k })

abbrev domains_of : Answer Walked → Answer (List Domains)
domains_of answer = then_do answer (λ out. give (map (λ x. x.domains) out.names))

abbrev fails : Kind → ℕ → ℤ → Answer Walked
fails k at n = Stopped (fault k (col at) n)

abbrev ranges : ℤ → ℤ → Domain
ranges x y = record { base = base.Int; opt = false; set = fromto x y }

abbrev no : Option Content
no = Some (b false)

abbrev yes : Option Content
yes = Some (b true)

-- every variable has this value
abbrev all_are : Content → Assignment
all_are v k = Some v

-- var 1..0: x;
abbrev empty_domain : PlainProgram
empty_domain = model (decl 11 0 (within var_int (range 5 (pos 1) (pos 0))) None ∷ []) []

-- var 0..2: x; constraint 10 div x = 5;
abbrev quotient : PlainProgram
quotient = model (decl 11 0 (within var_int (range 5 (pos 0) (pos 2))) None ∷ []) (bin 25 var_bool (bin 25 var_int (to_var (num 25 (pos 10))) op.quotient (slot 32 var_int 0)) op.equal (to_var (num 36 (pos 5))) ∷ [])

-- array[1..2] of int: a = [1, 2]; var 0..3: i; with a[i]
abbrev a_decl : List ℤ → Decl
a_decl ns = decl 21 0 (indexed (list_of int) (Some (range 7 (pos 1) (pos 2)) ∷ []) None) (Some (list 25 int (map (num 26) ns)))

abbrev i_decl : ℤ → Decl
i_decl n = decl 42 1 (within var_int (range 36 (pos 0) n)) None

abbrev a_at_i : ℕ → Tree
a_at_i at = access at var_int (slot at (list_of int) 0) (slot (at + 2) var_int 1)

-- constraint not (a[i] = 1);
abbrev not_one : PlainProgram
not_one = model (a_decl (pos 1 ∷ pos 2 ∷ []) ∷ i_decl (pos 3) ∷ []) (fun 56 var_bool op.negation (bin 61 var_bool (a_at_i 61) op.equal (to_var (num 68 (pos 1))) ∷ []) ∷ [])

-- constraint [a[i], 1][2] = 1;
abbrev beside_one : PlainProgram
beside_one = model (a_decl (pos 1 ∷ pos 2 ∷ []) ∷ i_decl (pos 3) ∷ []) (bin 56 var_bool (access 56 var_int (list 56 var_int (a_at_i 57 ∷ to_var (num 63 (pos 1)) ∷ [])) (num 66 (pos 2))) op.equal (to_var (num 71 (pos 1))) ∷ [])

-- array[1..2] of int: a = [1, 0]; var 0..2: i; constraint if i > 0 then a[i] else 0 endif = 0;
abbrev guarded_by_if : PlainProgram
guarded_by_if = model (a_decl (pos 1 ∷ pos 0 ∷ []) ∷ i_decl (pos 2) ∷ []) (bin 56 var_bool (choose 56 var_int (bin 59 var_bool (slot 59 var_int 1) op.greater (to_var (num 63 (pos 0)))) (a_at_i 70) (Some (to_var (num 80 (pos 0))))) op.equal (to_var (num 90 (pos 0))) ∷ [])

-- function var int: f(var int: z) = let { var 1..2: y } in z + y; var 0..0: x; constraint f(x) = 1 /\ f(x) = 2;
abbrev f : Function
f = function (param 10 (plain var_int) ∷ []) (plain var_int) (let_in 35 var_int (declares (decl 50 11 (within var_int (range 45 (pos 1) (pos 2))) None) ∷ []) (bin 57 var_int (slot 57 var_int 10) op.plus (slot 61 var_int 11)))

abbrev f_of_x : ℕ → Tree
f_of_x at = call at var_int 0 (slot (at + 2) var_int 0 ∷ [])

abbrev two_choices : PlainProgram
two_choices = model_with (f ∷ []) (decl 75 0 (within var_int (range 69 (pos 0) (pos 0))) None ∷ []) (0 ∷ []) (bin 89 var_bool (bin 89 var_bool (f_of_x 89) op.equal (to_var (num 96 (pos 1)))) op.both (bin 101 var_bool (f_of_x 101) op.equal (to_var (num 108 (pos 2)))) ∷ []) satisfy

-- array[1..3] of var opt 1..5: x; constraint sum(x) = 4;
abbrev options : PlainProgram
options = model (decl 30 0 (indexed (list_of var_opt_int) (Some (range 7 (pos 1) (pos 3)) ∷ []) (Some (range 24 (pos 1) (pos 5)))) None ∷ []) (bin 44 var_bool (fun 44 var_int op.sum_of_options (slot 48 (list_of var_opt_int) 0 ∷ [])) op.equal (to_var (num 53 (pos 4))) ∷ [])

abbrev i_is : ℤ → Assignment
i_is n k = if nat_eq k 1 then Some (i n) else None

-- What constraints are under an assignment
record Constraints : Type 0 where
  -- var 1..0: x; its domain is empty
  empty : domains_of (given_to empty_domain (all_are (i (pos 1))) no_choices) ≡ Out (Scalar (record { base = base.Int; opt = false; set = [] }) ∷ []) (record { work = 4; taken = []; weight = 1 })
  -- 10 div x = 5 where x is 0, 1, 2: the domain has work 4, the constraint 7
  by_zero_is_false : constraints_of (given_to quotient (all_are (i (pos 0))) no_choices) ≡ tells (no ∷ []) 11 1
  by_one : constraints_of (given_to quotient (all_are (i (pos 1))) no_choices) ≡ tells (no ∷ []) 11 1
  by_two : constraints_of (given_to quotient (all_are (i (pos 2))) no_choices) ≡ tells (yes ∷ []) 11 1
  -- not (a[i] = 1) where i is 0, 1, 2, 3: outside the index set the comparison is false
  at_zero : constraints_of (given_to not_one (i_is (pos 0)) no_choices) ≡ tells (yes ∷ []) 21 2
  at_one : constraints_of (given_to not_one (i_is (pos 1)) no_choices) ≡ tells (no ∷ []) 21 2
  at_two : constraints_of (given_to not_one (i_is (pos 2)) no_choices) ≡ tells (yes ∷ []) 21 2
  at_three : constraints_of (given_to not_one (i_is (pos 3)) no_choices) ≡ tells (yes ∷ []) 21 2
  -- [a[i], 1][2] = 1 where i is 0, 1, 2: the array is undefined as a whole
  beside_zero : constraints_of (given_to beside_one (i_is (pos 0)) no_choices) ≡ tells (no ∷ []) 23 2
  beside_first : constraints_of (given_to beside_one (i_is (pos 1)) no_choices) ≡ tells (yes ∷ []) 23 2
  beside_second : constraints_of (given_to beside_one (i_is (pos 2)) no_choices) ≡ tells (yes ∷ []) 23 2
  -- if i > 0 then a[i] else 0 endif = 0 where i is 0, 1, 2: a[0] doesn't count
  not_chosen : constraints_of (given_to guarded_by_if (i_is (pos 0)) no_choices) ≡ tells (yes ∷ []) 25 2
  chosen_one : constraints_of (given_to guarded_by_if (i_is (pos 1)) no_choices) ≡ tells (no ∷ []) 25 2
  chosen_two : constraints_of (given_to guarded_by_if (i_is (pos 2)) no_choices) ≡ tells (yes ∷ []) 25 2
  -- sum(x) = 4 where x is [<>, 1, 3]
  sum_of_options : constraints_of (given_to options (all_are (row (pos 1) (pos 3) (values.absent ∷ i (pos 1) ∷ i (pos 3) ∷ []))) no_choices) ≡ tells (yes ∷ []) 20 1

constraints : Constraints
unfolding eval lines line_at place_in innermost_of innermost_in back_of back_in backed scalar_value made_value bounding_value equality is_bounded is_fixable as_bool as_int as_case as_set as_text as_items as_index as_row as_ordinal as_element as_pair as_option is_single enum_of at bool_at int_at case_at ordinal_at element_at option_at set_at enum_at text_at items_at row_at index_at pair connected ordered computed signed folded raised toward nearer quantified contains end_of up_to same_set fold_from summand instance place_count with_index shape_from is_mismatched negative is_failed limited scalar_counts made_counts bounding_counts counts_from cost bound_of bounds_of is_settled toward_ends arith_ends sign_ends extreme_from fold_ends folded_ends raised_ends index_tuples is_reached reached branch_bound branch_bounds if_bounds combined_upper bounds_at each ends_at upper_at elements_at all_ends_at all_uppers_at uppers_before scalar_bounds made_bounds lower_of upper_of value_by_bounds range_elements union intersection difference combined union_from complement missing_from first_unbounded unbounded_in in_form in_maybe in_trees in_maybes in_rows in_branches in_steps in_gens in_items lies_in all_lie_in
constraints = record { empty = refl; by_zero_is_false = refl; by_one = refl; by_two = refl; at_zero = refl; at_one = refl; at_two = refl; at_three = refl; beside_zero = refl; beside_first = refl; beside_second = refl; not_chosen = refl; chosen_one = refl; chosen_two = refl; sum_of_options = refl }

-- the k-th choice is k + 1
abbrev counting : ℕ → Content
counting k = i (pos (k + 1))

abbrev x_is : ℤ → Assignment
x_is n k = Some (i n)

-- x = 2 solves the second model
solves_quotient : SolvesWith limits quotient (x_is (pos 2)) None
unfolding eval lines line_at place_in innermost_of innermost_in back_of back_in backed scalar_value made_value bounding_value equality is_bounded is_fixable as_bool as_int as_case as_set as_text as_items as_index as_row as_ordinal as_element as_pair as_option is_single enum_of at bool_at int_at case_at ordinal_at element_at option_at set_at enum_at text_at items_at row_at index_at pair connected ordered computed signed folded raised toward nearer quantified contains end_of up_to same_set fold_from summand instance place_count with_index shape_from is_mismatched negative is_failed limited scalar_counts made_counts bounding_counts counts_from cost bound_of bounds_of is_settled toward_ends arith_ends sign_ends extreme_from fold_ends folded_ends raised_ends index_tuples is_reached reached branch_bound branch_bounds if_bounds combined_upper bounds_at each ends_at upper_at elements_at all_ends_at all_uppers_at uppers_before scalar_bounds made_bounds lower_of upper_of value_by_bounds range_elements union intersection difference combined union_from complement missing_from first_unbounded unbounded_in in_form in_maybe in_trees in_maybes in_rows in_branches in_steps in_gens in_items lies_in all_lie_in
solves_quotient = record { choices = no_choices; out = _; end = _; runs = refl; inside = (refl, tt); legal = tt; declared = (tt, tt); constraints = (refl, tt); objective = refl }

-- x = 0 solves the fifth: f(x) is 1 with the first choice, and 2 with the second
solves_two_choices : SolvesWith limits two_choices (x_is (pos 0)) None
unfolding eval lines line_at place_in innermost_of innermost_in back_of back_in backed scalar_value made_value bounding_value equality is_bounded is_fixable as_bool as_int as_case as_set as_text as_items as_index as_row as_ordinal as_element as_pair as_option is_single enum_of at bool_at int_at case_at ordinal_at element_at option_at set_at enum_at text_at items_at row_at index_at pair connected ordered computed signed folded raised toward nearer quantified contains end_of up_to same_set fold_from summand instance place_count with_index shape_from is_mismatched negative is_failed limited scalar_counts made_counts bounding_counts counts_from cost bound_of bounds_of is_settled toward_ends arith_ends sign_ends extreme_from fold_ends folded_ends raised_ends index_tuples is_reached reached branch_bound branch_bounds if_bounds combined_upper bounds_at each ends_at upper_at elements_at all_ends_at all_uppers_at uppers_before scalar_bounds made_bounds lower_of upper_of value_by_bounds range_elements union intersection difference combined union_from complement missing_from first_unbounded unbounded_in in_form in_maybe in_trees in_maybes in_rows in_branches in_steps in_gens in_items lies_in all_lie_in
solves_two_choices = record { choices = counting; out = _; end = _; runs = refl; inside = (refl, tt); legal = (refl, (refl, tt)); declared = (tt, tt); constraints = (refl, tt); objective = refl }

-- int: n = 3; var 1..n: x; array[1..2] of var 0..5: xs; var int: y = x + n; minimize x;
abbrev four_names : PlainProgram
four_names = model_with []
    (decl 6 0 (plain int) (Some (num 10 (pos 3)))
    ∷ decl 22 1 (within var_int (bin 17 ints (num 17 (pos 1)) op.up_to (slot 20 int 0))) None
    ∷ decl 50 2 (indexed (list_of var_int) (Some (range 30 (pos 1) (pos 2)) ∷ []) (Some (range 43 (pos 0) (pos 5)))) None
    ∷ decl 62 3 (plain var_int) (Some (bin 66 var_int (slot 66 var_int 1) op.plus (to_var (slot 70 int 0))))
    ∷ [])
    (0 ∷ 1 ∷ 2 ∷ 3 ∷ []) [] (minimize (slot 90 var_int 1))

abbrev values_of : Assignment
values_of k = if nat_eq k 1 then Some (i (pos 2)) else (if nat_eq k 2 then Some (row (pos 1) (pos 2) (i (pos 0) ∷ i (pos 5) ∷ [])) else Some (i (pos 5)))

-- x = 2, xs = [0, 5], y = 5 with the objective 2
solves_four_names : SolvesWith limits four_names values_of (Some (pos 2))
unfolding eval lines line_at place_in innermost_of innermost_in back_of back_in backed scalar_value made_value bounding_value equality is_bounded is_fixable as_bool as_int as_case as_set as_text as_items as_index as_row as_ordinal as_element as_pair as_option is_single enum_of at bool_at int_at case_at ordinal_at element_at option_at set_at enum_at text_at items_at row_at index_at pair connected ordered computed signed folded raised toward nearer quantified contains end_of up_to same_set fold_from summand instance place_count with_index shape_from is_mismatched negative is_failed limited scalar_counts made_counts bounding_counts counts_from cost bound_of bounds_of is_settled toward_ends arith_ends sign_ends extreme_from fold_ends folded_ends raised_ends index_tuples is_reached reached branch_bound branch_bounds if_bounds combined_upper bounds_at each ends_at upper_at elements_at all_ends_at all_uppers_at uppers_before scalar_bounds made_bounds lower_of upper_of value_by_bounds range_elements union intersection difference combined union_from complement missing_from first_unbounded unbounded_in in_form in_maybe in_trees in_maybes in_rows in_branches in_steps in_gens in_items lies_in all_lie_in
solves_four_names = record { choices = no_choices; out = _; end = _; runs = refl; inside = (refl, (refl, (refl, (refl, tt)))); legal = tt; declared = (tt, (tt, (tt, (record { content = i (pos 5); assigned = refl; declared = refl }, tt)))); constraints = tt; objective = refl }

-- int: m = n + 1; int: n = 2305843009213693952; in which n is evaluated first
abbrev past_the_limit : PlainProgram
past_the_limit = model_with [] (decl 6 0 (plain int) (Some (bin 10 int (slot 10 int 1) op.plus (num 14 (pos 1)))) ∷ decl 22 1 (plain int) (Some (num 26 (pos 2305843009213693952))) ∷ []) (1 ∷ 0 ∷ []) [] satisfy

abbrev par_model : DeclaredType → Tree → PlainProgram
par_model t e = model (decl 20 0 t (Some e) ∷ []) []

abbrev walked : PlainProgram → Answer Walked
walked p = given_to p (λ k. None) no_choices

-- function int: f(int: n) = f(n + 1); int: k = f(0);
abbrev endless : PlainProgram
endless = model_with (function (param 10 (plain int) ∷ []) (plain int) (call 27 int 0 (bin 29 int (slot 29 int 10) op.plus (num 33 (pos 1)) ∷ [])) ∷ []) (decl 42 0 (plain int) (Some (call 46 int 0 (num 48 (pos 0) ∷ []))) ∷ []) (0 ∷ []) [] satisfy

-- function int: g(int: n) = if n = 0 then 1 else g(n - 1) + g(n - 1) endif; int: k = g(40);
abbrev g : ℕ → Tree
g at = call at int 0 (bin (at + 2) int (slot (at + 2) int 10) op.minus (num (at + 6) (pos 1)) ∷ [])

abbrev doubling : PlainProgram
doubling = model_with (function (param 10 (plain int) ∷ []) (plain int) (choose 27 int (bin 30 bool (slot 30 int 10) op.equal (num 34 (pos 0))) (num 41 (pos 1)) (Some (bin 48 int (g 48) op.plus (g 59)))) ∷ []) (decl 80 0 (plain int) (Some (call 84 int 0 (num 86 (pos 40) ∷ []))) ∷ []) (0 ∷ []) [] satisfy

abbrev kind_and_number : Answer Walked → Option (Kind × ℤ)
kind_and_number (Out x s) = None
kind_and_number (Stopped f) = Some (f.kind, f.number)

-- the values of each element of x in `options`, and all assignments of three
abbrev each_value : List Content
each_value = values.absent ∷ i (pos 1) ∷ i (pos 2) ∷ i (pos 3) ∷ i (pos 4) ∷ i (pos 5) ∷ []

abbrev all_rows : List Content
all_rows = flat_map (λ x. flat_map (λ y. map (λ z. row (pos 1) (pos 3) (x ∷ y ∷ z ∷ [])) each_value) each_value) each_value

abbrev all_met : Answer (List (Option Content)) → Bool
all_met (Out vs s) = list_all is_true vs
all_met (Stopped f) = false

-- A budget of 1000, and the fifteen solutions of `sum(x) = 4`
record Counts : Type 0 where
  -- the budget plus 1
  budget_of_1000 : kind_and_number (walk Positive (record { budget = 1000; int_range = pos 1000 }) (Given no_choices) (λ k. None) doubling start) ≡ Some (kind.Budget, pos 1001)
  fifteen : length (filter (λ v. all_met (constraints_of (given_to options (all_are v) no_choices))) all_rows) ≡ 15

counts : Counts
unfolding eval lines line_at place_in innermost_of innermost_in back_of back_in backed scalar_value made_value bounding_value equality is_bounded is_fixable as_bool as_int as_case as_set as_text as_items as_index as_row as_ordinal as_element as_pair as_option is_single enum_of at bool_at int_at case_at ordinal_at element_at option_at set_at enum_at text_at items_at row_at index_at pair connected ordered computed signed folded raised toward nearer quantified contains end_of up_to same_set fold_from summand instance place_count with_index shape_from is_mismatched negative is_failed limited scalar_counts made_counts bounding_counts counts_from cost bound_of bounds_of is_settled toward_ends arith_ends sign_ends extreme_from fold_ends folded_ends raised_ends index_tuples is_reached reached branch_bound branch_bounds if_bounds combined_upper bounds_at each ends_at upper_at elements_at all_ends_at all_uppers_at uppers_before scalar_bounds made_bounds lower_of upper_of value_by_bounds range_elements union intersection difference combined union_from complement missing_from first_unbounded unbounded_in in_form in_maybe in_trees in_maybes in_rows in_branches in_steps in_gens in_items lies_in all_lie_in
counts = record { budget_of_1000 = refl; fifteen = refl }

-- What a walk is refused for
record Refusals : Type 0 where
  -- int: m = n + 1, where n is 2305843009213693952
  bounds : walked past_the_limit ≡ fails kind.Bounds 10 (pos 2305843009213693953)
  -- a function without end
  depth : walked endless ≡ fails kind.Depth 29 (pos 601)
  -- int: a = 1 div 0: at the value
  undefined_value : walked (par_model (plain int) (by_zero 24)) ≡ fails kind.ParUndefined 24 (pos 0)
  -- 1..3: a = 4
  outside_its_set : walked (par_model (within int (range 1 (pos 1) (pos 3))) (num 24 (pos 4))) ≡ fails kind.ParUndefined 24 (pos 0)
  -- 1..1 div 0: a = 1: at the set
  undefined_set : walked (par_model (within int (bin 1 ints (num 1 (pos 1)) op.up_to (by_zero 4))) (num 24 (pos 1))) ≡ fails kind.ParUndefined 1 (pos 0)
  -- array[1..2] of int: a = [1, 2, 3]: at the value
  index_mismatch : walked (par_model (indexed (list_of int) (Some (range 7 (pos 1) (pos 2)) ∷ []) None) (list 24 int (num 25 (pos 1) ∷ num 28 (pos 2) ∷ num 31 (pos 3) ∷ []))) ≡ fails kind.IndexMismatch 24 (pos 0)
  -- array[1..2] of int: a = [1 div 0, 1, 2]: an undefined array isn't tested
  undefined_array : walked (par_model (indexed (list_of int) (Some (range 7 (pos 1) (pos 2)) ∷ []) None) (list 24 int (by_zero 25 ∷ num 34 (pos 1) ∷ num 37 (pos 2) ∷ []))) ≡ fails kind.ParUndefined 24 (pos 0)
  -- array[{1, 3}] of int: a = [1, 2]: the index set isn't contiguous
  holes : walked (par_model (indexed (list_of int) (Some (tree.node (col 7) ints (tree.set (trees (num 8 (pos 1) ∷ num 11 (pos 3) ∷ [])))) ∷ []) None) (list 24 int (num 25 (pos 1) ∷ num 28 (pos 2) ∷ []))) ≡ fails kind.IndexMismatch 7 (pos 0)
  -- array[1..1 div 0, {1, 3}] of int: each is tested as it is evaluated
  undefined_first : walked (par_model (indexed (table_of int) (Some (bin 7 ints (num 7 (pos 1)) op.up_to (by_zero 10)) ∷ Some (tree.node (col 19) ints (tree.set (trees (num 20 (pos 1) ∷ num 23 (pos 3) ∷ [])))) ∷ []) None) (list 44 int [])) ≡ fails kind.ParUndefined 7 (pos 0)
  -- array[1..100000000] of int: a = [1]: Budget at the name
  budget : walked (par_model (indexed (list_of int) (Some (range 7 (pos 1) (pos 100000000)) ∷ []) None) (list 24 int (num 25 (pos 1) ∷ []))) ≡ fails kind.Budget 20 (pos 10001)
  -- int: a = 2 ^ (-1)
  negative_argument : walked (par_model (plain int) (bin 24 int (num 24 (pos 2)) op.power (num 29 (negsuc 0)))) ≡ fails kind.NegativeArgument 24 (negsuc 0)
  -- int: a = 1 div 0; var set of int: s; the second comes first: at its name
  unbounded_set : walked (model (decl 6 0 (plain int) (Some (by_zero 10)) ∷ decl 35 1 (plain var_ints) None ∷ []) []) ≡ fails kind.UnboundedSet 35 (pos 0)
  -- constraint let { array[int] of var int: z } in true: a local one, and before it in source order one in a function
  unbounded_locals : walked (model_with (function [] (plain int) (let_in 20 int (declares (decl 40 5 (indexed (list_of var_int) (None ∷ []) None) None) ∷ []) (num 50 (pos 1))) ∷ []) [] [] (let_in 60 bool (declares (decl 80 6 (indexed (list_of var_int) (None ∷ []) None) None) ∷ []) (lit 90 true) ∷ []) satisfy) ≡ fails kind.UnboundedSet 40 (pos 0)
  -- constraint not (let { var 1..2: y } in y = 1)
  free_in_context : walked (model [] (fun 12 var_bool op.negation (let_in 17 var_bool (declares (decl 33 5 (from 23 (within var_int (range 27 (pos 1) (pos 2)))) None) ∷ []) (bin 40 var_bool (slot 40 var_int 5) op.equal (to_var (num 44 (pos 1)))) ∷ []) ∷ [])) ≡ fails kind.FreeInContext 23 (pos 0)

refusals : Refusals
unfolding eval lines line_at place_in innermost_of innermost_in back_of back_in backed scalar_value made_value bounding_value equality is_bounded is_fixable as_bool as_int as_case as_set as_text as_items as_index as_row as_ordinal as_element as_pair as_option is_single enum_of at bool_at int_at case_at ordinal_at element_at option_at set_at enum_at text_at items_at row_at index_at pair connected ordered computed signed folded raised toward nearer quantified contains end_of up_to same_set fold_from summand instance place_count with_index shape_from is_mismatched negative is_failed limited scalar_counts made_counts bounding_counts counts_from cost bound_of bounds_of is_settled toward_ends arith_ends sign_ends extreme_from fold_ends folded_ends raised_ends index_tuples is_reached reached branch_bound branch_bounds if_bounds combined_upper bounds_at each ends_at upper_at elements_at all_ends_at all_uppers_at uppers_before scalar_bounds made_bounds lower_of upper_of value_by_bounds range_elements union intersection difference combined union_from complement missing_from first_unbounded unbounded_in in_form in_maybe in_trees in_maybes in_rows in_branches in_steps in_gens in_items lies_in all_lie_in
refusals = record { bounds = refl; depth = refl; undefined_value = refl; outside_its_set = refl; undefined_set = refl; index_mismatch = refl; undefined_array = refl; holes = refl; undefined_first = refl; budget = refl; negative_argument = refl; unbounded_set = refl; unbounded_locals = refl; free_in_context = refl }

-- whether a value lies in the domain of `var 0..1`, and of others
abbrev zero_one : Domain
zero_one = ranges (pos 0) (pos 1)

-- A value is of its variable's base
record ValuesOfDomains : Type 0 where
  a_number : lies_in zero_one (i (pos 1)) ≡ true
  a_truth_is_none : lies_in zero_one (b true) ≡ false
  a_number_is_no_truth : lies_in (record { base = base.Bool; opt = false; set = fromto (pos 0) (pos 1) }) (i (pos 1)) ≡ false
  a_case_of_another_enum : lies_in (record { base = base.Enum 1; opt = false; set = fromto (pos 1) (pos 3) }) (values.case 0 (pos 2)) ≡ false
  absent : lies_in (record { base = base.Int; opt = true; set = fromto (pos 1) (pos 3) }) values.absent ≡ true
  -- nothing lies in an empty domain
  absent_in_none : lies_in (record { base = base.Int; opt = true; set = [] }) values.absent ≡ false
  absent_without_option : lies_in zero_one values.absent ≡ false
  a_part : lies_in (record { base = base.SetInt; opt = false; set = fromto (pos 1) (pos 5) }) (set ((pos 1, pos 2) ∷ (pos 4, pos 4) ∷ [])) ≡ true
  -- a set has one list of ranges
  not_canonical : lies_in (record { base = base.SetInt; opt = false; set = fromto (pos 1) (pos 5) }) (set ((pos 1, pos 2) ∷ (pos 3, pos 4) ∷ [])) ≡ false

values_of_domains : ValuesOfDomains
unfolding eval lines line_at place_in innermost_of innermost_in back_of back_in backed scalar_value made_value bounding_value equality is_bounded is_fixable as_bool as_int as_case as_set as_text as_items as_index as_row as_ordinal as_element as_pair as_option is_single enum_of at bool_at int_at case_at ordinal_at element_at option_at set_at enum_at text_at items_at row_at index_at pair connected ordered computed signed folded raised toward nearer quantified contains end_of up_to same_set fold_from summand instance place_count with_index shape_from is_mismatched negative is_failed limited scalar_counts made_counts bounding_counts counts_from cost bound_of bounds_of is_settled toward_ends arith_ends sign_ends extreme_from fold_ends folded_ends raised_ends index_tuples is_reached reached branch_bound branch_bounds if_bounds combined_upper bounds_at each ends_at upper_at elements_at all_ends_at all_uppers_at uppers_before scalar_bounds made_bounds lower_of upper_of value_by_bounds range_elements union intersection difference combined union_from complement missing_from first_unbounded unbounded_in in_form in_maybe in_trees in_maybes in_rows in_branches in_steps in_gens in_items lies_in all_lie_in is_canonical
values_of_domains = record { a_number = refl; a_truth_is_none = refl; a_number_is_no_truth = refl; a_case_of_another_enum = refl; absent = refl; absent_in_none = refl; absent_without_option = refl; a_part = refl; not_canonical = refl }
