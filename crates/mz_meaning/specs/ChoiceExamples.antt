-- Worked examples of free locals: where they may be evaluated, and which choices they take.
use Rattle.std.specs.Prelude.{◌≡◌, refl, ℕ, ◌+◌, pos, negsuc, true, false, List, [], ◌∷◌, Option, Some, None}
use Rattle.mz_value.specs.Contents.{Content}
use Rattle.mz_value.specs.Shown.{range_elements}
use Rattle.mz_core.specs.Types.{PlainType}
use Rattle.mz_core.specs.Tree.{Tree, Step, Decl, declares, place_of}
use Rattle.mz_core.specs.Coercions.{PathLink}
use Rattle.mz_operations.specs.Views.{as_bool, as_int, as_case, as_set, as_text, as_items, as_index, as_row, as_ordinal, as_element, as_pair, as_option, is_single, enum_of}
use Rattle.mz_operations.specs.Arguments.{at, bool_at, int_at, case_at, ordinal_at, element_at, option_at, set_at, enum_at, text_at, items_at, row_at, index_at, pair}
use Rattle.mz_operations.specs.Numbers.{connected, ordered, computed, signed, folded, raised, toward, nearer, quantified}
use Rattle.mz_operations.specs.Sets.{contains, end_of, up_to, same_set}
use Rattle.mz_operations.specs.Arrays.{fold_from, summand, instance, place_count, with_index, shape_from}
use Rattle.mz_operations.specs.Values.{equality, scalar_value, made_value, bounding_value, is_bounded, is_fixable}
use Rattle.mz_operations.specs.Answers.{is_mismatched, negative, is_failed, limited}
use Rattle.mz_operations.specs.Costs.{scalar_counts, made_counts, bounding_counts, counts_from, cost}
use Rattle.mz_operations.specs.Bounds.{bound_of, bounds_of, is_settled, toward_ends, arith_ends, sign_ends, extreme_from, fold_ends, folded_ends, raised_ends, index_tuples, is_reached, reached, branch_bound, branch_bounds, if_bounds, combined_upper}
use Rattle.mz_operations.specs.RowBounds.{bounds_at, each, ends_at, upper_at, elements_at, all_ends_at, all_uppers_at, uppers_before, scalar_bounds, made_bounds, lower_of, upper_of, value_by_bounds}
use Rattle.mz_meaning.specs.Runs.{Answer, Out}
use Rattle.mz_meaning.specs.Cells.{Cell, Par, Blank, Bare, Given, no_names}
use Rattle.mz_meaning.specs.Domains.{Domain}
use Rattle.mz_operations.specs.Lines.{lines, line_at, place_in}
use Rattle.mz_meaning.specs.Chains.{innermost_of, innermost_in, back_of, back_in, backed}
use Rattle.mz_meaning.specs.Evaluation.{eval}
use Rattle.mz_meaning.specs.Written.{int, var_int, var_bool, var_opt_int, ints, var_ints, list_of, num, lit, slot, fun, call, step, chain, bin, to_var, to_int, list, comp, gen, choose, let_in, range, plain, within, from, indexed, decl, function, i, set, fromto, row, between, var_number, var_set, var_row, run, gives, stops, by_zero}
use Rattle.mz_base.specs.declared.kind.Kind.TheVariants as kind
use Rattle.mz_core.specs.declared.types.Base.TheVariants as base
use Rattle.mz_core.specs.declared.types.Coercion.TheVariants as coercion
use Rattle.mz_meaning.specs.RowNumbers as op

-- let { var 1..2: y } in y = 1, whose declaration begins at 34
abbrev y : Decl
y = decl 44 20 (from 34 (within var_int (range 38 (pos 1) (pos 2)))) None

abbrev free : Tree
free = let_in 28 var_bool (declares y ∷ []) (bin 51 var_bool (slot 51 var_int 20) op.equal (to_var (num 55 (pos 1))))

-- let { var 1..2: y } in y
abbrev free_number : Tree
free_number = let_in 28 var_int (declares y ∷ []) (slot 51 var_int 20)

abbrev yes : Tree
yes = to_var (lit 90 true)

-- what the places are tested by: no values, but the domains of the choices that were taken
abbrev noting : Tree → Answer Cell
noting e = run [] (Blank true) no_names e

abbrev refused : Tree → Type 0
refused e = noting e ≡ stops kind.FreeInContext 34 (pos 0)

abbrev domain : Domain
domain = record { base = base.Int; opt = false; set = fromto (pos 1) (pos 2) }

-- a truth value with one choice, by so much work; the local declaration is weight
abbrev one_choice : ℕ → Answer Cell
one_choice n = Out (var_number (pos 0) (pos 1) None) (record { work = n; taken = domain ∷ []; weight = 1 })

abbrev bools : List Tree → Tree
bools es = list 80 var_bool es

-- the coercion from bool to int of an array's elements
abbrev to_ints : List PathLink
to_ints = (coercion.BoolToInt, list_of var_int) ∷ []

-- `++` with coercions of its operands
abbrev append : List PathLink → List PathLink → Tree → Step
append l r e = record { start = place_of e; row = op.append; ty = list_of var_int; left = l; right = r; operand = e }

abbrev ones : Tree
ones = list 70 var_int (to_var (num 71 (pos 1)) ∷ [])

-- A free local may not be evaluated in these places
record RefusedPlaces : Type 0 where
  -- not free
  operand_of_not : refused (fun 1 var_bool op.negation (free ∷ []))
  -- true <-> free, and free <-> true
  equivalence : refused (bin 1 var_bool yes op.iff free)
  equivalence_left : refused (bin 1 var_bool free op.iff yes)
  -- free xor true
  exclusive_or : refused (bin 1 var_bool free op.xor yes)
  -- true = free, and free < true: comparisons of Booleans
  equal_booleans : refused (bin 1 var_bool yes op.equal free)
  less_booleans : refused (bin 1 var_bool free op.less yes)
  -- free -> true: the left side of `->`
  premise : refused (bin 1 var_bool free op.implies yes)
  -- true <- free: the right side of `<-`
  premise_behind : refused (bin 1 var_bool yes op.implied_by free)
  -- if free then true else true endif
  condition : refused (choose 1 var_bool free yes (Some yes))
  -- [1 | n in 1..2 where free]
  filter : refused (comp 1 var_opt_int (num 2 (pos 1)) (gen (60 ∷ []) (range 11 (pos 1) (pos 2)) (Some free) ∷ []))
  -- [1 | n in [free_number]]: a generator's set
  generator : refused (comp 1 var_int (num 2 (pos 1)) (gen (60 ∷ []) (list 11 var_int (free_number ∷ [])) None ∷ []))
  -- bool2int(free)
  argument_of_bool2int : refused (fun 1 var_int op.bool2int (free ∷ []))
  -- free + 1: the coercion from bool to int
  coerced : refused (bin 1 var_int (to_int free) op.plus (to_var (num 70 (pos 1))))
  -- [free] ++ [1], and [1] ++ [free]
  coerced_list : refused (chain 1 (list_of var_int) (bools (free ∷ [])) (append to_ints [] ones ∷ []))
  coerced_last_list : refused (chain 1 (list_of var_int) ones (append [] to_ints (bools (free ∷ [])) ∷ []))
  -- [1] ++ [free] ++ [true], and [1] ++ [true] ++ [free]: the coercion of the inner node holds for both its operands
  coerced_node : refused (chain 1 (list_of var_int) ones (append [] to_ints (bools (free ∷ [])) ∷ step op.append (list_of var_bool) (bools (yes ∷ [])) ∷ []))
  coerced_node_of_last : refused (chain 1 (list_of var_int) ones (append [] to_ints (bools (yes ∷ [])) ∷ step op.append (list_of var_bool) (bools (free ∷ [])) ∷ []))
  -- xorall([free]), clause([true], [free]), count([free])
  argument_of_xorall : refused (fun 1 var_bool op.xorall (bools (free ∷ []) ∷ []))
  argument_of_clause : refused (fun 1 var_bool op.clause (bools (yes ∷ []) ∷ bools (free ∷ []) ∷ []))
  argument_of_count : refused (fun 1 var_int op.count (bools (free ∷ []) ∷ []))
  -- not f(), whose body is free: a body has the context of its call
  in_a_body : run (function [] (plain var_bool) free ∷ []) (Blank true) no_names (fun 1 var_bool op.negation (call 5 var_bool 0 [] ∷ [])) ≡ stops kind.FreeInContext 34 (pos 0)
  -- (free = true) = true: within a chain
  first_of_a_chain : refused (chain 1 var_bool free (step op.equal var_bool yes ∷ step op.equal var_bool yes ∷ []))

refused_places : RefusedPlaces
unfolding eval lines line_at place_in innermost_of innermost_in back_of back_in backed scalar_value made_value bounding_value equality is_bounded is_fixable as_bool as_int as_case as_set as_text as_items as_index as_row as_ordinal as_element as_pair as_option is_single enum_of at bool_at int_at case_at ordinal_at element_at option_at set_at enum_at text_at items_at row_at index_at pair connected ordered computed signed folded raised toward nearer quantified contains end_of up_to same_set fold_from summand instance place_count with_index shape_from is_mismatched negative is_failed limited scalar_counts made_counts bounding_counts counts_from cost bound_of bounds_of is_settled toward_ends arith_ends sign_ends extreme_from fold_ends folded_ends raised_ends index_tuples is_reached reached branch_bound branch_bounds if_bounds combined_upper bounds_at each ends_at upper_at elements_at all_ends_at all_uppers_at uppers_before scalar_bounds made_bounds lower_of upper_of value_by_bounds range_elements
refused_places = record { operand_of_not = refl; equivalence = refl; equivalence_left = refl; exclusive_or = refl; equal_booleans = refl; less_booleans = refl; premise = refl; premise_behind = refl; condition = refl; filter = refl; generator = refl; argument_of_bool2int = refl; coerced = refl; coerced_list = refl; coerced_last_list = refl; coerced_node = refl; coerced_node_of_last = refl; argument_of_xorall = refl; argument_of_clause = refl; argument_of_count = refl; in_a_body = refl; first_of_a_chain = refl }

-- Every other place keeps the context. Evaluating `free` has work 9: 4 of the set, 4 of the comparison and 1
record AllowedPlaces : Type 0 where
  -- free
  alone : noting free ≡ one_choice 9
  -- true -> free
  conclusion : noting (bin 1 var_bool yes op.implies free) ≡ one_choice 12
  -- free <- true
  conclusion_first : noting (bin 1 var_bool free op.implied_by yes) ≡ one_choice 12
  -- free \/ true
  disjunct : noting (bin 1 var_bool free op.either yes) ≡ one_choice 12
  -- [free] ++ [true]
  in_a_list : noting (chain 1 (list_of var_bool) (bools (free ∷ [])) (step op.append (list_of var_bool) (bools (yes ∷ [])) ∷ [])) ≡ Out (var_row (pos 1) (pos 2) (between (pos 0) (pos 1) ∷ between (pos 1) (pos 1) ∷ []) None) (record { work = 16; taken = domain ∷ []; weight = 1 })
  -- free_number = 1: a comparison of integers
  compared_number : noting (bin 1 var_bool free_number op.equal (to_var (num 70 (pos 1)))) ≡ one_choice 9
  -- forall([free])
  in_forall : noting (fun 1 var_bool op.forall (bools (free ∷ []) ∷ [])) ≡ one_choice 13
  -- if true then free else true endif
  branch : noting (choose 1 var_bool (lit 4 true) free (Some yes)) ≡ one_choice 11

allowed_places : AllowedPlaces
unfolding eval lines line_at place_in innermost_of innermost_in back_of back_in backed scalar_value made_value bounding_value equality is_bounded is_fixable as_bool as_int as_case as_set as_text as_items as_index as_row as_ordinal as_element as_pair as_option is_single enum_of at bool_at int_at case_at ordinal_at element_at option_at set_at enum_at text_at items_at row_at index_at pair connected ordered computed signed folded raised toward nearer quantified contains end_of up_to same_set fold_from summand instance place_count with_index shape_from is_mismatched negative is_failed limited scalar_counts made_counts bounding_counts counts_from cost bound_of bounds_of is_settled toward_ends arith_ends sign_ends extreme_from fold_ends folded_ends raised_ends index_tuples is_reached reached branch_bound branch_bounds if_bounds combined_upper bounds_at each ends_at upper_at elements_at all_ends_at all_uppers_at uppers_before scalar_bounds made_bounds lower_of upper_of value_by_bounds range_elements
allowed_places = record { alone = refl; conclusion = refl; conclusion_first = refl; disjunct = refl; in_a_list = refl; compared_number = refl; in_forall = refl; branch = refl }

-- the k-th choice is k + 1
abbrev counting : ℕ → Content
counting k = i (pos (k + 1))

abbrev choosing : Tree → Answer Cell
choosing e = run [] (Given counting) no_names e

abbrev chose : Cell → ℕ → List Domain → Answer Cell
chose c n ds = Out c (record { work = n; taken = ds; weight = 1 })

-- let { var S: y } in y, where S is a tree and y has this type
abbrev local : PlainType → Option Tree → Tree
local t set = let_in 1 t (declares (decl 14 20 (indexed t [] set) None) ∷ []) (slot 20 t 20)

abbrev locals : Option Tree → Tree
locals set = let_in 1 (list_of var_int) (declares (decl 28 20 (indexed (list_of var_int) (Some (range 13 (pos 1) (pos 2)) ∷ []) set) None) ∷ []) (slot 40 (list_of var_int) 20)

-- Each evaluation of a free local takes choices of its own, one for each element
record Choices : Type 0 where
  -- (let { var 1..2: y } in y) + (let { var 1..2: y } in y): the first choice is 1 and the second 2
  two_evaluations : choosing (bin 28 var_int free_number op.plus free_number) ≡ Out (var_number (pos 2) (pos 4) (Some (i (pos 3)))) (record { work = 14; taken = domain ∷ domain ∷ []; weight = 2 })
  -- let { array[1..2] of var 1..2: y } in y: one for each place, and the elements are counted
  one_for_each_place : choosing (locals (Some (range 20 (pos 1) (pos 2)))) ≡ chose (var_row (pos 1) (pos 2) (between (pos 1) (pos 2) ∷ between (pos 1) (pos 2) ∷ []) (Some (row (pos 1) (pos 2) (i (pos 1) ∷ i (pos 2) ∷ [])))) 12 (domain ∷ domain ∷ [])
  -- let { var 1..0: y } in 7: an empty domain takes nothing, and the let is undefined
  empty_domain : choosing (let_in 1 int (declares (decl 14 20 (within var_int (range 8 (pos 1) (pos 0))) None) ∷ []) (num 20 (pos 7))) ≡ Out (Par None) (record { work = 6; taken = []; weight = 1 })
  -- let { var 1..1 div 0: y } in 7: nor does an undefined set
  undefined_domain : choosing (let_in 1 int (declares (decl 20 20 (within var_int (bin 8 ints (num 8 (pos 1)) op.up_to (by_zero 11))) None) ∷ []) (num 30 (pos 7))) ≡ Out (Par None) (record { work = 9; taken = []; weight = 1 })
  -- let { array[1..2] of var 1..0: y } in y: it has its places, and nothing is taken
  empty_places : choosing (locals (Some (range 20 (pos 1) (pos 0)))) ≡ chose (var_row (pos 1) (pos 2) (between (pos 0) (pos 0) ∷ between (pos 0) (pos 0) ∷ []) None) 12 []
  -- let { array[1..0] of var 1..0: y } in 7: an array without places is there
  no_places : choosing (let_in 1 int (declares (decl 28 20 (indexed (list_of var_int) (Some (range 13 (pos 1) (pos 0)) ∷ []) (Some (range 22 (pos 1) (pos 0)))) None) ∷ []) (num 40 (pos 7))) ≡ Out (Par (Some (i (pos 7)))) (record { work = 10; taken = []; weight = 1 })
  -- let { var int: y } in y: from -1000 to 1000
  default_range : noting (local var_int None) ≡ chose (var_number (negsuc 999) (pos 1000) None) 2 (record { base = base.Int; opt = false; set = fromto (negsuc 999) (pos 1000) } ∷ [])
  -- let { var bool: y } in y
  truth : noting (local var_bool None) ≡ chose (var_number (pos 0) (pos 1) None) 2 (record { base = base.Bool; opt = false; set = fromto (pos 0) (pos 1) } ∷ [])
  -- let { var opt 1..2: y } in y
  option : noting (local var_opt_int (Some (range 10 (pos 1) (pos 2)))) ≡ chose (var_number (pos 1) (pos 2) None) 6 (record { base = base.Int; opt = true; set = fromto (pos 1) (pos 2) } ∷ [])
  -- let { var set of 1..2: y } in y
  a_set : noting (local var_ints (Some (range 10 (pos 1) (pos 2)))) ≡ chose (var_set [] (fromto (pos 1) (pos 2)) None) 6 (record { base = base.SetInt; opt = false; set = fromto (pos 1) (pos 2) } ∷ [])
  -- a bare run notes nothing
  bare : run [] Bare no_names free_number ≡ gives (var_number (pos 1) (pos 2) None) 6

choices : Choices
unfolding eval lines line_at place_in innermost_of innermost_in back_of back_in backed scalar_value made_value bounding_value equality is_bounded is_fixable as_bool as_int as_case as_set as_text as_items as_index as_row as_ordinal as_element as_pair as_option is_single enum_of at bool_at int_at case_at ordinal_at element_at option_at set_at enum_at text_at items_at row_at index_at pair connected ordered computed signed folded raised toward nearer quantified contains end_of up_to same_set fold_from summand instance place_count with_index shape_from is_mismatched negative is_failed limited scalar_counts made_counts bounding_counts counts_from cost bound_of bounds_of is_settled toward_ends arith_ends sign_ends extreme_from fold_ends folded_ends raised_ends index_tuples is_reached reached branch_bound branch_bounds if_bounds combined_upper bounds_at each ends_at upper_at elements_at all_ends_at all_uppers_at uppers_before scalar_bounds made_bounds lower_of upper_of value_by_bounds range_elements
choices = record { two_evaluations = refl; one_for_each_place = refl; empty_domain = refl; undefined_domain = refl; empty_places = refl; no_places = refl; default_range = refl; truth = refl; option = refl; a_set = refl; bare = refl }
