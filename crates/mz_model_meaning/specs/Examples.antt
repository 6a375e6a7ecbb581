-- Worked examples: the walks over a small model, and what its instance says of them.
-- var opt 1..2: o; var set of 1..2: s; array[1..2] of var bool: b; constraint let { var 1..2: y } in y = 2;
use Rattle.std.specs.Prelude.{refl, ◌≡◌, ℕ, ℤ, pos, true, false, [], ◌∷◌, Some, None, nat_eq, if◌then◌else◌}
use Rattle.mz_value.specs.Shown.{range_elements}
use Rattle.mz_value.specs.Contents.{Content}
use Rattle.mz_value.specs.Contents as values
use Rattle.mz_operations.specs.Views.{as_bool, as_int, as_case, as_set, as_text, as_items, as_index, as_row, as_ordinal, as_element, as_pair, as_option, is_single, enum_of}
use Rattle.mz_operations.specs.Arguments.{at, bool_at, int_at, case_at, ordinal_at, element_at, option_at, set_at, enum_at, text_at, items_at, row_at, index_at, pair}
use Rattle.mz_operations.specs.Numbers.{connected, ordered, computed}
use Rattle.mz_operations.specs.Sets.{contains, end_of, up_to, same_set, union, intersection, complement, missing_from}
use Rattle.mz_operations.specs.Arrays.{place_count}
use Rattle.mz_operations.specs.Values.{equality, scalar_value, made_value, bounding_value, is_bounded, is_fixable}
use Rattle.mz_operations.specs.Answers.{is_mismatched, negative, is_failed, limited}
use Rattle.mz_operations.specs.Costs.{scalar_counts, made_counts, bounding_counts, counts_from, cost}
use Rattle.mz_operations.specs.Bounds.{bound_of, bounds_of, is_settled, combined_upper}
use Rattle.mz_operations.specs.RowBounds.{bounds_at, each, ends_at, upper_at, elements_at, scalar_bounds, made_bounds}
use Rattle.mz_core.specs.declared.types.Base.TheVariants as base
use Rattle.mz_core.specs.Program.{PlainProgram, satisfy}
use Rattle.mz_core.specs.Tree.{Tree, Decl, declares}
use Rattle.mz_arena.specs.Entries.{folded as over_nodes}
use Rattle.mz_arena.specs.Values.{Values, comparison_term}
use Rattle.mz_arena.specs.Terms.{terms}
use Rattle.mz_arena.specs.Numbering.{by_id}
use Rattle.mz_meaning.specs.Domains.{Domain, lies_in, all_lie_in}
use Rattle.mz_operations.specs.Lines.{lines, line_at, place_in}
use Rattle.mz_meaning.specs.Chains.{innermost_of, innermost_in, back_of, back_in, backed}
use Rattle.mz_meaning.specs.Evaluation.{eval}
use Rattle.mz_meaning.specs.Unbounded.{unbounded_in, in_form, in_maybe, in_trees, in_maybes, in_rows, in_branches, in_steps, in_gens, in_items, first_unbounded}
use Rattle.mz_meaning.specs.Walk.{Limits, Assignment}
use Rattle.mz_meaning.specs.Written.{list_of, var_int, var_bool, var_opt_int, var_ints, num, slot, bin, to_var, let_in, range, within, indexed, decl, i, row, fromto}
use Rattle.mz_meaning.specs.RowNumbers as op
use Rattle.mz_instance.specs.Sample.{one_or_two, sample}
use Rattle.mz_model_meaning.specs.Decoded.{Tells, Chooses}
use Rattle.mz_model_meaning.specs.Modeled.{AreVarsOf, names_in, IsWalked}

abbrev limits : Limits
limits = record { budget = 10000; int_range = pos 1000000000 }

abbrev o : Decl
o = decl 14 0 (within var_opt_int (range 9 (pos 1) (pos 2))) None

abbrev s : Decl
s = decl 36 1 (within var_ints (range 31 (pos 1) (pos 2))) None

abbrev b : Decl
b = decl 60 2 (indexed (list_of var_bool) (Some (range 45 (pos 1) (pos 2)) ∷ []) None) None

abbrev y_is_two : Tree
y_is_two = let_in 75 var_bool (declares (decl 90 20 (within var_int (range 85 (pos 1) (pos 2))) None) ∷ []) (bin 98 var_bool (slot 98 var_int 20) op.equal (to_var (num 102 (pos 2))))

abbrev pub model : PlainProgram
model = record { cases = []; texts = []; decls = o ∷ s ∷ b ∷ []; order = 0 ∷ 1 ∷ 2 ∷ []; functions = []; constraints = y_is_two ∷ []; goal = satisfy; outputs = [] }

abbrev choice : Domain
choice = record { base = base.Int; opt = false; set = one_or_two }

vars : AreVarsOf (o ∷ s ∷ b ∷ []) sample.vars
vars = (record { name = refl; base = refl; opt = refl; index = refl }, (record { name = refl; base = refl; opt = refl; index = refl }, (record { name = refl; base = refl; opt = refl; index = refl }, tt)))

-- o is 2 where its occurrence, the part 0, is 1; s is {1}; b is [false, true]
abbrev x : ℤ → Values
x there = record { number = λ k. if nat_eq k 0 then there else (if nat_eq k 1 then pos 2 else (if nat_eq k 3 then pos 0 else pos 1)); set = λ k. if nat_eq k 2 then fromto (pos 1) (pos 1) else [] }

abbrev y : ℤ → Values
y n = record { number = λ k. n; set = λ k. [] }

abbrev a : Content → Assignment
a v k = if nat_eq k 0 then Some v else (if nat_eq k 1 then Some (values.set None (fromto (pos 1) (pos 1))) else Some (row (pos 1) (pos 2) (values.bool false ∷ values.bool true ∷ [])))

abbrev c : ℤ → ℕ → Content
c n k = i n

-- the assignment has the values of the parts, whether o is there or absent
there : Tells (names_in model sample) 0 (x (pos 1)) (a (i (pos 2)))
there = (refl, (refl, (refl, tt)))

gone : Tells (names_in model sample) 0 (x (pos 0)) (a values.absent)
gone = (refl, (refl, (refl, tt)))

chosen : Chooses (choice ∷ []) 0 0 (y (pos 2)) (c (pos 2))
chosen = (refl, tt)

-- the choice is 2: the constraint is met, and the root is true
met : IsWalked limits model sample (choice ∷ []) (a (i (pos 2))) (c (pos 2)) (x (pos 1)) (y (pos 2))
unfolding eval lines line_at place_in innermost_of innermost_in back_of back_in backed scalar_value made_value bounding_value equality is_bounded is_fixable as_bool as_int as_case as_set as_text as_items as_index as_row as_ordinal as_element as_pair as_option is_single enum_of at bool_at int_at case_at ordinal_at element_at option_at set_at enum_at text_at items_at row_at index_at pair connected ordered computed contains end_of up_to same_set place_count is_mismatched negative is_failed limited scalar_counts made_counts bounding_counts counts_from cost bound_of bounds_of is_settled combined_upper bounds_at each ends_at upper_at elements_at scalar_bounds made_bounds range_elements union intersection complement missing_from first_unbounded unbounded_in in_form in_maybe in_trees in_maybes in_rows in_branches in_steps in_gens in_items lies_in all_lie_in terms over_nodes by_id comparison_term
met = record { out = _; end = _; runs = refl; names = refl; pars = refl; takes = refl; sound = λ n fits chosen holds. record { declared = (tt, (tt, (tt, tt))); constraints = (refl, tt); objective = holds.goal }; complete = λ n fits chosen is. record { roots = (refl, tt); goal = is.objective } }

-- it is 1: neither holds, and o may be absent
unmet : IsWalked limits model sample (choice ∷ []) (a values.absent) (c (pos 1)) (x (pos 0)) (y (pos 1))
unfolding eval lines line_at place_in innermost_of innermost_in back_of back_in backed scalar_value made_value bounding_value equality is_bounded is_fixable as_bool as_int as_case as_set as_text as_items as_index as_row as_ordinal as_element as_pair as_option is_single enum_of at bool_at int_at case_at ordinal_at element_at option_at set_at enum_at text_at items_at row_at index_at pair connected ordered computed contains end_of up_to same_set place_count is_mismatched negative is_failed limited scalar_counts made_counts bounding_counts counts_from cost bound_of bounds_of is_settled combined_upper bounds_at each ends_at upper_at elements_at scalar_bounds made_bounds range_elements union intersection complement missing_from first_unbounded unbounded_in in_form in_maybe in_trees in_maybes in_rows in_branches in_steps in_gens in_items lies_in all_lie_in terms over_nodes by_id comparison_term
unmet = record { out = _; end = _; runs = refl; names = refl; pars = refl; takes = refl; sound = λ n fits chosen holds. absurd (let e = holds.roots.0 in cc); complete = λ n fits chosen is. absurd (let e = is.constraints.0 in cc) }
