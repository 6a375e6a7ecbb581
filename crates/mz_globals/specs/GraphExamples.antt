-- Worked examples of the globals of tables, automata and graphs.
use Rattle.std.specs.Prelude.{◌≡◌, refl, pos, neg_ℤ, ◌^◌, [], ◌∷◌, Some, None}
use Rattle.mz_operations.specs.Views.{as_bool, as_int, as_set, as_items, as_index, as_row}
use Rattle.mz_operations.specs.Arguments.{at, int_at, set_at, items_at, row_at, index_at}
use Rattle.mz_operations.specs.Numbers.{ordered, toward}
use Rattle.mz_operations.specs.Sets.{contains, intersection, union, complement, missing_from, same_set}
use Rattle.mz_operations.specs.Bounds.{bound_of, bounds_of, folded_ends, fold_ends}
use Rattle.mz_globals.specs.declared.global.Global.TheVariants.{Element, Table, Regular, Inverse, Circuit}
use Rattle.mz_globals.specs.declared.checks.Refusal.TheVariants.{Misfit, Negative}
use Rattle.mz_globals.specs.Table.{line_of, global_cost}
use Rattle.mz_globals.specs.ExampleWords.{tells, refused, yes, no, n, minus, from, ns, s, table}

record Elements : Type 0 where
  second : tells Element (n 2 ∷ ns (5 ∷ 6 ∷ []) ∷ n 6 ∷ []) ≡ yes
  another : tells Element (n 2 ∷ ns (5 ∷ 6 ∷ []) ∷ n 5 ∷ []) ≡ no
  beyond_the_last : tells Element (n 3 ∷ ns (5 ∷ 6 ∷ []) ∷ n 6 ∷ []) ≡ no
  before_the_first : tells Element (n 0 ∷ ns (5 ∷ 6 ∷ []) ∷ n 5 ∷ []) ≡ no
  from_zero : tells Element (n 0 ∷ from 0 (5 ∷ 6 ∷ []) ∷ n 5 ∷ []) ≡ yes
  from_five : tells Element (n 6 ∷ from 5 (1 ∷ 2 ∷ 3 ∷ []) ∷ n 2 ∷ []) ≡ yes
  of_none : tells Element (n 1 ∷ ns [] ∷ n 0 ∷ []) ≡ no
  undefined : tells Element (None ∷ ns (1 ∷ []) ∷ n 1 ∷ []) ≡ no
  elements : global_cost Element (9 ∷ 3 ∷ 9 ∷ []) ≡ 4
  second_row : tells Table (ns (1 ∷ 2 ∷ []) ∷ table 2 2 (3 ∷ 4 ∷ 1 ∷ 2 ∷ []) ∷ []) ≡ yes
  no_row : tells Table (ns (2 ∷ 1 ∷ []) ∷ table 2 2 (3 ∷ 4 ∷ 1 ∷ 2 ∷ []) ∷ []) ≡ no
  not_across_rows : tells Table (ns (4 ∷ 1 ∷ []) ∷ table 2 2 (3 ∷ 4 ∷ 1 ∷ 2 ∷ []) ∷ []) ≡ no
  of_no_row : tells Table (ns (1 ∷ 2 ∷ []) ∷ table 0 2 [] ∷ []) ≡ no
  no_column : tells Table (ns [] ∷ table 3 0 [] ∷ []) ≡ yes
  no_column_of_many_rows : tells Table (ns [] ∷ table (2 ^ 61) 0 [] ∷ []) ≡ yes
  no_column_of_no_row : tells Table (ns [] ∷ table 0 0 [] ∷ []) ≡ no
  table_undefined : tells Table (ns (1 ∷ []) ∷ None ∷ []) ≡ no
  a_column_more : refused Table (ns (1 ∷ []) ∷ table 1 2 (1 ∷ 1 ∷ []) ∷ []) ≡ Some Misfit
  table_unknown : refused Table (ns (1 ∷ []) ∷ None ∷ []) ≡ None
  elements_of_both : global_cost Table (2 ∷ 6 ∷ []) ≡ 9

elements : Elements
unfolding line_of at int_at set_at items_at row_at index_at as_bool as_int as_set as_items as_index as_row ordered toward contains intersection union complement missing_from same_set bound_of bounds_of folded_ends fold_ends
elements = record { second = refl; another = refl; beyond_the_last = refl; before_the_first = refl; from_zero = refl; from_five = refl; of_none = refl; undefined = refl; elements = refl; second_row = refl; no_row = refl; not_across_rows = refl; of_no_row = refl; no_column = refl; no_column_of_many_rows = refl; no_column_of_no_row = refl; table_undefined = refl; a_column_more = refl; table_unknown = refl; elements_of_both = refl }

-- of states 1 and 2 and letters 1 and 2: 1 stays at the letter 1 and goes to 2 at the letter 2; 2 stays at the letter 1 and has no step at the letter 2
record Automata : Type 0 where
  accepted : tells Regular (ns (1 ∷ 2 ∷ 1 ∷ []) ∷ n 2 ∷ n 2 ∷ table 2 2 (1 ∷ 2 ∷ 2 ∷ 0 ∷ []) ∷ n 1 ∷ s ((2, 2) ∷ []) ∷ []) ≡ yes
  no_step : tells Regular (ns (2 ∷ 2 ∷ []) ∷ n 2 ∷ n 2 ∷ table 2 2 (1 ∷ 2 ∷ 2 ∷ 0 ∷ []) ∷ n 1 ∷ s ((1, 2) ∷ []) ∷ []) ≡ no
  not_final : tells Regular (ns (1 ∷ []) ∷ n 2 ∷ n 2 ∷ table 2 2 (1 ∷ 2 ∷ 2 ∷ 0 ∷ []) ∷ n 1 ∷ s ((2, 2) ∷ []) ∷ []) ≡ no
  no_letter : tells Regular (ns (3 ∷ []) ∷ n 2 ∷ n 2 ∷ table 2 2 (1 ∷ 2 ∷ 2 ∷ 0 ∷ []) ∷ n 1 ∷ s ((1, 2) ∷ []) ∷ []) ≡ no
  letter_zero : tells Regular (ns (0 ∷ []) ∷ n 2 ∷ n 2 ∷ table 2 2 (1 ∷ 2 ∷ 2 ∷ 0 ∷ []) ∷ n 2 ∷ s ((1, 2) ∷ []) ∷ []) ≡ no
  no_letters : tells Regular (ns [] ∷ n 2 ∷ n 2 ∷ table 2 2 (1 ∷ 2 ∷ 2 ∷ 0 ∷ []) ∷ n 2 ∷ s ((2, 2) ∷ []) ∷ []) ≡ yes
  from_zero : tells Regular (ns [] ∷ n 2 ∷ n 2 ∷ table 2 2 (1 ∷ 2 ∷ 2 ∷ 0 ∷ []) ∷ n 0 ∷ s ((0, 2) ∷ []) ∷ []) ≡ no
  from_a_third_state : tells Regular (ns [] ∷ n 2 ∷ n 2 ∷ table 2 2 (1 ∷ 2 ∷ 2 ∷ 0 ∷ []) ∷ n 3 ∷ s ((1, 3) ∷ []) ∷ []) ≡ no
  step_outside : tells Regular (ns (1 ∷ []) ∷ n 1 ∷ n 1 ∷ table 1 1 (2 ∷ []) ∷ n 1 ∷ s ((1, 2) ∷ []) ∷ []) ≡ no
  no_states : tells Regular (ns [] ∷ n 0 ∷ n 0 ∷ table 0 0 [] ∷ n 1 ∷ s ((1, 1) ∷ []) ∷ []) ≡ no
  undefined : tells Regular (ns [] ∷ n 2 ∷ n 2 ∷ table 2 2 (1 ∷ 2 ∷ 2 ∷ 0 ∷ []) ∷ n 2 ∷ None ∷ []) ≡ no
  a_row_less : refused Regular (ns [] ∷ n 3 ∷ n 2 ∷ table 2 2 (1 ∷ 2 ∷ 2 ∷ 0 ∷ []) ∷ n 1 ∷ s [] ∷ []) ≡ Some Misfit
  a_column_more : refused Regular (ns [] ∷ n 2 ∷ n 1 ∷ table 2 2 (1 ∷ 2 ∷ 2 ∷ 0 ∷ []) ∷ n 1 ∷ s [] ∷ []) ≡ Some Misfit
  negative_states : refused Regular (ns [] ∷ minus 1 ∷ n 2 ∷ table 2 2 (1 ∷ 2 ∷ 2 ∷ 0 ∷ []) ∷ n 1 ∷ s [] ∷ []) ≡ Some Misfit
  negative_states_of_no_grid : refused Regular (ns [] ∷ minus 1 ∷ minus 2 ∷ None ∷ n 1 ∷ s [] ∷ []) ≡ Some (Negative (neg_ℤ (pos 1)))
  negative_letters_of_no_grid : refused Regular (ns [] ∷ n 2 ∷ minus 2 ∷ None ∷ n 1 ∷ s [] ∷ []) ≡ Some (Negative (neg_ℤ (pos 2)))
  states_unknown : refused Regular (ns [] ∷ None ∷ n 2 ∷ table 2 2 (1 ∷ 2 ∷ 2 ∷ 0 ∷ []) ∷ n 1 ∷ s [] ∷ []) ≡ None
  states_unknown_and_a_column_less : refused Regular (ns [] ∷ None ∷ n 3 ∷ table 2 2 (1 ∷ 2 ∷ 2 ∷ 0 ∷ []) ∷ n 1 ∷ s [] ∷ []) ≡ Some Misfit
  steps : global_cost Regular (3 ∷ 2 ∷ 4 ∷ 8 ∷ 1 ∷ 2 ∷ []) ≡ 28
  without_states : global_cost Regular (3 ∷ 0 ∷ 4 ∷ 8 ∷ 1 ∷ 2 ∷ []) ≡ 4
  no_word : global_cost Regular (0 ∷ 2 ∷ 4 ∷ 8 ∷ 1 ∷ 2 ∷ []) ≡ 1

automata : Automata
unfolding line_of at int_at set_at items_at row_at index_at as_bool as_int as_set as_items as_index as_row ordered toward contains intersection union complement missing_from same_set bound_of bounds_of folded_ends fold_ends
automata = record { accepted = refl; no_step = refl; not_final = refl; no_letter = refl; letter_zero = refl; no_letters = refl; from_zero = refl; from_a_third_state = refl; step_outside = refl; no_states = refl; undefined = refl; a_row_less = refl; a_column_more = refl; negative_states = refl; negative_states_of_no_grid = refl; negative_letters_of_no_grid = refl; states_unknown = refl; states_unknown_and_a_column_less = refl; steps = refl; without_states = refl; no_word = refl }

record Permutations : Type 0 where
  there_and_back : tells Inverse (ns (2 ∷ 3 ∷ 1 ∷ []) ∷ ns (3 ∷ 1 ∷ 2 ∷ []) ∷ []) ≡ yes
  not_back : tells Inverse (ns (2 ∷ 3 ∷ 1 ∷ []) ∷ ns (2 ∷ 3 ∷ 1 ∷ []) ∷ []) ≡ no
  longer : tells Inverse (ns (1 ∷ []) ∷ ns (1 ∷ 1 ∷ []) ∷ []) ≡ no
  no_such_index : tells Inverse (ns (2 ∷ []) ∷ ns (1 ∷ []) ∷ []) ≡ no
  from_elsewhere : tells Inverse (from 0 (5 ∷ []) ∷ from 5 (0 ∷ []) ∷ []) ≡ yes
  none : tells Inverse (ns [] ∷ ns [] ∷ []) ≡ yes
  undefined : tells Inverse (ns [] ∷ None ∷ []) ≡ no
  lengths_differ : refused Inverse (ns (1 ∷ []) ∷ ns (1 ∷ 1 ∷ []) ∷ []) ≡ None
  pairs_of_both : global_cost Inverse (2 ∷ 3 ∷ []) ≡ 26
  a_round : tells Circuit (ns (2 ∷ 3 ∷ 1 ∷ []) ∷ []) ≡ yes
  two_rounds : tells Circuit (ns (2 ∷ 1 ∷ 3 ∷ []) ∷ []) ≡ no
  leads_outside : tells Circuit (ns (2 ∷ 3 ∷ 4 ∷ []) ∷ []) ≡ no
  never_back_to_the_first : tells Circuit (ns (2 ∷ 3 ∷ 2 ∷ []) ∷ []) ≡ no
  of_none : tells Circuit (ns [] ∷ []) ≡ yes
  of_one_from_zero : tells Circuit (from 0 (0 ∷ []) ∷ []) ≡ yes
  of_one_to_elsewhere : tells Circuit (from 0 (1 ∷ []) ∷ []) ≡ no
  from_five : tells Circuit (from 5 (6 ∷ 7 ∷ 5 ∷ []) ∷ []) ≡ yes
  circuit_undefined : tells Circuit (None ∷ []) ≡ no
  pairs : global_cost Circuit (3 ∷ []) ≡ 10

permutations : Permutations
unfolding line_of at int_at set_at items_at row_at index_at as_bool as_int as_set as_items as_index as_row ordered toward contains intersection union complement missing_from same_set bound_of bounds_of folded_ends fold_ends
permutations = record { there_and_back = refl; not_back = refl; longer = refl; no_such_index = refl; from_elsewhere = refl; none = refl; undefined = refl; lengths_differ = refl; pairs_of_both = refl; a_round = refl; two_rounds = refl; leads_outside = refl; never_back_to_the_first = refl; of_none = refl; of_one_from_zero = refl; of_one_to_elsewhere = refl; from_five = refl; circuit_undefined = refl; pairs = refl }
