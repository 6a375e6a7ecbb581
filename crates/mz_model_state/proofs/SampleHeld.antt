-- The worked example is held, and so its instance is the model's.
use Rattle.std.proofs.Common.{◌≡◌, ◌∙◌, refl, ℕ, pos, true, false, Bool, ◌&&◌, List, [], ◌∷◌, map, Option, Some, None, inr, sym, ap, arith}
use Rattle.std.specs.Ordering.{int_eq}
use Rattle.std.proofs.lemmas.Int.{ints}
use Rattle.mz_value.specs.Shown.{range_elements}
use Rattle.mz_value.specs.Contents.{Content}
use Rattle.mz_value.specs.Contents as values
use Rattle.mz_operations.specs.Arguments.{at, bool_at, int_at, case_at, ordinal_at, element_at, option_at, set_at, enum_at, text_at, items_at, row_at, index_at, pair}
use Rattle.mz_operations.specs.Answers.{is_mismatched, negative, is_failed, limited}
use Rattle.mz_operations.specs.Arrays.{place_count}
use Rattle.mz_operations.specs.Bounds.{bound_of, bounds_of, is_settled, combined_upper}
use Rattle.mz_operations.specs.Costs.{scalar_counts, made_counts, bounding_counts, counts_from, cost}
use Rattle.mz_operations.specs.Lines.{lines, line_at, place_in}
use Rattle.mz_operations.specs.Numbers.{connected, ordered, computed}
use Rattle.mz_operations.specs.RowBounds.{bounds_at, each, ends_at, upper_at, elements_at, scalar_bounds, made_bounds}
use Rattle.mz_operations.specs.Sets.{contains, end_of, up_to, same_set, union, intersection, complement, missing_from}
use Rattle.mz_operations.specs.Values.{equality, scalar_value, made_value, bounding_value, is_bounded, is_fixable}
use Rattle.mz_operations.specs.Views.{as_bool, as_int, as_case, as_set, as_text, as_items, as_index, as_row, as_ordinal, as_element, as_pair, as_option, is_single, enum_of}
use Rattle.mz_meaning.specs.Cells.{Mode, Blank, Given, Bare, held}
use Rattle.mz_meaning.specs.Cells as cells
use Rattle.mz_meaning.specs.Chains.{innermost_of, innermost_in, back_of, back_in, backed}
use Rattle.mz_meaning.specs.Contexts.{Positive}
use Rattle.mz_meaning.specs.Evaluation.{eval}
use Rattle.mz_meaning.specs.Runs.{State, Out, start}
use Rattle.mz_meaning.specs.Unbounded.{unbounded_in, in_form, in_maybe, in_trees, in_maybes, in_rows, in_branches, in_steps, in_gens, in_items, first_unbounded}
use Rattle.mz_meaning.specs.Walk.{Assignment, Walked, walk}
use Rattle.mz_core.specs.declared.types.Base.TheVariants as base
use Rattle.mz_arena.specs.Numbering.{local_ids, local_ids_from}
use Rattle.mz_arena.specs.Values.{Term, number, set, numbers, sets, empty, is_true, comparison_term}
use Rattle.mz_instance.specs.Sample.{sample}
use Rattle.mz_instance.proofs.SampleHolds.{is_instance, nodes}
use Rattle.mz_model_meaning.specs.Decoded.{AreShaped}
use Rattle.mz_model_meaning.specs.Modeled.{AreVarsOf, Modeled}
use Rattle.mz_symbol.specs.Choices.{IsChoosable}
use Rattle.mz_symbol.specs.Symbols.{value_by, symbol_value, domain_of}
use Rattle.mz_symbol.specs.Runs.{IsRun}
use Rattle.mz_symbol.specs.Readings.{Reading, IsGiven, Reads, no_values, taken_in, weight_in, state_of}
use Rattle.mz_model_state.specs.Hands.{AreOne, Assigned, walked_at, all_places, IsRooted, IsHeld}
use Rattle.mz_model_state.specs.Made.{IsMade}
use Rattle.mz_model_state.specs.Sample.{limits, o, s, b, model, choice, run, given_name, truth_cell, is_two, o_name, s_name, b_name, constraint, hand}
use Rattle.mz_model_state.proofs.Models.{models}
use Rattle.mz_model_state.proofs.Roots.{no_roots, constraint_roots}
use Rattle.mz_model_state.proofs.Tests.{bit_true}

-- ---- the walk over the model

-- what it gives, where the slots have the values u, v and w, and the choice the value c
abbrev cells_given : Mode → Option Content → Option Content → Option Content → Option Content → Walked
cells_given m u v w c = record { names = given_name m u o_name ∷ given_name m v s_name ∷ given_name m w b_name ∷ []; constraints = truth_cell m (is_two c) ∷ []; objective = None }

abbrev ended : Mode → State
ended m = record { work = run.work; taken = taken_in m run.choices; weight = weight_in m run.weight }

given : (f : ℕ → Content) (a : Assignment) → walk Positive limits (Given f) a model start ≡ Out (cells_given (Given f) (a 0) (a 1) (a 2) (Some (f 0))) (ended (Given f))
unfolding eval lines line_at place_in innermost_of innermost_in back_of back_in backed scalar_value made_value bounding_value equality is_bounded is_fixable as_bool as_int as_case as_set as_text as_items as_index as_row as_ordinal as_element as_pair as_option is_single enum_of at bool_at int_at case_at ordinal_at element_at option_at set_at enum_at text_at items_at row_at index_at pair connected ordered computed contains end_of up_to same_set place_count is_mismatched negative is_failed limited scalar_counts made_counts bounding_counts counts_from cost bound_of bounds_of is_settled combined_upper bounds_at each ends_at upper_at elements_at scalar_bounds made_bounds range_elements union intersection complement missing_from first_unbounded unbounded_in in_form in_maybe in_trees in_maybes in_rows in_branches in_steps in_gens in_items
given f a = refl

bare : (a : Assignment) → walk Positive limits Bare a model start ≡ Out (cells_given Bare None None None None) (ended Bare)
unfolding eval lines line_at place_in innermost_of innermost_in back_of back_in backed scalar_value made_value bounding_value equality is_bounded is_fixable as_bool as_int as_case as_set as_text as_items as_index as_row as_ordinal as_element as_pair as_option is_single enum_of at bool_at int_at case_at ordinal_at element_at option_at set_at enum_at text_at items_at row_at index_at pair connected ordered computed contains end_of up_to same_set place_count is_mismatched negative is_failed limited scalar_counts made_counts bounding_counts counts_from cost bound_of bounds_of is_settled combined_upper bounds_at each ends_at upper_at elements_at scalar_bounds made_bounds range_elements union intersection complement missing_from first_unbounded unbounded_in in_form in_maybe in_trees in_maybes in_rows in_branches in_steps in_gens in_items
bare a = refl

same_cells : (m : Mode) (u v w c x y z d : Option Content) → u ≡ x → v ≡ y → w ≡ z → c ≡ d → Out (cells_given m u v w c) (ended m) ≡ Out (cells_given m x y z d) (ended m)
same_cells m u v w c x y z d e f g h =
    ap (λ u. Out (cells_given m u v w c) (ended m)) e
    ∙ ap (λ v. Out (cells_given m x v w c) (ended m)) f
    ∙ ap (λ w. Out (cells_given m x y w c) (ended m)) g
    ∙ ap (λ c. Out (cells_given m x y z c) (ended m)) h

one : (x y : Option Content) → AreOne x y → x ≡ y
one x y is = is.first ∙ sym is.second

abbrev reading_as : Mode → (ℕ → Term) → (ℕ → Option (List Content)) → Reading
reading_as m t ls = record { mode = m; term = t; line = ls }

walks_as : (m : Mode) (t : ℕ → Term) (ls : ℕ → Option (List Content)) (a : Assignment) → Reads (reading_as m t ls) run → Assigned (reading_as m t ls) a hand.names → walk Positive limits m a model start ≡ Out (walked_at (reading_as m t ls) hand) (state_of (reading_as m t ls) run)
walks_as (Blank true) t ls a reads assigned = absurd (let e = reads.choices in cc)
walks_as (Blank false) t ls a reads assigned = bare a
walks_as (Given f) t ls a reads assigned =
    let are = assigned tt in
    given f a ∙ same_cells (Given f) (a 0) (a 1) (a 2) (Some (f 0)) _ _ _ _ (one (a 0) _ are.0) (one (a 1) _ are.1.0) (one (a 2) _ are.1.1.0) (sym (reads.choices 0 choice refl))

-- ---- the constraint's root

two_is : (x : Term) → is_two (value_by base.Int x) ≡ is_true (comparison_term int_eq x (Some (number (pos 2))))
unfolding comparison_term scalar_value option_at at as_option is_single equality as_pair
two_is None = refl
two_is (Some (number n)) = sym (bit_true (int_eq n (pos 2)))
two_is (Some (set s)) = refl
two_is (Some (numbers ns)) = refl
two_is (Some (sets ss)) = refl
two_is (Some empty) = refl

truth_held : (m : Mode) (q : Bool) → IsGiven m → cells.is_true (held m (Some (values.bool q))) ≡ q
truth_held (Blank n) q given = absurd given
truth_held (Given f) q given = refl

last_true : (q : Bool) → q ≡ q && true
last_true true = refl
last_true false = refl

rooted : IsRooted run constraint
rooted = constraint_roots run constraint (λ r given reads.
    let two = reads.nodes.kinds 8 _ refl refl no_values in
    let root = reads.nodes.kinds 9 _ refl refl no_values in
    truth_held r.mode (is_two (symbol_value r.term choice.symbol)) given
    ∙ two_is (r.term 7)
    ∙ ap (λ x. is_true (comparison_term int_eq (r.term 7) x)) (sym two)
    ∙ ap (λ (x : Term). is_true x) (sym root)
    ∙ last_true (is_true (r.term 9)))

-- ---- the run

choosable : IsChoosable (domain_of choice)
choosable = record {
  base = refl;
  truth = λ h. absurd (cc);
  allowed = λ h. refl;
  canonical = (omega (arith, ints), tt, tt);
  limited = ((omega (arith, ints), omega (arith, ints)), (omega (arith, ints), omega (arith, ints)), tt);
  some = λ h e. cc;
}

is_run : IsRun run
is_run = record {
  arena = is_instance.arena;
  locals = (record { there = _; stands = refl; free = refl; local = refl; sort = refl; mark = λ n. refl; own = refl; number = refl; over = _; domain = refl; set = refl }, tt);
  domains = (choosable, tt);
  lines = λ t h k l e. absurd (cc);
}

-- ---- all of it

pub is_held : IsHeld limits model sample hand
unfolding local_ids local_ids_from
is_held = record {
  run = is_run;
  vars = nodes;
  walks = λ r a reads assigned. walks_as r.mode r.term r.line a reads assigned;
  rooted = (no_roots run hand.names o_name refl (inr refl), (no_roots run hand.names s_name refl (inr refl), (no_roots run hand.names b_name refl (inr refl), tt)));
  met = (rooted, tt);
  goal = refl;
  aimed = tt;
  arena = refl;
  roots = refl;
  names = refl;
  pars = λ r. refl;
  whole = refl;
}

vars : AreVarsOf (o ∷ s ∷ b ∷ []) sample.vars
vars = (record { name = refl; base = refl; opt = refl; index = refl }, (record { name = refl; base = refl; opt = refl; index = refl }, (record { name = refl; base = refl; opt = refl; index = refl }, tt)))

pub is_modeled : Modeled limits model sample
is_modeled = models limits model sample hand is_instance vars is_held

-- ---- and the instance is made of it

shaped : AreShaped (map domain_of (all_places hand.names))
shaped =
    let suited = is_instance.suited in (
      record { base = refl; part = suited.1.0; allowed = λ h. refl },
      (
        record { base = refl; part = suited.1.1.0; allowed = λ h. absurd (cc) },
        (record { base = refl; part = suited.1.1.1.0; allowed = λ h. refl }, (record { base = refl; part = suited.1.1.1.1.0; allowed = λ h. refl }, tt)),
      ),
    )

pub is_made : IsMade run hand.names sample
unfolding local_ids local_ids_from
is_made = record {
  run = is_run;
  arena = refl;
  made = (
    record { index = refl; cells = refl; places = ((refl, refl), tt) },
    (record { index = refl; cells = refl; places = ((refl, refl), tt) }, (record { index = refl; cells = refl; places = ((refl, refl), ((refl, refl), tt)) }, tt)),
  );
  nodes = nodes;
  shaped = shaped;
  vars = is_instance.vars;
  placed = is_instance.no_more;
  noted = λ id e stands local. is_instance.arena.numbered.all id e stands local;
  roots = is_instance.roots;
  goal = tt;
}
