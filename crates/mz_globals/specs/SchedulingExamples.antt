-- Worked examples of the globals of scheduling.
use Rattle.std.specs.Prelude.{◌≡◌, refl, pos, neg_ℤ, ◌+◌, ◌^◌, [], ◌∷◌, Some, None}
use Rattle.mz_operations.specs.Views.{as_bool, as_int, as_set, as_items, as_index, as_row}
use Rattle.mz_operations.specs.Arguments.{at, int_at, set_at, items_at, row_at, index_at}
use Rattle.mz_operations.specs.Numbers.{ordered, toward}
use Rattle.mz_operations.specs.Sets.{contains, intersection, union, complement, missing_from, same_set}
use Rattle.mz_operations.specs.Bounds.{bound_of, bounds_of, folded_ends, fold_ends}
use Rattle.mz_globals.specs.declared.global.Global.TheVariants.{Cumulative, Disjunctive, DisjunctiveStrict, Diffn, Packing, PackingLoad}
use Rattle.mz_globals.specs.declared.checks.Refusal.TheVariants.{Misfit, Negative, Outside}
use Rattle.mz_globals.specs.Table.{line_of, global_cost}
use Rattle.mz_globals.specs.ExampleWords.{tells, refused, yes, no, n, minus, from, ns, zs}

record Capacities : Type 0 where
  two_at_once : tells Cumulative (ns (1 ∷ 2 ∷ []) ∷ ns (2 ∷ 2 ∷ []) ∷ ns (1 ∷ 1 ∷ []) ∷ n 2 ∷ []) ≡ yes
  one_too_many : tells Cumulative (ns (1 ∷ 2 ∷ []) ∷ ns (2 ∷ 2 ∷ []) ∷ ns (1 ∷ 1 ∷ []) ∷ n 1 ∷ []) ≡ no
  alone_at_the_ends : tells Cumulative (ns (1 ∷ 2 ∷ []) ∷ ns (3 ∷ 3 ∷ []) ∷ ns (1 ∷ 1 ∷ []) ∷ n 1 ∷ []) ≡ no
  one_after_another : tells Cumulative (ns (1 ∷ 3 ∷ []) ∷ ns (2 ∷ 2 ∷ []) ∷ ns (1 ∷ 1 ∷ []) ∷ n 1 ∷ []) ≡ yes
  no_duration_uses_nothing : tells Cumulative (ns (1 ∷ 1 ∷ []) ∷ ns (0 ∷ 2 ∷ []) ∷ ns (5 ∷ 1 ∷ []) ∷ n 1 ∷ []) ≡ yes
  one_alone : tells Cumulative (ns (4 ∷ []) ∷ ns (1 ∷ []) ∷ ns (3 ∷ []) ∷ n 2 ∷ []) ≡ no
  none : tells Cumulative (ns [] ∷ ns [] ∷ ns [] ∷ n 0 ∷ []) ≡ yes
  negative_capacity : tells Cumulative (ns [] ∷ ns [] ∷ ns [] ∷ minus 1 ∷ []) ≡ no
  undefined : tells Cumulative (ns (1 ∷ []) ∷ ns (1 ∷ []) ∷ ns (1 ∷ []) ∷ None ∷ []) ≡ no
  starts_undefined : tells Cumulative (None ∷ ns (1 ∷ []) ∷ ns (1 ∷ []) ∷ n 9 ∷ []) ≡ no
  a_use_less : refused Cumulative (ns (1 ∷ 2 ∷ []) ∷ ns (1 ∷ 2 ∷ []) ∷ ns (1 ∷ []) ∷ n 1 ∷ []) ≡ Some Misfit
  durations_against_uses : refused Cumulative (None ∷ ns (1 ∷ 2 ∷ []) ∷ ns (1 ∷ []) ∷ n 1 ∷ []) ≡ Some Misfit
  starts_unknown : refused Cumulative (None ∷ ns (1 ∷ 2 ∷ []) ∷ ns (1 ∷ 1 ∷ []) ∷ n 1 ∷ []) ≡ None
  negative_duration : refused Cumulative (ns (1 ∷ []) ∷ zs (neg_ℤ (pos 1) ∷ []) ∷ zs (neg_ℤ (pos 2) ∷ []) ∷ n 1 ∷ []) ≡ Some (Negative (neg_ℤ (pos 1)))
  negative_use : refused Cumulative (ns (1 ∷ 1 ∷ []) ∷ zs (pos 0 ∷ pos 1 ∷ []) ∷ zs (pos 1 ∷ neg_ℤ (pos 2) ∷ []) ∷ n 1 ∷ []) ≡ Some (Negative (neg_ℤ (pos 2)))
  lengths_before_signs : refused Cumulative (ns (1 ∷ []) ∷ zs (neg_ℤ (pos 1) ∷ []) ∷ ns [] ∷ n 1 ∷ []) ≡ Some Misfit
  signs_before_sums : refused Cumulative (ns ((2 ^ 61) ∷ []) ∷ ns (1 ∷ []) ∷ zs (neg_ℤ (pos 2) ∷ []) ∷ n 1 ∷ []) ≡ Some (Negative (neg_ℤ (pos 2)))
  end_outside : refused Cumulative (ns (1 ∷ (2 ^ 61) ∷ []) ∷ ns (1 ∷ 1 ∷ []) ∷ ns ((2 ^ 61) ∷ 1 ∷ []) ∷ n 1 ∷ []) ≡ Some (Outside (pos (2 ^ 61 + 1)))
  uses_outside : refused Cumulative (ns (1 ∷ 1 ∷ []) ∷ ns (1 ∷ 1 ∷ []) ∷ ns ((2 ^ 61) ∷ 1 ∷ []) ∷ n 1 ∷ []) ≡ Some (Outside (pos (2 ^ 61 + 1)))
  pairs_of_three : global_cost Cumulative (2 ∷ 2 ∷ 2 ∷ 9 ∷ []) ≡ 37

capacities : Capacities
unfolding line_of at int_at set_at items_at row_at index_at as_bool as_int as_set as_items as_index as_row ordered toward contains intersection union complement missing_from same_set bound_of bounds_of folded_ends fold_ends
capacities = record { two_at_once = refl; one_too_many = refl; alone_at_the_ends = refl; one_after_another = refl; no_duration_uses_nothing = refl; one_alone = refl; none = refl; negative_capacity = refl; undefined = refl; starts_undefined = refl; a_use_less = refl; durations_against_uses = refl; starts_unknown = refl; negative_duration = refl; negative_use = refl; lengths_before_signs = refl; signs_before_sums = refl; end_outside = refl; uses_outside = refl; pairs_of_three = refl }

record TasksApart : Type 0 where
  one_after_another : tells Disjunctive (ns (3 ∷ 1 ∷ []) ∷ ns (1 ∷ 2 ∷ []) ∷ []) ≡ yes
  one_inside : tells Disjunctive (ns (1 ∷ 2 ∷ []) ∷ ns (2 ∷ 1 ∷ []) ∷ []) ≡ no
  no_duration_inside : tells Disjunctive (ns (1 ∷ 2 ∷ []) ∷ ns (3 ∷ 0 ∷ []) ∷ []) ≡ yes
  none : tells Disjunctive (ns [] ∷ ns [] ∷ []) ≡ yes
  undefined : tells Disjunctive (None ∷ ns (1 ∷ []) ∷ []) ≡ no
  a_duration_less : refused Disjunctive (ns (1 ∷ 2 ∷ []) ∷ ns (1 ∷ []) ∷ []) ≡ Some Misfit
  negative_duration : refused Disjunctive (ns (1 ∷ []) ∷ zs (neg_ℤ (pos 3) ∷ []) ∷ []) ≡ Some (Negative (neg_ℤ (pos 3)))
  end_outside : refused Disjunctive (ns ((2 ^ 61) ∷ []) ∷ ns (2 ∷ []) ∷ []) ≡ Some (Outside (pos (2 ^ 61 + 2)))
  pairs_of_both : global_cost Disjunctive (2 ∷ 2 ∷ []) ≡ 17
  strict_one_after_another : tells DisjunctiveStrict (ns (3 ∷ 1 ∷ []) ∷ ns (1 ∷ 2 ∷ []) ∷ []) ≡ yes
  strict_no_duration_inside : tells DisjunctiveStrict (ns (1 ∷ 2 ∷ []) ∷ ns (3 ∷ 0 ∷ []) ∷ []) ≡ no
  no_duration_at_the_end : tells DisjunctiveStrict (ns (1 ∷ 4 ∷ []) ∷ ns (3 ∷ 0 ∷ []) ∷ []) ≡ yes
  two_without_duration : tells DisjunctiveStrict (ns (1 ∷ 1 ∷ []) ∷ ns (0 ∷ 0 ∷ []) ∷ []) ≡ yes
  strict_of_none : tells DisjunctiveStrict (ns [] ∷ ns [] ∷ []) ≡ yes
  strict_a_duration_less : refused DisjunctiveStrict (ns (1 ∷ 2 ∷ []) ∷ ns (1 ∷ []) ∷ []) ≡ Some Misfit
  strict_negative_duration : refused DisjunctiveStrict (ns (1 ∷ []) ∷ zs (neg_ℤ (pos 3) ∷ []) ∷ []) ≡ Some (Negative (neg_ℤ (pos 3)))
  strict_end_outside : refused DisjunctiveStrict (ns ((2 ^ 61) ∷ []) ∷ ns (2 ∷ []) ∷ []) ≡ Some (Outside (pos (2 ^ 61 + 2)))

tasks_apart : TasksApart
unfolding line_of at int_at set_at items_at row_at index_at as_bool as_int as_set as_items as_index as_row ordered toward contains intersection union complement missing_from same_set bound_of bounds_of folded_ends fold_ends
tasks_apart = record { one_after_another = refl; one_inside = refl; no_duration_inside = refl; none = refl; undefined = refl; a_duration_less = refl; negative_duration = refl; end_outside = refl; pairs_of_both = refl; strict_one_after_another = refl; strict_no_duration_inside = refl; no_duration_at_the_end = refl; two_without_duration = refl; strict_of_none = refl; strict_a_duration_less = refl; strict_negative_duration = refl; strict_end_outside = refl }

record Boxes : Type 0 where
  beside : tells Diffn (ns (1 ∷ 3 ∷ []) ∷ ns (1 ∷ 1 ∷ []) ∷ ns (2 ∷ 1 ∷ []) ∷ ns (1 ∷ 1 ∷ []) ∷ []) ≡ yes
  above : tells Diffn (ns (1 ∷ 1 ∷ []) ∷ ns (1 ∷ 2 ∷ []) ∷ ns (1 ∷ 1 ∷ []) ∷ ns (1 ∷ 1 ∷ []) ∷ []) ≡ yes
  overlap : tells Diffn (ns (1 ∷ 2 ∷ []) ∷ ns (1 ∷ 1 ∷ []) ∷ ns (2 ∷ 1 ∷ []) ∷ ns (1 ∷ 1 ∷ []) ∷ []) ≡ no
  without_width_inside : tells Diffn (ns (1 ∷ 2 ∷ []) ∷ ns (1 ∷ 1 ∷ []) ∷ ns (3 ∷ 0 ∷ []) ∷ ns (3 ∷ 1 ∷ []) ∷ []) ≡ no
  none : tells Diffn (ns [] ∷ ns [] ∷ ns [] ∷ ns [] ∷ []) ≡ yes
  undefined : tells Diffn (ns (1 ∷ []) ∷ ns (1 ∷ []) ∷ ns (1 ∷ []) ∷ None ∷ []) ≡ no
  a_height_less : refused Diffn (ns (1 ∷ []) ∷ ns (1 ∷ []) ∷ ns (1 ∷ []) ∷ ns [] ∷ []) ≡ Some Misfit
  negative_height : refused Diffn (ns (1 ∷ []) ∷ ns (1 ∷ []) ∷ ns (0 ∷ []) ∷ zs (neg_ℤ (pos 1) ∷ []) ∷ []) ≡ Some (Negative (neg_ℤ (pos 1)))
  widths_before_heights : refused Diffn (ns (1 ∷ []) ∷ ns (1 ∷ []) ∷ zs (neg_ℤ (pos 2) ∷ []) ∷ zs (neg_ℤ (pos 1) ∷ []) ∷ []) ≡ Some (Negative (neg_ℤ (pos 2)))
  right_side_outside : refused Diffn (ns ((2 ^ 61) ∷ []) ∷ ns ((2 ^ 61) ∷ []) ∷ ns (1 ∷ []) ∷ ns (2 ∷ []) ∷ []) ≡ Some (Outside (pos (2 ^ 61 + 1)))
  top_outside : refused Diffn (ns (1 ∷ []) ∷ ns ((2 ^ 61) ∷ []) ∷ ns (1 ∷ []) ∷ ns (2 ∷ []) ∷ []) ≡ Some (Outside (pos (2 ^ 61 + 2)))
  pairs_of_four : global_cost Diffn (2 ∷ 2 ∷ 2 ∷ 2 ∷ []) ≡ 65

boxes : Boxes
unfolding line_of at int_at set_at items_at row_at index_at as_bool as_int as_set as_items as_index as_row ordered toward contains intersection union complement missing_from same_set bound_of bounds_of folded_ends fold_ends
boxes = record { beside = refl; above = refl; overlap = refl; without_width_inside = refl; none = refl; undefined = refl; a_height_less = refl; negative_height = refl; widths_before_heights = refl; right_side_outside = refl; top_outside = refl; pairs_of_four = refl }

record Bins : Type 0 where
  three_in_each : tells Packing (n 3 ∷ ns (1 ∷ 1 ∷ 2 ∷ []) ∷ ns (1 ∷ 2 ∷ 3 ∷ []) ∷ []) ≡ yes
  three_in_one : tells Packing (n 2 ∷ ns (1 ∷ 1 ∷ 2 ∷ []) ∷ ns (1 ∷ 2 ∷ 2 ∷ []) ∷ []) ≡ no
  none : tells Packing (n 0 ∷ ns [] ∷ ns [] ∷ []) ≡ yes
  negative_capacity : tells Packing (minus 1 ∷ ns [] ∷ ns [] ∷ []) ≡ no
  undefined : tells Packing (None ∷ ns [] ∷ ns [] ∷ []) ≡ no
  a_weight_less : refused Packing (n 3 ∷ ns (1 ∷ 1 ∷ []) ∷ ns (1 ∷ []) ∷ []) ≡ Some Misfit
  negative_weight : refused Packing (n 3 ∷ ns (1 ∷ []) ∷ zs (neg_ℤ (pos 1) ∷ []) ∷ []) ≡ Some (Negative (neg_ℤ (pos 1)))
  weights_outside : refused Packing (n 3 ∷ ns (1 ∷ 2 ∷ []) ∷ ns ((2 ^ 61) ∷ 1 ∷ []) ∷ []) ≡ Some (Outside (pos (2 ^ 61 + 1)))
  pairs_of_both : global_cost Packing (9 ∷ 3 ∷ 3 ∷ []) ≡ 37
  loads_of_two : tells PackingLoad (ns (3 ∷ 3 ∷ []) ∷ ns (1 ∷ 1 ∷ 2 ∷ []) ∷ ns (1 ∷ 2 ∷ 3 ∷ []) ∷ []) ≡ yes
  another_load : tells PackingLoad (ns (3 ∷ 2 ∷ []) ∷ ns (1 ∷ 1 ∷ 2 ∷ []) ∷ ns (1 ∷ 2 ∷ 3 ∷ []) ∷ []) ≡ no
  an_empty_bin : tells PackingLoad (ns (1 ∷ 0 ∷ []) ∷ ns (1 ∷ []) ∷ ns (1 ∷ []) ∷ []) ≡ yes
  no_such_bin : tells PackingLoad (ns (0 ∷ []) ∷ ns (2 ∷ []) ∷ ns (0 ∷ []) ∷ []) ≡ no
  from_zero : tells PackingLoad (from 0 (1 ∷ 0 ∷ []) ∷ ns (0 ∷ []) ∷ ns (1 ∷ []) ∷ []) ≡ yes
  from_five : tells PackingLoad (from 5 (0 ∷ 4 ∷ []) ∷ ns (6 ∷ 6 ∷ []) ∷ ns (1 ∷ 3 ∷ []) ∷ []) ≡ yes
  no_bin : tells PackingLoad (ns [] ∷ ns [] ∷ ns [] ∷ []) ≡ yes
  load_undefined : tells PackingLoad (None ∷ ns [] ∷ ns [] ∷ []) ≡ no
  loads_arent_paired : refused PackingLoad (ns (0 ∷ []) ∷ ns (1 ∷ 1 ∷ []) ∷ ns (0 ∷ 0 ∷ []) ∷ []) ≡ None
  load_a_weight_less : refused PackingLoad (ns (0 ∷ []) ∷ ns (1 ∷ 1 ∷ []) ∷ ns (0 ∷ []) ∷ []) ≡ Some Misfit
  load_negative_weight : refused PackingLoad (ns (0 ∷ []) ∷ ns (1 ∷ []) ∷ zs (neg_ℤ (pos 1) ∷ []) ∷ []) ≡ Some (Negative (neg_ℤ (pos 1)))
  load_weights_outside : refused PackingLoad (ns (0 ∷ []) ∷ ns (1 ∷ 2 ∷ []) ∷ ns ((2 ^ 61) ∷ 1 ∷ []) ∷ []) ≡ Some (Outside (pos (2 ^ 61 + 1)))
  pairs_of_three : global_cost PackingLoad (2 ∷ 3 ∷ 3 ∷ []) ≡ 65

bins : Bins
unfolding line_of at int_at set_at items_at row_at index_at as_bool as_int as_set as_items as_index as_row ordered toward contains intersection union complement missing_from same_set bound_of bounds_of folded_ends fold_ends
bins = record { three_in_each = refl; three_in_one = refl; none = refl; negative_capacity = refl; undefined = refl; a_weight_less = refl; negative_weight = refl; weights_outside = refl; pairs_of_both = refl; loads_of_two = refl; another_load = refl; an_empty_bin = refl; no_such_bin = refl; from_zero = refl; from_five = refl; no_bin = refl; load_undefined = refl; loads_arent_paired = refl; load_a_weight_less = refl; load_negative_weight = refl; load_weights_outside = refl; pairs_of_three = refl }
