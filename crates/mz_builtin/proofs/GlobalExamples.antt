-- Worked examples of globals: a call's arguments, and what it takes.
use Rattle.std.proofs.Common.{◌≡◌, List, [], ◌∷◌, map, refl, codes}
use Rattle.mz_core.specs.Order.{below, same_type, same_dims, dims_below}
use Rattle.mz_overload.specs.Best.{all_below, is_least, resolution}
use Rattle.mz_builtin.specs.Table.{built_ins, globals, placed_from, table}
use Rattle.mz_builtin.specs.Readings.{with_number, with_base, with_indices, enums_from, index_enums_from, with_rank, ranks_from, choices, cases, sets_of_cases, scalars, sets, meanings, readings_of, result_var, opt_of, base_of, type_of, types_with, types_of_rank, array_types, joined, products, index_lists, index_sets, param_types, given_indices, array_indices, result_type, numbered, all_params, with_mark, with_meaning, of_entry}
use Rattle.mz_builtin.specs.Signatures.{has_name, of_named, made, signatures, fitting}
use Rattle.mz_builtin.proofs.Calls.{form_of, takes, none_fits, call}
use Rattle.mz_builtin.proofs.ExampleTypes.{b, n, e, sn, se, empty, bot, i, ie, jf, va, op, li, by, Example, example, called, expected}

abbrev calls_of_order : List Example
calls_of_order =
    example (codes "all_different") (li (va n) ∷ []) (takes 0 (li (va n) ∷ []) (va b))
    ∷ example (codes "all_different") (by (i ∷ i ∷ []) n ∷ []) none_fits
    ∷ example (codes "alldifferent") (by (ie ∷ []) e ∷ []) (takes 0 (by (ie ∷ []) n ∷ []) b)
    ∷ example (codes "alldifferent_except_0") (li n ∷ []) (takes 0 (li n ∷ []) b)
    ∷ example (codes "all_equal") (li bot ∷ []) (takes 0 (li n ∷ []) b)
    ∷ example (codes "increasing") (li b ∷ []) (takes 0 (li n ∷ []) b)
    ∷ example (codes "decreasing") (li (va e) ∷ []) (takes 0 (li (va n) ∷ []) (va b))
    ∷ example (codes "strictly_increasing") (sn ∷ []) (takes 0 (li n ∷ []) b)
    ∷ example (codes "strictly_decreasing") (li (op n) ∷ []) none_fits
    ∷ example (codes "strictly_decreasing") (li n ∷ []) (takes 0 (li n ∷ []) b)
    ∷ example (codes "lex_less") (se ∷ li (va n) ∷ []) (takes 0 (li (va n) ∷ li (va n) ∷ []) (va b))
    ∷ example (codes "lex_lesseq") (li n ∷ by (ie ∷ []) n ∷ []) (takes 0 (li n ∷ by (ie ∷ []) n ∷ []) b)
    ∷ example (codes "sort") (li (va n) ∷ li n ∷ []) (takes 0 (li (va n) ∷ li (va n) ∷ []) (va b))
    ∷ example (codes "value_precede") (n ∷ e ∷ li (va n) ∷ []) (takes 0 (n ∷ n ∷ li (va n) ∷ []) (va b))
    ∷ example (codes "value_precede") (va n ∷ n ∷ li n ∷ []) none_fits
    ∷ example (codes "maximum") (va n ∷ li n ∷ []) (takes 0 (va n ∷ li (va n) ∷ []) (va b))
    ∷ example (codes "minimum") (n ∷ by (ie ∷ []) b ∷ []) (takes 0 (n ∷ by (ie ∷ []) n ∷ []) b)
    ∷ example (codes "member") (li n ∷ n ∷ []) (takes 0 (li n ∷ n ∷ []) b)
    ∷ []

calls_of_order_are_so : map called calls_of_order ≡ map expected calls_of_order
unfolding below same_type same_dims dims_below all_below is_least resolution built_ins globals placed_from table with_number with_base with_indices enums_from index_enums_from with_rank ranks_from choices cases sets_of_cases scalars sets meanings readings_of result_var opt_of base_of type_of types_with types_of_rank array_types joined products index_lists index_sets param_types given_indices array_indices result_type numbered all_params with_mark with_meaning of_entry has_name of_named made signatures fitting form_of call
calls_of_order_are_so = refl

abbrev calls_of_count : List Example
calls_of_count =
    example (codes "count") (li n ∷ n ∷ []) (takes 2 (li n ∷ n ∷ []) n)
    ∷ example (codes "count") (li (va b) ∷ b ∷ []) (takes 2 (li (va n) ∷ va n ∷ []) (va n))
    ∷ example (codes "count") (li n ∷ n ∷ va n ∷ []) (takes 3 (li (va n) ∷ va n ∷ va n ∷ []) (va b))
    ∷ example (codes "at_least") (n ∷ li (va n) ∷ b ∷ []) (takes 0 (n ∷ li (va n) ∷ n ∷ []) (va b))
    ∷ example (codes "at_most") (va n ∷ li n ∷ n ∷ []) none_fits
    ∷ example (codes "at_most") (n ∷ li n ∷ n ∷ []) (takes 0 (n ∷ li n ∷ n ∷ []) b)
    ∷ example (codes "exactly") (n ∷ li n ∷ va n ∷ []) none_fits
    ∷ example (codes "exactly") (n ∷ li (va n) ∷ n ∷ []) (takes 0 (n ∷ li (va n) ∷ n ∷ []) (va b))
    ∷ example (codes "among") (va n ∷ li n ∷ se ∷ []) (takes 0 (va n ∷ li (va n) ∷ sn ∷ []) (va b))
    ∷ example (codes "among") (n ∷ li n ∷ va sn ∷ []) none_fits
    ∷ example (codes "nvalue") (n ∷ li e ∷ []) (takes 0 (n ∷ li n ∷ []) b)
    ∷ example (codes "global_cardinality") (li (va n) ∷ li n ∷ li (va n) ∷ []) (takes 0 (li (va n) ∷ li n ∷ li (va n) ∷ []) (va b))
    ∷ example (codes "global_cardinality") (li n ∷ li (va n) ∷ li n ∷ []) none_fits
    ∷ example (codes "sliding_sum") (n ∷ n ∷ b ∷ li (va n) ∷ []) (takes 0 (n ∷ n ∷ n ∷ li (va n) ∷ []) (va b))
    ∷ example (codes "int_set_channel") (li n ∷ li se ∷ []) (takes 0 (li n ∷ li sn ∷ []) b)
    ∷ example (codes "link_set_to_booleans") (va se ∷ by (ie ∷ []) b ∷ []) (takes 0 (va sn ∷ by (ie ∷ []) (va b) ∷ []) (va b))
    ∷ example (codes "all_disjoint") (li (va se) ∷ []) (takes 0 (li (va sn) ∷ []) (va b))
    ∷ example (codes "partition_set") (li (va sn) ∷ se ∷ []) (takes 0 (li (va sn) ∷ sn ∷ []) (va b))
    ∷ []

calls_of_count_are_so : map called calls_of_count ≡ map expected calls_of_count
unfolding below same_type same_dims dims_below all_below is_least resolution built_ins globals placed_from table with_number with_base with_indices enums_from index_enums_from with_rank ranks_from choices cases sets_of_cases scalars sets meanings readings_of result_var opt_of base_of type_of types_with types_of_rank array_types joined products index_lists index_sets param_types given_indices array_indices result_type numbered all_params with_mark with_meaning of_entry has_name of_named made signatures fitting form_of call
calls_of_count_are_so = refl

abbrev calls_of_scheduling : List Example
calls_of_scheduling =
    example (codes "cumulative") (li (va n) ∷ li n ∷ li n ∷ n ∷ []) (takes 0 (li (va n) ∷ li (va n) ∷ li (va n) ∷ va n ∷ []) (va b))
    ∷ example (codes "disjunctive") (li n ∷ li n ∷ []) (takes 0 (li n ∷ li n ∷ []) b)
    ∷ example (codes "disjunctive_strict") (li (va n) ∷ li n ∷ []) (takes 0 (li (va n) ∷ li (va n) ∷ []) (va b))
    ∷ example (codes "diffn") (li n ∷ li n ∷ li n ∷ by (ie ∷ []) n ∷ []) (takes 0 (li n ∷ li n ∷ li n ∷ by (ie ∷ []) n ∷ []) b)
    ∷ example (codes "bin_packing") (n ∷ li (va n) ∷ li n ∷ []) (takes 0 (n ∷ li (va n) ∷ li n ∷ []) (va b))
    ∷ example (codes "bin_packing") (n ∷ li n ∷ li (va n) ∷ []) none_fits
    ∷ example (codes "bin_packing_load") (li (va n) ∷ li n ∷ sn ∷ []) (takes 0 (li (va n) ∷ li (va n) ∷ li n ∷ []) (va b))
    ∷ []

calls_of_scheduling_are_so : map called calls_of_scheduling ≡ map expected calls_of_scheduling
unfolding below same_type same_dims dims_below all_below is_least resolution built_ins globals placed_from table with_number with_base with_indices enums_from index_enums_from with_rank ranks_from choices cases sets_of_cases scalars sets meanings readings_of result_var opt_of base_of type_of types_with types_of_rank array_types joined products index_lists index_sets param_types given_indices array_indices result_type numbered all_params with_mark with_meaning of_entry has_name of_named made signatures fitting form_of call
calls_of_scheduling_are_so = refl

abbrev calls_of_graphs : List Example
calls_of_graphs =
    example (codes "element") (va n ∷ li n ∷ n ∷ []) (takes 0 (va n ∷ li (va n) ∷ va n ∷ []) (va b))
    ∷ example (codes "table") (li (va n) ∷ by (i ∷ i ∷ []) n ∷ []) (takes 0 (li (va n) ∷ by (i ∷ i ∷ []) n ∷ []) (va b))
    ∷ example (codes "table") (li n ∷ li n ∷ []) none_fits
    ∷ example (codes "table") (li n ∷ by (i ∷ i ∷ []) (va n) ∷ []) none_fits
    ∷ example (codes "regular") (li (va n) ∷ n ∷ n ∷ by (i ∷ ie ∷ []) n ∷ n ∷ empty ∷ []) (takes 0 (li (va n) ∷ n ∷ n ∷ by (i ∷ ie ∷ []) n ∷ n ∷ sn ∷ []) (va b))
    ∷ example (codes "inverse") (by (ie ∷ []) (va n) ∷ by (jf ∷ []) (va n) ∷ []) (takes 0 (by (ie ∷ []) (va n) ∷ by (jf ∷ []) (va n) ∷ []) (va b))
    ∷ example (codes "circuit") (li (va n) ∷ []) (takes 0 (li (va n) ∷ []) (va b))
    ∷ []

calls_of_graphs_are_so : map called calls_of_graphs ≡ map expected calls_of_graphs
unfolding below same_type same_dims dims_below all_below is_least resolution built_ins globals placed_from table with_number with_base with_indices enums_from index_enums_from with_rank ranks_from choices cases sets_of_cases scalars sets meanings readings_of result_var opt_of base_of type_of types_with types_of_rank array_types joined products index_lists index_sets param_types given_indices array_indices result_type numbered all_params with_mark with_meaning of_entry has_name of_named made signatures fitting form_of call
calls_of_graphs_are_so = refl
