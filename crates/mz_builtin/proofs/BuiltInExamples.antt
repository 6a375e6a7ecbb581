-- Worked examples of built-ins: a call's arguments, and what it takes.
use Rattle.std.proofs.Common.{◌≡◌, List, [], ◌∷◌, map, refl, codes}
use Rattle.mz_core.specs.Order.{below, same_type, same_dims, dims_below}
use Rattle.mz_overload.specs.Best.{all_below, is_least, resolution}
use Rattle.mz_builtin.specs.Table.{built_ins, globals, placed_from, table}
use Rattle.mz_builtin.specs.Readings.{with_number, with_base, with_indices, enums_from, index_enums_from, with_rank, ranks_from, choices, cases, sets_of_cases, scalars, sets, meanings, readings_of, result_var, opt_of, base_of, type_of, types_with, types_of_rank, array_types, joined, products, index_lists, index_sets, param_types, given_indices, array_indices, result_type, numbered, all_params, with_mark, with_meaning, of_entry}
use Rattle.mz_builtin.specs.Signatures.{has_name, of_named, made, signatures, fitting}
use Rattle.mz_builtin.proofs.Calls.{form_of, takes, none_fits, ambiguous, call}
use Rattle.mz_builtin.proofs.ExampleTypes.{b, n, e, f, sn, se, sf, empty, tx, bot, absent, i, ie, jf, va, op, li, by, Example, example, called, expected}

abbrev calls_of_sets : List Example
calls_of_sets =
    example (codes "card") (va se ∷ []) (takes 0 (va se ∷ []) (va n))
    ∷ example (codes "card") (empty ∷ []) (takes 0 (sn ∷ []) n)
    ∷ example (codes "set2array") (se ∷ []) (takes 0 (se ∷ []) (li e))
    ∷ example (codes "set2array") (empty ∷ []) (takes 0 (sn ∷ []) (li n))
    ∷ example (codes "set2array") (va sn ∷ []) none_fits
    ∷ example (codes "array_union") (li se ∷ []) (takes 0 (li se ∷ []) se)
    ∷ example (codes "array_union") (li (va sn) ∷ []) (takes 0 (li (va sn) ∷ []) (va sn))
    ∷ example (codes "array_union") (li bot ∷ []) (takes 0 (li sn ∷ []) sn)
    ∷ example (codes "array_union") (by (i ∷ i ∷ []) sn ∷ []) (takes 0 (by (i ∷ i ∷ []) sn ∷ []) sn)
    ∷ example (codes "array_intersect") (li empty ∷ []) (takes 0 (li sn ∷ []) sn)
    ∷ []

calls_of_sets_are_so : map called calls_of_sets ≡ map expected calls_of_sets
unfolding below same_type same_dims dims_below all_below is_least resolution built_ins globals placed_from table with_number with_base with_indices enums_from index_enums_from with_rank ranks_from choices cases sets_of_cases scalars sets meanings readings_of result_var opt_of base_of type_of types_with types_of_rank array_types joined products index_lists index_sets param_types given_indices array_indices result_type numbered all_params with_mark with_meaning of_entry has_name of_named made signatures fitting form_of call
calls_of_sets_are_so = refl

abbrev calls_of_arithmetic : List Example
calls_of_arithmetic =
    example (codes "pow") (va b ∷ e ∷ []) (takes 0 (va n ∷ n ∷ []) (va n))
    ∷ example (codes "pow") (n ∷ va n ∷ []) none_fits
    ∷ example (codes "abs") (va n ∷ []) (takes 0 (va n ∷ []) (va n))
    ∷ example (codes "min") (n ∷ b ∷ []) (takes 0 (n ∷ n ∷ []) n)
    ∷ example (codes "min") (se ∷ []) (takes 1 (se ∷ []) e)
    ∷ example (codes "min") (empty ∷ []) (takes 1 (sn ∷ []) n)
    ∷ example (codes "min") (bot ∷ []) (takes 1 (sn ∷ []) n)
    ∷ example (codes "min") (li n ∷ []) (takes 2 (li n ∷ []) n)
    ∷ example (codes "min") (li (va b) ∷ []) (takes 2 (li (va n) ∷ []) (va n))
    ∷ example (codes "min") (li bot ∷ []) (takes 2 (li n ∷ []) n)
    ∷ example (codes "min") (va sn ∷ []) none_fits
    ∷ example (codes "max") (e ∷ f ∷ []) (takes 0 (n ∷ n ∷ []) n)
    ∷ example (codes "max") (sn ∷ []) (takes 1 (sn ∷ []) n)
    ∷ example (codes "max") (by (ie ∷ []) n ∷ []) (takes 2 (by (ie ∷ []) n ∷ []) n)
    ∷ example (codes "max") (by (i ∷ i ∷ []) e ∷ []) (takes 2 (by (i ∷ i ∷ []) n ∷ []) n)
    ∷ []

calls_of_arithmetic_are_so : map called calls_of_arithmetic ≡ map expected calls_of_arithmetic
unfolding below same_type same_dims dims_below all_below is_least resolution built_ins globals placed_from table with_number with_base with_indices enums_from index_enums_from with_rank ranks_from choices cases sets_of_cases scalars sets meanings readings_of result_var opt_of base_of type_of types_with types_of_rank array_types joined products index_lists index_sets param_types given_indices array_indices result_type numbered all_params with_mark with_meaning of_entry has_name of_named made signatures fitting form_of call
calls_of_arithmetic_are_so = refl

abbrev calls_of_folds : List Example
calls_of_folds =
    example (codes "sum") (li n ∷ []) (takes 0 (li n ∷ []) n)
    ∷ example (codes "sum") (li bot ∷ []) (takes 0 (li n ∷ []) n)
    ∷ example (codes "sum") (se ∷ []) (takes 0 (li n ∷ []) n)
    ∷ example (codes "sum") (bot ∷ []) (takes 0 (li n ∷ []) n)
    ∷ example (codes "sum") (li (op b) ∷ []) (takes 1 (li (op n) ∷ []) n)
    ∷ example (codes "sum") (li (va (op n)) ∷ []) (takes 1 (li (va (op n)) ∷ []) (va n))
    ∷ example (codes "product") (li e ∷ []) (takes 0 (li n ∷ []) n)
    ∷ example (codes "product") (li (op n) ∷ []) none_fits
    ∷ example (codes "forall") (li b ∷ []) (takes 0 (li b ∷ []) b)
    ∷ example (codes "forall") (li bot ∷ []) (takes 0 (li b ∷ []) b)
    ∷ example (codes "forall") (li (va (op b)) ∷ []) (takes 1 (li (va (op b)) ∷ []) (va b))
    ∷ example (codes "forall") (li n ∷ []) none_fits
    ∷ example (codes "forall") (sn ∷ []) none_fits
    ∷ example (codes "exists") (by (i ∷ i ∷ []) b ∷ []) (takes 0 (by (i ∷ i ∷ []) b ∷ []) b)
    ∷ example (codes "exists") (li (op b) ∷ []) (takes 1 (li (op b) ∷ []) b)
    ∷ example (codes "xorall") (li (va b) ∷ []) (takes 0 (li (va b) ∷ []) (va b))
    ∷ example (codes "xorall") (li (op b) ∷ []) none_fits
    ∷ example (codes "clause") (li b ∷ li (va b) ∷ []) (takes 0 (li (va b) ∷ li (va b) ∷ []) (va b))
    ∷ example (codes "clause") (li b ∷ by (i ∷ i ∷ []) b ∷ []) (takes 0 (li b ∷ by (i ∷ i ∷ []) b ∷ []) b)
    ∷ example (codes "count") (li b ∷ []) (takes 0 (li b ∷ []) n)
    ∷ example (codes "count") (li bot ∷ []) (takes 0 (li b ∷ []) n)
    ∷ example (codes "count") (li (op b) ∷ []) (takes 1 (li (op b) ∷ []) n)
    ∷ example (codes "count") (li n ∷ []) none_fits
    ∷ example (codes "bool2int") (va b ∷ []) (takes 0 (va b ∷ []) (va n))
    ∷ example (codes "enum2int") (e ∷ []) (takes 0 (e ∷ []) n)
    ∷ example (codes "enum2int") (va e ∷ []) (takes 0 (va e ∷ []) (va n))
    ∷ example (codes "enum2int") (n ∷ []) none_fits
    ∷ []

calls_of_folds_are_so : map called calls_of_folds ≡ map expected calls_of_folds
unfolding below same_type same_dims dims_below all_below is_least resolution built_ins globals placed_from table with_number with_base with_indices enums_from index_enums_from with_rank ranks_from choices cases sets_of_cases scalars sets meanings readings_of result_var opt_of base_of type_of types_with types_of_rank array_types joined products index_lists index_sets param_types given_indices array_indices result_type numbered all_params with_mark with_meaning of_entry has_name of_named made signatures fitting form_of call
calls_of_folds_are_so = refl

abbrev calls_of_arrays : List Example
calls_of_arrays =
    example (codes "length") (li n ∷ []) (takes 0 (li n ∷ []) n)
    ∷ example (codes "length") (by (i ∷ i ∷ i ∷ []) (va n) ∷ []) (takes 0 (by (i ∷ i ∷ i ∷ []) (va n) ∷ []) n)
    ∷ example (codes "length") (by (ie ∷ i ∷ []) e ∷ []) (takes 0 (by (ie ∷ i ∷ []) e ∷ []) n)
    ∷ example (codes "length") (sn ∷ []) (takes 0 (li n ∷ []) n)
    ∷ example (codes "length") (li bot ∷ []) ambiguous
    ∷ example (codes "length") (li tx ∷ []) none_fits
    ∷ example (codes "length") (n ∷ []) none_fits
    ∷ example (codes "index_set") (by (ie ∷ []) n ∷ []) (takes 0 (by (ie ∷ []) n ∷ []) se)
    ∷ example (codes "index_set") (li (va b) ∷ []) (takes 0 (li (va b) ∷ []) sn)
    ∷ example (codes "index_set") (se ∷ []) (takes 0 (li e ∷ []) sn)
    ∷ example (codes "index_set") (li bot ∷ []) ambiguous
    ∷ example (codes "index_set") (by (i ∷ i ∷ []) n ∷ []) none_fits
    ∷ example (codes "index_set_1of2") (by (ie ∷ i ∷ []) n ∷ []) (takes 0 (by (ie ∷ i ∷ []) n ∷ []) se)
    ∷ example (codes "index_set_2of2") (by (ie ∷ i ∷ []) n ∷ []) (takes 0 (by (ie ∷ i ∷ []) n ∷ []) sn)
    ∷ example (codes "index_set_1of3") (by (i ∷ ie ∷ jf ∷ []) b ∷ []) (takes 0 (by (i ∷ ie ∷ jf ∷ []) b ∷ []) sn)
    ∷ example (codes "index_set_2of3") (by (i ∷ ie ∷ jf ∷ []) b ∷ []) (takes 0 (by (i ∷ ie ∷ jf ∷ []) b ∷ []) se)
    ∷ example (codes "index_set_3of3") (by (i ∷ ie ∷ jf ∷ []) b ∷ []) (takes 0 (by (i ∷ ie ∷ jf ∷ []) b ∷ []) sf)
    ∷ example (codes "array1d") (by (ie ∷ i ∷ []) n ∷ []) (takes 0 (by (ie ∷ i ∷ []) n ∷ []) (li n))
    ∷ example (codes "array1d") (se ∷ li n ∷ []) (takes 1 (se ∷ li n ∷ []) (by (ie ∷ []) n))
    ∷ example (codes "array1d") (sn ∷ li (va e) ∷ []) (takes 1 (sn ∷ li (va e) ∷ []) (li (va e)))
    ∷ example (codes "array1d") (empty ∷ li n ∷ []) (takes 1 (sn ∷ li n ∷ []) (li n))
    ∷ example (codes "array1d") (empty ∷ by (ie ∷ []) n ∷ []) (takes 1 (se ∷ by (ie ∷ []) n ∷ []) (by (ie ∷ []) n))
    ∷ example (codes "array1d") (empty ∷ by (ie ∷ jf ∷ []) n ∷ []) ambiguous
    ∷ example (codes "array1d") (li bot ∷ []) ambiguous
    ∷ example (codes "array1d") (li tx ∷ []) none_fits
    ∷ example (codes "array1d") (va sn ∷ li n ∷ []) none_fits
    ∷ example (codes "array2d") (se ∷ sn ∷ li n ∷ []) (takes 0 (se ∷ sn ∷ li n ∷ []) (by (ie ∷ i ∷ []) n))
    ∷ example (codes "array2d") (sn ∷ li n ∷ []) none_fits
    ∷ example (codes "array3d") (sn ∷ sn ∷ sn ∷ li b ∷ []) (takes 0 (sn ∷ sn ∷ sn ∷ li b ∷ []) (by (i ∷ i ∷ i ∷ []) b))
    ∷ example (codes "array4d") (sn ∷ se ∷ sn ∷ sn ∷ li n ∷ []) (takes 0 (sn ∷ se ∷ sn ∷ sn ∷ li n ∷ []) (by (i ∷ ie ∷ i ∷ i ∷ []) n))
    ∷ example (codes "array5d") (sn ∷ sn ∷ sn ∷ sn ∷ sn ∷ li (va n) ∷ []) (takes 0 (sn ∷ sn ∷ sn ∷ sn ∷ sn ∷ li (va n) ∷ []) (by (i ∷ i ∷ i ∷ i ∷ i ∷ []) (va n)))
    ∷ example (codes "array6d") (sn ∷ sn ∷ sn ∷ sn ∷ sn ∷ sn ∷ by (i ∷ i ∷ []) n ∷ []) (takes 0 (sn ∷ sn ∷ sn ∷ sn ∷ sn ∷ sn ∷ by (i ∷ i ∷ []) n ∷ []) (by (i ∷ i ∷ i ∷ i ∷ i ∷ i ∷ []) n))
    ∷ []

calls_of_arrays_are_so : map called calls_of_arrays ≡ map expected calls_of_arrays
unfolding below same_type same_dims dims_below all_below is_least resolution built_ins globals placed_from table with_number with_base with_indices enums_from index_enums_from with_rank ranks_from choices cases sets_of_cases scalars sets meanings readings_of result_var opt_of base_of type_of types_with types_of_rank array_types joined products index_lists index_sets param_types given_indices array_indices result_type numbered all_params with_mark with_meaning of_entry has_name of_named made signatures fitting form_of call
calls_of_arrays_are_so = refl

abbrev calls_of_bounds : List Example
calls_of_bounds =
    example (codes "lb") (va n ∷ []) (takes 0 (va n ∷ []) n)
    ∷ example (codes "lb") (va se ∷ []) (takes 1 (va se ∷ []) se)
    ∷ example (codes "lb") (bot ∷ []) ambiguous
    ∷ example (codes "ub") (e ∷ []) (takes 0 (n ∷ []) n)
    ∷ example (codes "ub") (empty ∷ []) (takes 1 (sn ∷ []) sn)
    ∷ example (codes "dom") (va n ∷ []) (takes 0 (va n ∷ []) sn)
    ∷ example (codes "lb_array") (li (va n) ∷ []) (takes 0 (li (va n) ∷ []) n)
    ∷ example (codes "ub_array") (by (i ∷ i ∷ []) b ∷ []) (takes 0 (by (i ∷ i ∷ []) n ∷ []) n)
    ∷ example (codes "is_fixed") (va b ∷ []) (takes 0 (va b ∷ []) b)
    ∷ example (codes "is_fixed") (op n ∷ []) none_fits
    ∷ example (codes "fix") (va se ∷ []) (takes 0 (va se ∷ []) se)
    ∷ example (codes "fix") (e ∷ []) (takes 0 (e ∷ []) e)
    ∷ example (codes "fix") (li n ∷ []) none_fits
    ∷ []

calls_of_bounds_are_so : map called calls_of_bounds ≡ map expected calls_of_bounds
unfolding below same_type same_dims dims_below all_below is_least resolution built_ins globals placed_from table with_number with_base with_indices enums_from index_enums_from with_rank ranks_from choices cases sets_of_cases scalars sets meanings readings_of result_var opt_of base_of type_of types_with types_of_rank array_types joined products index_lists index_sets param_types given_indices array_indices result_type numbered all_params with_mark with_meaning of_entry has_name of_named made signatures fitting form_of call
calls_of_bounds_are_so = refl

abbrev calls_of_options_and_enums : List Example
calls_of_options_and_enums =
    example (codes "occurs") (va (op n) ∷ []) (takes 0 (va (op n) ∷ []) (va b))
    ∷ example (codes "occurs") (b ∷ []) (takes 0 (op b ∷ []) b)
    ∷ example (codes "absent") (op e ∷ []) (takes 0 (op e ∷ []) b)
    ∷ example (codes "deopt") (absent ∷ []) (takes 0 (op b ∷ []) b)
    ∷ example (codes "deopt") (va (op e) ∷ []) (takes 0 (va (op e) ∷ []) (va e))
    ∷ example (codes "deopt") (sn ∷ []) none_fits
    ∷ example (codes "enum_next") (se ∷ e ∷ []) (takes 0 (se ∷ e ∷ []) e)
    ∷ example (codes "enum_next") (se ∷ va e ∷ []) (takes 0 (se ∷ va e ∷ []) (va e))
    ∷ example (codes "enum_next") (empty ∷ e ∷ []) (takes 0 (se ∷ e ∷ []) e)
    ∷ example (codes "enum_next") (sn ∷ n ∷ []) none_fits
    ∷ example (codes "enum_prev") (se ∷ e ∷ []) (takes 0 (se ∷ e ∷ []) e)
    ∷ example (codes "enum_prev") (se ∷ f ∷ []) none_fits
    ∷ []

calls_of_options_and_enums_are_so : map called calls_of_options_and_enums ≡ map expected calls_of_options_and_enums
unfolding below same_type same_dims dims_below all_below is_least resolution built_ins globals placed_from table with_number with_base with_indices enums_from index_enums_from with_rank ranks_from choices cases sets_of_cases scalars sets meanings readings_of result_var opt_of base_of type_of types_with types_of_rank array_types joined products index_lists index_sets param_types given_indices array_indices result_type numbered all_params with_mark with_meaning of_entry has_name of_named made signatures fitting form_of call
calls_of_options_and_enums_are_so = refl

abbrev calls_of_assertions_and_texts : List Example
calls_of_assertions_and_texts =
    example (codes "assert") (b ∷ tx ∷ []) (takes 0 (b ∷ tx ∷ []) b)
    ∷ example (codes "assert") (va b ∷ tx ∷ []) none_fits
    ∷ example (codes "assert") (b ∷ tx ∷ n ∷ []) (takes 1 (b ∷ tx ∷ n ∷ []) n)
    ∷ example (codes "assert") (b ∷ tx ∷ va se ∷ []) (takes 1 (b ∷ tx ∷ va se ∷ []) (va se))
    ∷ example (codes "assert") (b ∷ tx ∷ empty ∷ []) (takes 1 (b ∷ tx ∷ sn ∷ []) sn)
    ∷ example (codes "assert") (b ∷ tx ∷ li n ∷ []) (takes 2 (b ∷ tx ∷ li n ∷ []) (li n))
    ∷ example (codes "assert") (b ∷ tx ∷ by (ie ∷ i ∷ []) (va b) ∷ []) (takes 2 (b ∷ tx ∷ by (ie ∷ i ∷ []) (va b) ∷ []) (by (ie ∷ i ∷ []) (va b)))
    ∷ example (codes "assert") (b ∷ tx ∷ li bot ∷ []) ambiguous
    ∷ example (codes "assert") (b ∷ tx ∷ tx ∷ []) none_fits
    ∷ example (codes "show") (n ∷ []) (takes 0 (n ∷ []) tx)
    ∷ example (codes "show") (se ∷ []) (takes 0 (se ∷ []) tx)
    ∷ example (codes "show") (absent ∷ []) (takes 0 (op b ∷ []) tx)
    ∷ example (codes "show") (li e ∷ []) (takes 1 (li e ∷ []) tx)
    ∷ example (codes "show") (va n ∷ []) none_fits
    ∷ example (codes "show") (li bot ∷ []) ambiguous
    ∷ example (codes "show") (tx ∷ []) none_fits
    ∷ example (codes "show_int") (n ∷ e ∷ []) (takes 0 (n ∷ n ∷ []) tx)
    ∷ example (codes "join") (tx ∷ li tx ∷ []) (takes 0 (tx ∷ li tx ∷ []) tx)
    ∷ example (codes "join") (tx ∷ by (i ∷ i ∷ []) tx ∷ []) (takes 0 (tx ∷ by (i ∷ i ∷ []) tx ∷ []) tx)
    ∷ example (codes "concat") (by (i ∷ i ∷ []) tx ∷ []) (takes 0 (by (i ∷ i ∷ []) tx ∷ []) tx)
    ∷ example (codes "concat") (li bot ∷ []) (takes 0 (li tx ∷ []) tx)
    ∷ example (codes "nothing") (n ∷ []) none_fits
    ∷ []

calls_of_assertions_and_texts_are_so : map called calls_of_assertions_and_texts ≡ map expected calls_of_assertions_and_texts
unfolding below same_type same_dims dims_below all_below is_least resolution built_ins globals placed_from table with_number with_base with_indices enums_from index_enums_from with_rank ranks_from choices cases sets_of_cases scalars sets meanings readings_of result_var opt_of base_of type_of types_with types_of_rank array_types joined products index_lists index_sets param_types given_indices array_indices result_type numbered all_params with_mark with_meaning of_entry has_name of_named made signatures fitting form_of call
calls_of_assertions_and_texts_are_so = refl
