-- Worked examples of data for arrays of more dimensions, and of arrays with index sets.
use Rattle.std.specs.Prelude.{◌≡◌, refl, List, [], ◌∷◌, map}
use Rattle.mz_core.specs.Order.{below, same_type, same_dims, dims_below}
use Rattle.mz_core.specs.Join.{join}
use Rattle.mz_core.specs.Paths.{coercions, index_links}
use Rattle.mz_overload.specs.Best.{all_below, is_least, resolution}
use Rattle.mz_builtin.specs.Table.{built_ins, globals, placed_from, table}
use Rattle.mz_builtin.specs.Readings.{with_number, with_base, with_indices, enums_from, index_enums_from, with_rank, ranks_from, choices, cases, sets_of_cases, scalars, sets, meanings, readings_of, result_var, opt_of, base_of, type_of, types_with, types_of_rank, array_types, joined, products, index_lists, index_sets, param_types, given_indices, array_indices, result_type, numbered, all_params, with_mark, with_meaning, of_entry}
use Rattle.mz_builtin.specs.Signatures.{has_name, of_named, made, signatures, fitting}
use Rattle.mz_check_meaning.specs.Models.{entry_of}
use Rattle.mz_check_meaning.specs.Coerced.{wrapped, coercions_to, coerced, all_coerced, fitted}
use Rattle.mz_check_meaning.specs.Calls.{is_left_out, best, call_node, row_of, row_node}
use Rattle.mz_check_meaning.specs.Arrays.{join_next, listed, tabled, set_literal}
use Rattle.mz_check_data.specs.Datum.{name_tree, one_tree, range_tree, set_tree, plain_tree, list_tree, rows_tree, index_set_tree, shaped_tree, value_tree, wanted, typed_value}
use Rattle.mz_check_data.specs.ExampleData.{E, A, B, F, C, k, other, n, b, e, sn, se, va, op, ar, by_int, by_e, li, square, num, yes, name, gone, range, set, list, rows, shaped, Example, gives, fit, misfit, typing, expected}

-- rows, of one length, fit two dimensions of any index types
abbrev tables : List Example
tables =
    fit (square n) (rows ((num 1 ∷ num 2 ∷ []) ∷ (num 3 ∷ num 4 ∷ []) ∷ []))
    ∷ fit (square n) (rows ((num 1 ∷ []) ∷ []))
    ∷ fit (square n) (rows [])
    ∷ misfit (square n) (rows ((num 1 ∷ []) ∷ (num 2 ∷ num 3 ∷ []) ∷ []))
    ∷ fit (square n) (rows ((yes ∷ []) ∷ (name A ∷ []) ∷ []))
    ∷ misfit (square n) (rows ((num 1 ∷ []) ∷ (set (num 1 ∷ []) ∷ []) ∷ []))
    ∷ misfit (square b) (rows ((num 1 ∷ []) ∷ []))
    ∷ fit (square (op n)) (rows ((num 1 ∷ gone ∷ []) ∷ (gone ∷ num 2 ∷ []) ∷ []))
    ∷ fit (square sn) (rows ((set (num 1 ∷ []) ∷ range (num 1) (num 2) ∷ []) ∷ (name E ∷ set [] ∷ []) ∷ []))
    ∷ fit (square (va n)) (rows ((num 1 ∷ num 2 ∷ []) ∷ []))
    ∷ gives (ar (by_e ∷ by_int ∷ []) n) (rows ((num 1 ∷ num 2 ∷ []) ∷ (num 3 ∷ num 4 ∷ []) ∷ [])) (square n)
    ∷ gives (ar (by_e ∷ by_e ∷ []) (va n)) (rows ((num 1 ∷ num 2 ∷ []) ∷ (num 3 ∷ num 4 ∷ []) ∷ [])) (square (va n))
    ∷ misfit (ar (by_int ∷ by_int ∷ by_int ∷ []) n) (rows ((num 1 ∷ num 2 ∷ []) ∷ []))
    ∷ []

pub tables_are_typed : map typing tables ≡ map expected tables
unfolding below same_type same_dims dims_below join coercions index_links all_below is_least resolution built_ins globals placed_from table with_number with_base with_indices enums_from index_enums_from with_rank ranks_from choices cases sets_of_cases scalars sets meanings readings_of result_var opt_of base_of type_of types_with types_of_rank array_types joined products index_lists index_sets param_types given_indices array_indices result_type numbered all_params with_mark with_meaning of_entry has_name of_named made signatures fitting entry_of wrapped coercions_to coerced all_coerced fitted best call_node row_of row_node is_left_out join_next listed tabled set_literal name_tree one_tree range_tree set_tree plain_tree list_tree rows_tree index_set_tree shaped_tree value_tree wanted typed_value
tables_are_typed = refl

-- a list fits every shape, and a set no other than a list
abbrev lists_for_tables : List Example
lists_for_tables =
    gives (square n) (list (num 1 ∷ num 2 ∷ num 3 ∷ num 4 ∷ [])) (li n)
    ∷ gives (square n) (list []) (li n)
    ∷ gives (square n) (list (num 1 ∷ num 2 ∷ num 3 ∷ [])) (li n)
    ∷ misfit (square b) (list (num 1 ∷ []))
    ∷ gives (ar (by_e ∷ by_int ∷ []) n) (list (num 1 ∷ num 2 ∷ [])) (li n)
    ∷ gives (ar (by_int ∷ by_int ∷ by_int ∷ []) n) (list (num 1 ∷ [])) (li n)
    ∷ gives (square (va n)) (list (num 1 ∷ [])) (li (va n))
    ∷ misfit (square n) (set (num 1 ∷ num 2 ∷ []))
    ∷ misfit (square n) (range (num 1) (num 4))
    ∷ []

pub lists_for_tables_are_typed : map typing lists_for_tables ≡ map expected lists_for_tables
unfolding below same_type same_dims dims_below join coercions index_links all_below is_least resolution built_ins globals placed_from table with_number with_base with_indices enums_from index_enums_from with_rank ranks_from choices cases sets_of_cases scalars sets meanings readings_of result_var opt_of base_of type_of types_with types_of_rank array_types joined products index_lists index_sets param_types given_indices array_indices result_type numbered all_params with_mark with_meaning of_entry has_name of_named made signatures fitting entry_of wrapped coercions_to coerced all_coerced fitted best call_node row_of row_node is_left_out join_next listed tabled set_literal name_tree one_tree range_tree set_tree plain_tree list_tree rows_tree index_set_tree shaped_tree value_tree wanted typed_value
lists_for_tables_are_typed = refl

-- `array1d` with a range, a set or an enum
abbrev shaped_lists : List Example
shaped_lists =
    fit (li n) (shaped (range (num 1) (num 2) ∷ []) (num 1 ∷ num 2 ∷ []))
    ∷ fit (li n) (shaped (set (num 1 ∷ num 2 ∷ []) ∷ []) (num 1 ∷ num 2 ∷ []))
    ∷ fit (li n) (shaped (name E ∷ []) (num 1 ∷ num 2 ∷ []))
    ∷ fit (li n) (shaped (set (name A ∷ []) ∷ []) (num 1 ∷ []))
    ∷ fit (li n) (shaped (set [] ∷ []) [])
    ∷ fit (li n) (shaped (range (num 1) (num 2) ∷ []) (yes ∷ name A ∷ []))
    ∷ misfit (li n) (shaped (range (num 1) (num 2) ∷ []) (num 1 ∷ set (num 1 ∷ []) ∷ []))
    ∷ misfit (li n) (shaped (range (num 1) (num 2) ∷ []) (num 1 ∷ gone ∷ []))
    ∷ misfit (li n) (shaped (name A ∷ []) (num 1 ∷ []))
    ∷ misfit (li n) (shaped (name other ∷ []) (num 1 ∷ []))
    ∷ misfit (li n) (shaped (name k ∷ []) (num 1 ∷ []))
    ∷ misfit (li n) (shaped (range (num 1) (num 1) ∷ range (num 1) (num 1) ∷ []) (num 1 ∷ []))
    ∷ misfit (li b) (shaped (range (num 1) (num 1) ∷ []) (num 1 ∷ []))
    ∷ fit (li (op n)) (shaped (range (num 1) (num 2) ∷ []) (num 1 ∷ gone ∷ []))
    ∷ fit (li (op n)) (shaped (range (num 1) (num 1) ∷ []) (gone ∷ []))
    ∷ fit (li e) (shaped (range (num 1) (num 2) ∷ []) (name A ∷ name B ∷ []))
    ∷ fit (li sn) (shaped (range (num 1) (num 2) ∷ []) (set (num 1 ∷ []) ∷ name E ∷ []))
    ∷ fit (li se) (shaped (range (num 1) (num 1) ∷ []) (set [] ∷ []))
    ∷ fit (li (va n)) (shaped (range (num 1) (num 2) ∷ []) (num 1 ∷ num 2 ∷ []))
    ∷ fit (li (va (op e))) (shaped (range (num 1) (num 2) ∷ []) (name A ∷ gone ∷ []))
    ∷ []

pub shaped_lists_are_typed : map typing shaped_lists ≡ map expected shaped_lists
unfolding below same_type same_dims dims_below join coercions index_links all_below is_least resolution built_ins globals placed_from table with_number with_base with_indices enums_from index_enums_from with_rank ranks_from choices cases sets_of_cases scalars sets meanings readings_of result_var opt_of base_of type_of types_with types_of_rank array_types joined products index_lists index_sets param_types given_indices array_indices result_type numbered all_params with_mark with_meaning of_entry has_name of_named made signatures fitting entry_of wrapped coercions_to coerced all_coerced fitted best call_node row_of row_node is_left_out join_next listed tabled set_literal name_tree one_tree range_tree set_tree plain_tree list_tree rows_tree index_set_tree shaped_tree value_tree wanted typed_value
shaped_lists_are_typed = refl

-- an index of an enum wants a set of its cases
abbrev shaped_by_cases : List Example
shaped_by_cases =
    fit (ar (by_e ∷ []) n) (shaped (name E ∷ []) (num 1 ∷ num 2 ∷ []))
    ∷ fit (ar (by_e ∷ []) n) (shaped (set (name A ∷ name B ∷ []) ∷ []) (num 1 ∷ num 2 ∷ []))
    ∷ fit (ar (by_e ∷ []) n) (shaped (range (name A) (name B) ∷ []) (num 1 ∷ num 2 ∷ []))
    ∷ fit (ar (by_e ∷ []) n) (shaped (set [] ∷ []) [])
    ∷ gives (ar (by_e ∷ []) n) (shaped (range (num 1) (num 0) ∷ []) []) (li n)
    ∷ gives (ar (by_e ∷ []) (va n)) (shaped (range (num 1) (num 0) ∷ []) []) (li (va n))
    ∷ misfit (ar (by_e ∷ []) n) (shaped (range (num 1) (num 0) ∷ []) (num 1 ∷ []))
    ∷ misfit (ar (by_e ∷ []) n) (shaped (range (num 1) (num 1) ∷ []) [])
    ∷ misfit (ar (by_e ∷ []) n) (shaped (range (num 1) (num 2) ∷ []) (num 1 ∷ num 2 ∷ []))
    ∷ misfit (ar (by_e ∷ []) n) (shaped (name F ∷ []) (num 1 ∷ []))
    ∷ misfit (ar (by_e ∷ []) n) (shaped (set (name A ∷ num 1 ∷ []) ∷ []) (num 1 ∷ num 2 ∷ []))
    ∷ misfit (ar (by_e ∷ []) n) (shaped (set (name A ∷ name C ∷ []) ∷ []) (num 1 ∷ num 2 ∷ []))
    ∷ fit (ar (by_e ∷ []) (va n)) (shaped (name E ∷ []) (num 1 ∷ num 2 ∷ []))
    ∷ fit (ar (by_e ∷ []) e) (shaped (name E ∷ []) (name A ∷ name A ∷ []))
    ∷ []

pub shaped_by_cases_are_typed : map typing shaped_by_cases ≡ map expected shaped_by_cases
unfolding below same_type same_dims dims_below join coercions index_links all_below is_least resolution built_ins globals placed_from table with_number with_base with_indices enums_from index_enums_from with_rank ranks_from choices cases sets_of_cases scalars sets meanings readings_of result_var opt_of base_of type_of types_with types_of_rank array_types joined products index_lists index_sets param_types given_indices array_indices result_type numbered all_params with_mark with_meaning of_entry has_name of_named made signatures fitting entry_of wrapped coercions_to coerced all_coerced fitted best call_node row_of row_node is_left_out join_next listed tabled set_literal name_tree one_tree range_tree set_tree plain_tree list_tree rows_tree index_set_tree shaped_tree value_tree wanted typed_value
shaped_by_cases_are_typed = refl

-- `array2d`
abbrev shaped_tables : List Example
shaped_tables =
    fit (square n) (shaped (range (num 1) (num 2) ∷ range (num 1) (num 2) ∷ []) (num 1 ∷ num 2 ∷ num 3 ∷ num 4 ∷ []))
    ∷ fit (square n) (shaped (name E ∷ range (num 1) (num 2) ∷ []) (num 1 ∷ []))
    ∷ misfit (square n) (shaped (range (num 1) (num 2) ∷ []) (num 1 ∷ num 2 ∷ []))
    ∷ misfit (square n) (shaped (range (num 1) (num 1) ∷ range (num 1) (num 1) ∷ range (num 1) (num 1) ∷ []) (num 1 ∷ []))
    ∷ fit (ar (by_e ∷ by_int ∷ []) n) (shaped (name E ∷ range (num 1) (num 2) ∷ []) (num 1 ∷ num 2 ∷ []))
    ∷ misfit (ar (by_e ∷ by_int ∷ []) n) (shaped (range (num 1) (num 2) ∷ name E ∷ []) (num 1 ∷ num 2 ∷ []))
    ∷ misfit (ar (by_e ∷ by_int ∷ []) n) (shaped (range (num 1) (num 0) ∷ range (num 1) (num 0) ∷ []) [])
    ∷ misfit (square n) (shaped (range (num 1) (num 0) ∷ []) [])
    ∷ fit (ar (by_e ∷ by_int ∷ []) n) (shaped (set [] ∷ set [] ∷ []) [])
    ∷ fit (ar (by_e ∷ by_e ∷ []) (va (op n))) (shaped (name E ∷ set (name A ∷ []) ∷ []) (num 1 ∷ gone ∷ []))
    ∷ []

pub shaped_tables_are_typed : map typing shaped_tables ≡ map expected shaped_tables
unfolding below same_type same_dims dims_below join coercions index_links all_below is_least resolution built_ins globals placed_from table with_number with_base with_indices enums_from index_enums_from with_rank ranks_from choices cases sets_of_cases scalars sets meanings readings_of result_var opt_of base_of type_of types_with types_of_rank array_types joined products index_lists index_sets param_types given_indices array_indices result_type numbered all_params with_mark with_meaning of_entry has_name of_named made signatures fitting entry_of wrapped coercions_to coerced all_coerced fitted best call_node row_of row_node is_left_out join_next listed tabled set_literal name_tree one_tree range_tree set_tree plain_tree list_tree rows_tree index_set_tree shaped_tree value_tree wanted typed_value
shaped_tables_are_typed = refl

-- `array3d` to `array6d`
abbrev shaped_further : List Example
shaped_further =
    fit (ar (by_int ∷ by_e ∷ by_int ∷ []) n) (shaped (range (num 1) (num 1) ∷ name E ∷ range (num 1) (num 1) ∷ []) (num 1 ∷ num 2 ∷ []))
    ∷ fit (ar (by_int ∷ by_int ∷ by_int ∷ by_int ∷ []) n) (shaped (range (num 1) (num 1) ∷ range (num 1) (num 1) ∷ range (num 1) (num 1) ∷ range (num 1) (num 1) ∷ []) (num 1 ∷ []))
    ∷ fit (ar (by_int ∷ by_int ∷ by_int ∷ by_int ∷ by_int ∷ []) n) (shaped (range (num 1) (num 1) ∷ range (num 1) (num 1) ∷ range (num 1) (num 1) ∷ range (num 1) (num 1) ∷ range (num 1) (num 1) ∷ []) (num 1 ∷ []))
    ∷ fit (ar (by_int ∷ by_int ∷ by_int ∷ by_int ∷ by_int ∷ by_int ∷ []) n) (shaped (range (num 1) (num 1) ∷ range (num 1) (num 1) ∷ range (num 1) (num 1) ∷ range (num 1) (num 1) ∷ range (num 1) (num 1) ∷ range (num 1) (num 1) ∷ []) (num 1 ∷ []))
    ∷ misfit (ar (by_int ∷ by_int ∷ by_int ∷ by_int ∷ by_int ∷ by_int ∷ []) n) (shaped (range (num 1) (num 1) ∷ range (num 1) (num 1) ∷ range (num 1) (num 1) ∷ range (num 1) (num 1) ∷ range (num 1) (num 1) ∷ []) (num 1 ∷ []))
    ∷ []

pub shaped_further_are_typed : map typing shaped_further ≡ map expected shaped_further
unfolding below same_type same_dims dims_below join coercions index_links all_below is_least resolution built_ins globals placed_from table with_number with_base with_indices enums_from index_enums_from with_rank ranks_from choices cases sets_of_cases scalars sets meanings readings_of result_var opt_of base_of type_of types_with types_of_rank array_types joined products index_lists index_sets param_types given_indices array_indices result_type numbered all_params with_mark with_meaning of_entry has_name of_named made signatures fitting entry_of wrapped coercions_to coerced all_coerced fitted best call_node row_of row_node is_left_out join_next listed tabled set_literal name_tree one_tree range_tree set_tree plain_tree list_tree rows_tree index_set_tree shaped_tree value_tree wanted typed_value
shaped_further_are_typed = refl
