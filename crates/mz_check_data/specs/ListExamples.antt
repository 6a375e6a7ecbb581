-- Worked examples of data for arrays of one dimension.
use Rattle.std.specs.Prelude.{◌≡◌, refl, List, [], ◌∷◌, map}
use Rattle.mz_core.specs.Order.{below, same_type, same_dims, dims_below}
use Rattle.mz_core.specs.Join.{join}
use Rattle.mz_core.specs.Paths.{coercions, index_links}
use Rattle.mz_overload.specs.Best.{all_below, is_least, resolution}
use Rattle.mz_builtin.specs.Table.{built_ins, globals, placed_from, table}
use Rattle.mz_builtin.specs.Readings.{with_number, with_base, with_indices, enums_from, index_enums_from, with_rank, ranks_from, choices, cases, sets_of_cases, scalars, sets, meanings, readings_of, result_var, opt_of, base_of, type_of, types_with, types_of_rank, array_types, joined, products, index_lists, index_sets, param_types, given_indices, array_indices, result_type, numbered, all_params, with_mark, with_meaning, of_entry}
use Rattle.mz_builtin.specs.Signatures.{has_name, of_named, made, signatures, fitting}
use Rattle.mz_check_meaning.specs.Models.{entry_of}
use Rattle.mz_check_meaning.specs.Coerced.{wrapped, coercions_to, coerced, all_coerced, fitted}
use Rattle.mz_check_meaning.specs.Calls.{is_left_out, best, call_node, row_of, row_node}
use Rattle.mz_check_meaning.specs.Arrays.{join_next, listed, tabled, set_literal}
use Rattle.mz_check_data.specs.Datum.{name_tree, one_tree, range_tree, set_tree, plain_tree, list_tree, rows_tree, index_set_tree, shaped_tree, value_tree, wanted, typed_value}
use Rattle.mz_check_data.specs.ExampleData.{E, A, B, F, C, k, other, n, b, e, sn, se, va, op, ar, by_e, li, num, yes, name, gone, range, set, list, rows, Example, gives, fit, misfit, typing, expected}

-- elements that fit an int; a list of any length
abbrev integer_lists : List Example
integer_lists =
    fit (li n) (list (num 1 ∷ num 2 ∷ []))
    ∷ fit (li n) (list [])
    ∷ fit (li n) (list (yes ∷ num 2 ∷ []))
    ∷ fit (li n) (list (name A ∷ num 1 ∷ []))
    ∷ fit (li n) (list (name A ∷ name C ∷ []))
    ∷ misfit (li n) (list (num 1 ∷ gone ∷ []))
    ∷ misfit (li n) (list (num 1 ∷ set (num 1 ∷ []) ∷ []))
    ∷ misfit (li n) (list (name E ∷ []))
    ∷ misfit (li n) (list (num 1 ∷ name other ∷ []))
    ∷ misfit (li n) (list (num 1 ∷ name k ∷ []))
    ∷ misfit (li n) (num 1)
    ∷ misfit (li n) gone
    ∷ misfit (li n) (rows ((num 1 ∷ num 2 ∷ []) ∷ []))
    ∷ misfit (li n) (rows [])
    ∷ []

pub integer_lists_are_typed : map typing integer_lists ≡ map expected integer_lists
unfolding below same_type same_dims dims_below join coercions index_links all_below is_least resolution built_ins globals placed_from table with_number with_base with_indices enums_from index_enums_from with_rank ranks_from choices cases sets_of_cases scalars sets meanings readings_of result_var opt_of base_of type_of types_with types_of_rank array_types joined products index_lists index_sets param_types given_indices array_indices result_type numbered all_params with_mark with_meaning of_entry has_name of_named made signatures fitting entry_of wrapped coercions_to coerced all_coerced fitted best call_node row_of row_node is_left_out join_next listed tabled set_literal name_tree one_tree range_tree set_tree plain_tree list_tree rows_tree index_set_tree shaped_tree value_tree wanted typed_value
integer_lists_are_typed = refl

-- a set fits an array with index int, as its elements
abbrev sets_as_lists : List Example
sets_as_lists =
    fit (li n) (set (num 1 ∷ num 2 ∷ []))
    ∷ fit (li n) (range (num 1) (num 3))
    ∷ fit (li n) (set (name A ∷ []))
    ∷ fit (li n) (name E)
    ∷ fit (li n) (set [])
    ∷ fit (li e) (set (name A ∷ []))
    ∷ fit (li e) (name E)
    ∷ fit (li e) (range (name A) (name B))
    ∷ misfit (li e) (set (num 1 ∷ []))
    ∷ misfit (li e) (name F)
    ∷ fit (li (op n)) (set (num 1 ∷ []))
    ∷ fit (li (va n)) (range (num 1) (num 2))
    ∷ misfit (li b) (set (yes ∷ []))
    ∷ misfit (li sn) (set (num 1 ∷ []))
    ∷ misfit (ar (by_e ∷ []) n) (set (num 1 ∷ num 2 ∷ []))
    ∷ misfit (ar (by_e ∷ []) n) (name E)
    ∷ []

pub sets_as_lists_are_typed : map typing sets_as_lists ≡ map expected sets_as_lists
unfolding below same_type same_dims dims_below join coercions index_links all_below is_least resolution built_ins globals placed_from table with_number with_base with_indices enums_from index_enums_from with_rank ranks_from choices cases sets_of_cases scalars sets meanings readings_of result_var opt_of base_of type_of types_with types_of_rank array_types joined products index_lists index_sets param_types given_indices array_indices result_type numbered all_params with_mark with_meaning of_entry has_name of_named made signatures fitting entry_of wrapped coercions_to coerced all_coerced fitted best call_node row_of row_node is_left_out join_next listed tabled set_literal name_tree one_tree range_tree set_tree plain_tree list_tree rows_tree index_set_tree shaped_tree value_tree wanted typed_value
sets_as_lists_are_typed = refl

-- of other elements
abbrev other_lists : List Example
other_lists =
    fit (li b) (list (yes ∷ []))
    ∷ misfit (li b) (list (yes ∷ num 1 ∷ []))
    ∷ fit (li e) (list (name A ∷ name B ∷ []))
    ∷ misfit (li e) (list (name A ∷ name C ∷ []))
    ∷ misfit (li e) (list (name A ∷ num 1 ∷ []))
    ∷ fit (li (op n)) (list (num 1 ∷ gone ∷ []))
    ∷ fit (li (op n)) (list (gone ∷ []))
    ∷ fit (li (op n)) (list (yes ∷ gone ∷ []))
    ∷ misfit (li (op b)) (list (num 1 ∷ gone ∷ []))
    ∷ fit (li (op e)) (list (name A ∷ gone ∷ []))
    ∷ fit (li sn) (list (set (num 1 ∷ []) ∷ range (num 2) (num 3) ∷ set [] ∷ name E ∷ []))
    ∷ fit (li sn) (list (set (name A ∷ []) ∷ set (name C ∷ []) ∷ []))
    ∷ misfit (li sn) (list (num 1 ∷ []))
    ∷ misfit (li sn) (list (set (num 1 ∷ []) ∷ gone ∷ []))
    ∷ fit (li se) (list (set (name A ∷ []) ∷ set [] ∷ range (name A) (name B) ∷ name E ∷ []))
    ∷ misfit (li se) (list (set (name A ∷ []) ∷ set (name C ∷ []) ∷ []))
    ∷ misfit (li se) (list (set (num 1 ∷ []) ∷ []))
    ∷ []

pub other_lists_are_typed : map typing other_lists ≡ map expected other_lists
unfolding below same_type same_dims dims_below join coercions index_links all_below is_least resolution built_ins globals placed_from table with_number with_base with_indices enums_from index_enums_from with_rank ranks_from choices cases sets_of_cases scalars sets meanings readings_of result_var opt_of base_of type_of types_with types_of_rank array_types joined products index_lists index_sets param_types given_indices array_indices result_type numbered all_params with_mark with_meaning of_entry has_name of_named made signatures fitting entry_of wrapped coercions_to coerced all_coerced fitted best call_node row_of row_node is_left_out join_next listed tabled set_literal name_tree one_tree range_tree set_tree plain_tree list_tree rows_tree index_set_tree shaped_tree value_tree wanted typed_value
other_lists_are_typed = refl

-- of var declarations
abbrev variable_lists : List Example
variable_lists =
    fit (li (va n)) (list (num 1 ∷ num 2 ∷ []))
    ∷ fit (li (va n)) (list (yes ∷ []))
    ∷ fit (li (va n)) (list [])
    ∷ misfit (li (va b)) (list (num 1 ∷ []))
    ∷ fit (li (va (op n))) (list (num 1 ∷ gone ∷ []))
    ∷ fit (li (va e)) (list (name A ∷ []))
    ∷ fit (li (va sn)) (list (set (num 1 ∷ []) ∷ set (name A ∷ []) ∷ []))
    ∷ misfit (li (va se)) (list (set (num 1 ∷ []) ∷ []))
    ∷ []

pub variable_lists_are_typed : map typing variable_lists ≡ map expected variable_lists
unfolding below same_type same_dims dims_below join coercions index_links all_below is_least resolution built_ins globals placed_from table with_number with_base with_indices enums_from index_enums_from with_rank ranks_from choices cases sets_of_cases scalars sets meanings readings_of result_var opt_of base_of type_of types_with types_of_rank array_types joined products index_lists index_sets param_types given_indices array_indices result_type numbered all_params with_mark with_meaning of_entry has_name of_named made signatures fitting entry_of wrapped coercions_to coerced all_coerced fitted best call_node row_of row_node is_left_out join_next listed tabled set_literal name_tree one_tree range_tree set_tree plain_tree list_tree rows_tree index_set_tree shaped_tree value_tree wanted typed_value
variable_lists_are_typed = refl

-- a list takes no index type: it fits an array indexed by an enum too, and its length is tested in evaluation
abbrev lists_by_cases : List Example
lists_by_cases =
    gives (ar (by_e ∷ []) n) (list (num 1 ∷ num 2 ∷ [])) (li n)
    ∷ gives (ar (by_e ∷ []) n) (list (num 1 ∷ num 2 ∷ num 3 ∷ [])) (li n)
    ∷ gives (ar (by_e ∷ []) n) (list []) (li n)
    ∷ gives (ar (by_e ∷ []) e) (list (name A ∷ [])) (li e)
    ∷ gives (ar (by_e ∷ []) (va n)) (list (num 1 ∷ [])) (li (va n))
    ∷ misfit (ar (by_e ∷ []) b) (list (num 1 ∷ []))
    ∷ misfit (ar (by_e ∷ []) n) (rows ((num 1 ∷ num 2 ∷ []) ∷ []))
    ∷ []

pub lists_by_cases_are_typed : map typing lists_by_cases ≡ map expected lists_by_cases
unfolding below same_type same_dims dims_below join coercions index_links all_below is_least resolution built_ins globals placed_from table with_number with_base with_indices enums_from index_enums_from with_rank ranks_from choices cases sets_of_cases scalars sets meanings readings_of result_var opt_of base_of type_of types_with types_of_rank array_types joined products index_lists index_sets param_types given_indices array_indices result_type numbered all_params with_mark with_meaning of_entry has_name of_named made signatures fitting entry_of wrapped coercions_to coerced all_coerced fitted best call_node row_of row_node is_left_out join_next listed tabled set_literal name_tree one_tree range_tree set_tree plain_tree list_tree rows_tree index_set_tree shaped_tree value_tree wanted typed_value
lists_by_cases_are_typed = refl
