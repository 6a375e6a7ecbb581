-- Worked examples of data for declarations that are no arrays. What data writes stands in the comments.
use Rattle.std.specs.Prelude.{◌≡◌, refl, List, [], ◌∷◌, map}
use Rattle.mz_core.specs.Order.{below, same_type, same_dims, dims_below}
use Rattle.mz_core.specs.Join.{join}
use Rattle.mz_core.specs.Paths.{coercions, index_links}
use Rattle.mz_overload.specs.Best.{all_below, is_least, resolution}
use Rattle.mz_builtin.specs.Table.{built_ins, globals, placed_from, table}
use Rattle.mz_builtin.specs.Readings.{with_number, with_base, with_indices, enums_from, index_enums_from, with_rank, ranks_from, choices, cases, sets_of_cases, scalars, sets, meanings, readings_of, result_var, opt_of, base_of, type_of, types_with, types_of_rank, array_types, joined, products, index_lists, index_sets, param_types, given_indices, array_indices, result_type, numbered, all_params, with_mark, with_meaning, of_entry}
use Rattle.mz_builtin.specs.Signatures.{has_name, of_named, made, signatures, fitting}
use Rattle.mz_check_meaning.specs.Models.{entry_of}
use Rattle.mz_check_meaning.specs.Coerced.{wrapped, coercions_to, coerced, all_coerced, fitted}
use Rattle.mz_check_meaning.specs.Calls.{is_left_out, best, call_node, row_of, row_node}
use Rattle.mz_check_meaning.specs.Arrays.{join_next, listed, tabled, set_literal}
use Rattle.mz_check_data.specs.Datum.{name_tree, one_tree, range_tree, set_tree, plain_tree, list_tree, rows_tree, index_set_tree, shaped_tree, value_tree, wanted, typed_value}
use Rattle.mz_check_data.specs.ExampleData.{E, A, B, C, k, f, other, n, b, e, va, op, num, yes, name, gone, range, set, list, rows, shaped, Example, fit, misfit, typing, expected}

-- 1, true, and a case of any enum; no enum, declaration, function or other name, and nothing that has elements
abbrev integers : List Example
integers =
    fit n (num 1)
    ∷ fit n yes
    ∷ fit n (name A)
    ∷ fit n (name C)
    ∷ misfit n (name E)
    ∷ misfit n (name k)
    ∷ misfit n (name f)
    ∷ misfit n (name other)
    ∷ misfit n gone
    ∷ misfit n (range (num 1) (num 3))
    ∷ misfit n (set (num 1 ∷ []))
    ∷ misfit n (set [])
    ∷ misfit n (list (num 1 ∷ []))
    ∷ misfit n (list [])
    ∷ misfit n (rows ((num 1 ∷ []) ∷ []))
    ∷ misfit n (shaped (range (num 1) (num 1) ∷ []) (num 1 ∷ []))
    ∷ []

pub integers_are_typed : map typing integers ≡ map expected integers
unfolding below same_type same_dims dims_below join coercions index_links all_below is_least resolution built_ins globals placed_from table with_number with_base with_indices enums_from index_enums_from with_rank ranks_from choices cases sets_of_cases scalars sets meanings readings_of result_var opt_of base_of type_of types_with types_of_rank array_types joined products index_lists index_sets param_types given_indices array_indices result_type numbered all_params with_mark with_meaning of_entry has_name of_named made signatures fitting entry_of wrapped coercions_to coerced all_coerced fitted best call_node row_of row_node is_left_out join_next listed tabled set_literal name_tree one_tree range_tree set_tree plain_tree list_tree rows_tree index_set_tree shaped_tree value_tree wanted typed_value
integers_are_typed = refl

-- a Boolean is no integer
abbrev truths : List Example
truths =
    fit b yes
    ∷ misfit b (num 1)
    ∷ misfit b (name A)
    ∷ misfit b gone
    ∷ misfit b (set (yes ∷ []))
    ∷ misfit b (list (yes ∷ []))
    ∷ []

pub truths_are_typed : map typing truths ≡ map expected truths
unfolding below same_type same_dims dims_below join coercions index_links all_below is_least resolution built_ins globals placed_from table with_number with_base with_indices enums_from index_enums_from with_rank ranks_from choices cases sets_of_cases scalars sets meanings readings_of result_var opt_of base_of type_of types_with types_of_rank array_types joined products index_lists index_sets param_types given_indices array_indices result_type numbered all_params with_mark with_meaning of_entry has_name of_named made signatures fitting entry_of wrapped coercions_to coerced all_coerced fitted best call_node row_of row_node is_left_out join_next listed tabled set_literal name_tree one_tree range_tree set_tree plain_tree list_tree rows_tree index_set_tree shaped_tree value_tree wanted typed_value
truths_are_typed = refl

-- a case of the enum itself
abbrev cases_of_e : List Example
cases_of_e =
    fit e (name A)
    ∷ fit e (name B)
    ∷ misfit e (name C)
    ∷ misfit e (name E)
    ∷ misfit e (num 1)
    ∷ misfit e yes
    ∷ misfit e (name k)
    ∷ misfit e (name other)
    ∷ misfit e (set (name A ∷ []))
    ∷ misfit e (range (name A) (name B))
    ∷ []

pub cases_of_e_are_typed : map typing cases_of_e ≡ map expected cases_of_e
unfolding below same_type same_dims dims_below join coercions index_links all_below is_least resolution built_ins globals placed_from table with_number with_base with_indices enums_from index_enums_from with_rank ranks_from choices cases sets_of_cases scalars sets meanings readings_of result_var opt_of base_of type_of types_with types_of_rank array_types joined products index_lists index_sets param_types given_indices array_indices result_type numbered all_params with_mark with_meaning of_entry has_name of_named made signatures fitting entry_of wrapped coercions_to coerced all_coerced fitted best call_node row_of row_node is_left_out join_next listed tabled set_literal name_tree one_tree range_tree set_tree plain_tree list_tree rows_tree index_set_tree shaped_tree value_tree wanted typed_value
cases_of_e_are_typed = refl

-- `<>`, and what fits without the option
abbrev options : List Example
options =
    fit (op n) (num 1)
    ∷ fit (op n) gone
    ∷ fit (op n) yes
    ∷ fit (op n) (name A)
    ∷ misfit (op n) (set (num 1 ∷ []))
    ∷ fit (op b) yes
    ∷ fit (op b) gone
    ∷ misfit (op b) (num 1)
    ∷ fit (op e) (name A)
    ∷ fit (op e) gone
    ∷ misfit (op e) (name C)
    ∷ misfit (op e) (num 1)
    ∷ []

pub options_are_typed : map typing options ≡ map expected options
unfolding below same_type same_dims dims_below join coercions index_links all_below is_least resolution built_ins globals placed_from table with_number with_base with_indices enums_from index_enums_from with_rank ranks_from choices cases sets_of_cases scalars sets meanings readings_of result_var opt_of base_of type_of types_with types_of_rank array_types joined products index_lists index_sets param_types given_indices array_indices result_type numbered all_params with_mark with_meaning of_entry has_name of_named made signatures fitting entry_of wrapped coercions_to coerced all_coerced fitted best call_node row_of row_node is_left_out join_next listed tabled set_literal name_tree one_tree range_tree set_tree plain_tree list_tree rows_tree index_set_tree shaped_tree value_tree wanted typed_value
options_are_typed = refl

-- data for a var declaration is its value
abbrev variables : List Example
variables =
    fit (va n) (num 1)
    ∷ fit (va n) yes
    ∷ fit (va n) (name B)
    ∷ misfit (va n) gone
    ∷ fit (va b) yes
    ∷ misfit (va b) (num 1)
    ∷ fit (va e) (name B)
    ∷ misfit (va e) (name C)
    ∷ fit (va (op n)) gone
    ∷ fit (va (op n)) (num 1)
    ∷ fit (va (op b)) yes
    ∷ misfit (va (op e)) (num 1)
    ∷ []

pub variables_are_typed : map typing variables ≡ map expected variables
unfolding below same_type same_dims dims_below join coercions index_links all_below is_least resolution built_ins globals placed_from table with_number with_base with_indices enums_from index_enums_from with_rank ranks_from choices cases sets_of_cases scalars sets meanings readings_of result_var opt_of base_of type_of types_with types_of_rank array_types joined products index_lists index_sets param_types given_indices array_indices result_type numbered all_params with_mark with_meaning of_entry has_name of_named made signatures fitting entry_of wrapped coercions_to coerced all_coerced fitted best call_node row_of row_node is_left_out join_next listed tabled set_literal name_tree one_tree range_tree set_tree plain_tree list_tree rows_tree index_set_tree shaped_tree value_tree wanted typed_value
variables_are_typed = refl
