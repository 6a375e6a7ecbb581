-- Worked examples of data for sets.
use Rattle.std.specs.Prelude.{◌≡◌, refl, List, [], ◌∷◌, map}
use Rattle.mz_core.specs.Order.{below, same_type, same_dims, dims_below}
use Rattle.mz_core.specs.Join.{join}
use Rattle.mz_core.specs.Paths.{coercions, index_links}
use Rattle.mz_overload.specs.Best.{all_below, is_least, resolution}
use Rattle.mz_builtin.specs.Table.{built_ins, globals, placed_from, table}
use Rattle.mz_builtin.specs.Readings.{with_number, with_base, with_indices, enums_from, index_enums_from, with_rank, ranks_from, choices, cases, sets_of_cases, scalars, sets, meanings, readings_of, result_var, opt_of, base_of, type_of, types_with, types_of_rank, array_types, joined, products, index_lists, index_sets, param_types, given_indices, array_indices, result_type, numbered, all_params, with_mark, with_meaning, of_entry}
use Rattle.mz_builtin.specs.Signatures.{has_name, of_named, made, signatures, fitting}
use Rattle.mz_check_meaning.specs.Models.{entry_of}
use Rattle.mz_check_meaning.specs.Coerced.{wrapped, coercions_to, coerced, all_coerced, fitted}
use Rattle.mz_check_meaning.specs.Calls.{is_left_out, best, call_node, row_of, row_node}
use Rattle.mz_check_meaning.specs.Arrays.{join_next, listed, tabled, set_literal}
use Rattle.mz_check_data.specs.Datum.{name_tree, one_tree, range_tree, set_tree, plain_tree, list_tree, rows_tree, index_set_tree, shaped_tree, value_tree, wanted, typed_value}
use Rattle.mz_check_data.specs.ExampleData.{E, A, B, F, C, k, other, sn, se, va, num, yes, name, gone, range, set, list, shaped, Example, fit, misfit, typing, expected}

-- of integers and of cases, in braces, as a range, or all cases of an enum; and the cases of an enum are no elements
abbrev integer_sets : List Example
integer_sets =
    fit sn (set (num 1 ∷ num 2 ∷ []))
    ∷ fit sn (set [])
    ∷ fit sn (set (yes ∷ []))
    ∷ fit sn (set (name A ∷ num 1 ∷ []))
    ∷ fit sn (set (name A ∷ name B ∷ []))
    ∷ fit sn (set (name A ∷ name C ∷ []))
    ∷ fit sn (range (num 1) (num 3))
    ∷ fit sn (range yes (num 3))
    ∷ fit sn (range (name A) (name B))
    ∷ fit sn (range (name A) (name C))
    ∷ fit sn (range (name A) (num 3))
    ∷ fit sn (name E)
    ∷ fit sn (name F)
    ∷ misfit sn (num 1)
    ∷ misfit sn (name A)
    ∷ misfit sn gone
    ∷ misfit sn (list (num 1 ∷ num 2 ∷ []))
    ∷ misfit sn (list [])
    ∷ misfit sn (set (name E ∷ []))
    ∷ misfit sn (range (name E) (num 1))
    ∷ misfit sn (set (name k ∷ []))
    ∷ misfit sn (set (num 1 ∷ name other ∷ []))
    ∷ misfit sn (range (num 1) (name k))
    ∷ misfit sn (shaped (range (num 1) (num 1) ∷ []) (num 1 ∷ []))
    ∷ []

pub integer_sets_are_typed : map typing integer_sets ≡ map expected integer_sets
unfolding below same_type same_dims dims_below join coercions index_links all_below is_least resolution built_ins globals placed_from table with_number with_base with_indices enums_from index_enums_from with_rank ranks_from choices cases sets_of_cases scalars sets meanings readings_of result_var opt_of base_of type_of types_with types_of_rank array_types joined products index_lists index_sets param_types given_indices array_indices result_type numbered all_params with_mark with_meaning of_entry has_name of_named made signatures fitting entry_of wrapped coercions_to coerced all_coerced fitted best call_node row_of row_node is_left_out join_next listed tabled set_literal name_tree one_tree range_tree set_tree plain_tree list_tree rows_tree index_set_tree shaped_tree value_tree wanted typed_value
integer_sets_are_typed = refl

-- of cases of the enum itself
abbrev case_sets : List Example
case_sets =
    fit se (set (name A ∷ name B ∷ []))
    ∷ fit se (set [])
    ∷ fit se (range (name A) (name B))
    ∷ fit se (name E)
    ∷ misfit se (set (name C ∷ []))
    ∷ misfit se (set (name A ∷ name C ∷ []))
    ∷ misfit se (set (name A ∷ num 1 ∷ []))
    ∷ misfit se (set (num 1 ∷ []))
    ∷ misfit se (range (name A) (name C))
    ∷ misfit se (range (name A) (num 2))
    ∷ misfit se (range (num 1) (num 2))
    ∷ misfit se (name F)
    ∷ misfit se (name A)
    ∷ misfit se (set (name other ∷ []))
    ∷ []

pub case_sets_are_typed : map typing case_sets ≡ map expected case_sets
unfolding below same_type same_dims dims_below join coercions index_links all_below is_least resolution built_ins globals placed_from table with_number with_base with_indices enums_from index_enums_from with_rank ranks_from choices cases sets_of_cases scalars sets meanings readings_of result_var opt_of base_of type_of types_with types_of_rank array_types joined products index_lists index_sets param_types given_indices array_indices result_type numbered all_params with_mark with_meaning of_entry has_name of_named made signatures fitting entry_of wrapped coercions_to coerced all_coerced fitted best call_node row_of row_node is_left_out join_next listed tabled set_literal name_tree one_tree range_tree set_tree plain_tree list_tree rows_tree index_set_tree shaped_tree value_tree wanted typed_value
case_sets_are_typed = refl

-- of var declarations
abbrev variable_sets : List Example
variable_sets =
    fit (va sn) (set (num 1 ∷ []))
    ∷ fit (va sn) (range (num 1) (num 2))
    ∷ fit (va sn) (name E)
    ∷ fit (va sn) (set [])
    ∷ misfit (va sn) (num 1)
    ∷ fit (va se) (set (name A ∷ []))
    ∷ fit (va se) (range (name A) (name B))
    ∷ misfit (va se) (set (num 1 ∷ []))
    ∷ []

pub variable_sets_are_typed : map typing variable_sets ≡ map expected variable_sets
unfolding below same_type same_dims dims_below join coercions index_links all_below is_least resolution built_ins globals placed_from table with_number with_base with_indices enums_from index_enums_from with_rank ranks_from choices cases sets_of_cases scalars sets meanings readings_of result_var opt_of base_of type_of types_with types_of_rank array_types joined products index_lists index_sets param_types given_indices array_indices result_type numbered all_params with_mark with_meaning of_entry has_name of_named made signatures fitting entry_of wrapped coercions_to coerced all_coerced fitted best call_node row_of row_node is_left_out join_next listed tabled set_literal name_tree one_tree range_tree set_tree plain_tree list_tree rows_tree index_set_tree shaped_tree value_tree wanted typed_value
variable_sets_are_typed = refl
