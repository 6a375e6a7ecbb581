-- Worked examples of array and set literals and of accesses.
use Rattle.std.specs.Prelude.{◌≡◌, refl, List, [], ◌∷◌, map}
use Rattle.mz_base.specs.declared.kind.Kind.TheVariants.{LeftOut, TypeMismatch, UnknownName}
use Rattle.mz_check_meaning.specs.ExampleTrees.{n, e, sn, se, none, bot, va, op, li, square, A, B, num, gone, words, whole, name, array, rows, set, access, Example, has, stops, typing, expected}
use Rattle.mz_core.specs.Order.{below, same_type, same_dims, dims_below}
use Rattle.mz_core.specs.Join.{join}
use Rattle.mz_core.specs.Paths.{coercions, index_links}
use Rattle.mz_overload.specs.Best.{all_below, is_least, resolution}
use Rattle.mz_builtin.specs.Table.{built_ins, globals, placed_from, table}
use Rattle.mz_builtin.specs.Readings.{with_number, with_base, with_indices, enums_from, index_enums_from, with_rank, ranks_from, choices, cases, sets_of_cases, scalars, sets, meanings, readings_of, result_var, opt_of, base_of, type_of, types_with, types_of_rank, array_types, joined, products, index_lists, index_sets, param_types, given_indices, array_indices, result_type, numbered, all_params, with_mark, with_meaning, of_entry}
use Rattle.mz_builtin.specs.Signatures.{has_name, of_named, made, signatures, fitting, global_place}
use Rattle.mz_check_meaning.specs.Models.{entry_of, entries_of, local_in}
use Rattle.mz_check_meaning.specs.Coerced.{wrapped, coercions_to, coerced, all_coerced, fitted, condition, allowed_at}
use Rattle.mz_check_meaning.specs.Calls.{is_left_out, best, rows_for, candidates, call_node, applied, row_of, row_node}
use Rattle.mz_check_meaning.specs.Chains.{prefix_name, operator_name, operated, from_right, appended}
use Rattle.mz_check_meaning.specs.Arrays.{join_next, listed, tabled, set_literal, indices_fitted, accessed}
use Rattle.mz_check_meaning.specs.Branches.{branches_join, decided}
use Rattle.mz_check_meaning.specs.Comprehensions.{running_type, bind_names, listed_heads, set_of_heads, comprehended}
use Rattle.mz_check_meaning.specs.WrittenTypes.{par_set, index, values, set_of_values, declared_base, declared}
use Rattle.mz_check_meaning.specs.Lets.{let_node}
use Rattle.mz_check_meaning.specs.Names.{meant, named, bare_call}
use Rattle.mz_check_meaning.specs.Typing.{check, check_form, check_maybe, checks, check_links, check_rows, check_branches, check_piece, check_pieces, check_gen, check_gens, check_let, check_lets, check_declaration, check_written, check_based, check_dims, check_bases}

abbrev arrays : List Example
arrays =
    has (array 1 ((num 2) ∷ (num 5) ∷ [])) (li n)
    ∷ has (array 1 ((name 5 2) ∷ (num 5) ∷ [])) (li n)
    ∷ has (array 1 ((num 2) ∷ (name 4 5) ∷ [])) (li (va n))
    ∷ has (array 1 []) (li bot)
    ∷ stops (array 1 ((num 2) ∷ (words 5) ∷ [])) TypeMismatch 5
    ∷ stops (array 1 ((array 2 ((num 3) ∷ [])) ∷ [])) TypeMismatch 2
    ∷ has (array 1 ((gone 2) ∷ (num 6) ∷ [])) (li (op n))
    ∷ stops (array 1 ((gone 2) ∷ (set 6 ((num 7) ∷ [])) ∷ [])) TypeMismatch 6
    ∷ stops (array 1 ((words 2) ∷ (name 4 7) ∷ [])) TypeMismatch 7
    ∷ has (array 1 ((name A 2) ∷ (name B 5) ∷ [])) (li e)
    ∷ has (array 1 ((name A 2) ∷ (num 5) ∷ [])) (li n)
    ∷ has (array 1 ((set 2 []) ∷ (set 6 ((name A 7) ∷ [])) ∷ [])) (li se)
    ∷ stops (array 1 ((num 2) ∷ (words 5) ∷ (name 22 9) ∷ [])) UnknownName 9
    ∷ stops (array 1 ((array 2 []) ∷ (words 5) ∷ [])) TypeMismatch 2
    ∷ has (rows 1 (((num 3) ∷ (num 6) ∷ []) ∷ ((num 10) ∷ []) ∷ [])) (square n)
    ∷ stops (rows 1 (((words 3) ∷ []) ∷ ((num 10) ∷ []) ∷ [])) TypeMismatch 10
    ∷ has (rows 1 []) (square bot)
    ∷ stops (rows 1 (((name 7 3) ∷ []) ∷ [])) TypeMismatch 3
    ∷ []

pub arrays_are_typed : map typing arrays ≡ map expected arrays
unfolding below same_type same_dims dims_below join coercions index_links all_below is_least resolution built_ins globals placed_from table with_number with_base with_indices enums_from index_enums_from with_rank ranks_from choices cases sets_of_cases scalars sets meanings readings_of result_var opt_of base_of type_of types_with types_of_rank array_types joined products index_lists index_sets param_types given_indices array_indices result_type numbered all_params with_mark with_meaning of_entry has_name of_named made signatures fitting global_place entry_of entries_of local_in wrapped coercions_to coerced all_coerced fitted condition allowed_at is_left_out best rows_for candidates call_node applied row_of row_node prefix_name operator_name operated from_right appended join_next listed tabled set_literal indices_fitted accessed branches_join decided running_type bind_names listed_heads set_of_heads comprehended par_set index values set_of_values declared_base declared let_node meant named bare_call check check_form check_maybe checks check_links check_rows check_branches check_piece check_pieces check_gen check_gens check_let check_lets check_declaration check_written check_based check_dims check_bases
arrays_are_typed = refl

abbrev set_literals : List Example
set_literals =
    has (set 1 ((num 2) ∷ [])) sn
    ∷ has (set 1 []) none
    ∷ has (set 1 ((name 5 2) ∷ [])) sn
    ∷ has (set 1 ((name A 2) ∷ [])) se
    ∷ has (set 1 ((name A 2) ∷ (num 5) ∷ [])) sn
    ∷ stops (set 1 ((name 4 2) ∷ [])) LeftOut 1
    ∷ stops (set 1 ((words 2) ∷ [])) TypeMismatch 2
    ∷ stops (set 1 ((set 2 ((num 3) ∷ [])) ∷ [])) TypeMismatch 2
    ∷ stops (set 1 ((name 4 2) ∷ (words 5) ∷ [])) TypeMismatch 5
    ∷ stops (set 1 ((gone 2) ∷ [])) TypeMismatch 2
    ∷ stops (set 1 ((name 7 2) ∷ [])) TypeMismatch 2
    ∷ []

pub set_literals_are_typed : map typing set_literals ≡ map expected set_literals
unfolding below same_type same_dims dims_below join coercions index_links all_below is_least resolution built_ins globals placed_from table with_number with_base with_indices enums_from index_enums_from with_rank ranks_from choices cases sets_of_cases scalars sets meanings readings_of result_var opt_of base_of type_of types_with types_of_rank array_types joined products index_lists index_sets param_types given_indices array_indices result_type numbered all_params with_mark with_meaning of_entry has_name of_named made signatures fitting global_place entry_of entries_of local_in wrapped coercions_to coerced all_coerced fitted condition allowed_at is_left_out best rows_for candidates call_node applied row_of row_node prefix_name operator_name operated from_right appended join_next listed tabled set_literal indices_fitted accessed branches_join decided running_type bind_names listed_heads set_of_heads comprehended par_set index values set_of_values declared_base declared let_node meant named bare_call check check_form check_maybe checks check_links check_rows check_branches check_piece check_pieces check_gen check_gens check_let check_lets check_declaration check_written check_based check_dims check_bases
set_literals_are_typed = refl

abbrev accesses : List Example
accesses =
    has (access 1 (name 7 1) ((num 3) ∷ [])) n
    ∷ has (access 1 (name 7 1) ((name 4 3) ∷ [])) (va n)
    ∷ has (access 1 (name 8 1) ((num 3) ∷ [])) (va n)
    ∷ has (access 1 (name 9 1) ((name A 3) ∷ [])) n
    ∷ has (access 1 (name 9 1) ((name 15 3) ∷ [])) (va n)
    ∷ stops (access 1 (name 9 1) ((num 3) ∷ [])) TypeMismatch 3
    ∷ has (access 1 (name 7 1) ((name A 3) ∷ [])) n
    ∷ has (access 1 (name 7 1) ((name 5 3) ∷ [])) n
    ∷ stops (access 1 (name 3 2) ((num 5) ∷ [])) TypeMismatch 2
    ∷ stops (access 1 (name 11 2) ((num 5) ∷ [])) TypeMismatch 2
    ∷ stops (access 1 (name 7 1) ((num 3) ∷ (num 6) ∷ [])) TypeMismatch 1
    ∷ stops (access 1 (name 10 1) ((num 3) ∷ [])) TypeMismatch 1
    ∷ has (access 1 (name 10 1) ((num 3) ∷ (name 4 6) ∷ [])) (va n)
    ∷ stops (access 1 (name 10 1) ((words 3) ∷ (set 8 ((num 9) ∷ [])) ∷ [])) TypeMismatch 3
    ∷ stops (access 1 (name 10 1) ((set 3 ((num 4) ∷ [])) ∷ (words 8) ∷ [])) LeftOut 1
    ∷ stops (access 1 (name 7 1) ((gone 3) ∷ [])) TypeMismatch 3
    ∷ stops (access 2 (array 2 ((words 3) ∷ [])) ((name 4 8) ∷ [])) TypeMismatch 2
    ∷ stops (access 1 (name 7 1) ((whole 3) ∷ [])) LeftOut 3
    ∷ has (access 1 (array 1 []) ((num 4) ∷ [])) bot
    ∷ []

pub accesses_are_typed : map typing accesses ≡ map expected accesses
unfolding below same_type same_dims dims_below join coercions index_links all_below is_least resolution built_ins globals placed_from table with_number with_base with_indices enums_from index_enums_from with_rank ranks_from choices cases sets_of_cases scalars sets meanings readings_of result_var opt_of base_of type_of types_with types_of_rank array_types joined products index_lists index_sets param_types given_indices array_indices result_type numbered all_params with_mark with_meaning of_entry has_name of_named made signatures fitting global_place entry_of entries_of local_in wrapped coercions_to coerced all_coerced fitted condition allowed_at is_left_out best rows_for candidates call_node applied row_of row_node prefix_name operator_name operated from_right appended join_next listed tabled set_literal indices_fitted accessed branches_join decided running_type bind_names listed_heads set_of_heads comprehended par_set index values set_of_values declared_base declared let_node meant named bare_call check check_form check_maybe checks check_links check_rows check_branches check_piece check_pieces check_gen check_gens check_let check_lets check_declaration check_written check_based check_dims check_bases
accesses_are_typed = refl
