-- Worked examples of names, literals and calls.
use Rattle.std.specs.Prelude.{◌≡◌, refl, List, [], ◌∷◌, map}
use Rattle.mz_base.specs.declared.kind.Kind.TheVariants.{Ambiguous, LeftOut, NoOverload, UnknownName}
use Rattle.mz_check_meaning.specs.ExampleTrees.{b, n, e, se, tx, bot, va, op, by, E, A, num, truth, gone, words, whole, name, call, array, set, Example, has, stops, typing, expected}
use Rattle.mz_core.specs.Order.{below, same_type, same_dims, dims_below}
use Rattle.mz_core.specs.Join.{join}
use Rattle.mz_core.specs.Paths.{coercions, index_links}
use Rattle.mz_overload.specs.Best.{all_below, is_least, resolution}
use Rattle.mz_builtin.specs.Table.{built_ins, globals, placed_from, table}
use Rattle.mz_builtin.specs.Readings.{with_number, with_base, with_indices, enums_from, index_enums_from, with_rank, ranks_from, choices, cases, sets_of_cases, scalars, sets, meanings, readings_of, result_var, opt_of, base_of, type_of, types_with, types_of_rank, array_types, joined, products, index_lists, index_sets, param_types, given_indices, array_indices, result_type, numbered, all_params, with_mark, with_meaning, of_entry}
use Rattle.mz_builtin.specs.Signatures.{has_name, of_named, made, signatures, fitting, global_place}
use Rattle.mz_check_meaning.specs.Models.{entry_of, entries_of, local_in}
use Rattle.mz_check_meaning.specs.Coerced.{wrapped, coercions_to, coerced, all_coerced, fitted, condition, allowed_at}
use Rattle.mz_check_meaning.specs.Calls.{is_left_out, best, rows_for, candidates, call_node, applied, row_of, row_node}
use Rattle.mz_check_meaning.specs.Chains.{prefix_name, operator_name, operated, from_right, appended}
use Rattle.mz_check_meaning.specs.Arrays.{join_next, listed, tabled, set_literal, indices_fitted, accessed}
use Rattle.mz_check_meaning.specs.Branches.{branches_join, decided}
use Rattle.mz_check_meaning.specs.Comprehensions.{running_type, bind_names, listed_heads, set_of_heads, comprehended}
use Rattle.mz_check_meaning.specs.WrittenTypes.{par_set, index, values, set_of_values, declared_base, declared}
use Rattle.mz_check_meaning.specs.Lets.{let_node}
use Rattle.mz_check_meaning.specs.Names.{meant, named, bare_call}
use Rattle.mz_check_meaning.specs.Typing.{check, check_form, check_maybe, checks, check_links, check_rows, check_branches, check_piece, check_pieces, check_gen, check_gens, check_let, check_lets, check_declaration, check_written, check_based, check_dims, check_bases}

abbrev names : List Example
names =
    has (num 1) n
    ∷ has (truth 1) b
    ∷ has (gone 1) (op bot)
    ∷ has (words 1) tx
    ∷ has (name 3 1) n
    ∷ has (name 4 1) (va n)
    ∷ has (name E 1) se
    ∷ has (name A 1) e
    ∷ has (name 19 1) (va n)
    ∷ stops (name 16 1) UnknownName 1
    ∷ stops (name 24 1) UnknownName 1
    ∷ stops (name 22 7) UnknownName 7
    ∷ has (call 19 1 []) (va n)
    ∷ stops (call 3 1 []) NoOverload 1
    ∷ stops (call 16 1 []) NoOverload 1
    ∷ stops (call 24 4 []) NoOverload 4
    ∷ stops (whole 3) LeftOut 3
    ∷ []

pub names_are_typed : map typing names ≡ map expected names
unfolding below same_type same_dims dims_below join coercions index_links all_below is_least resolution built_ins globals placed_from table with_number with_base with_indices enums_from index_enums_from with_rank ranks_from choices cases sets_of_cases scalars sets meanings readings_of result_var opt_of base_of type_of types_with types_of_rank array_types joined products index_lists index_sets param_types given_indices array_indices result_type numbered all_params with_mark with_meaning of_entry has_name of_named made signatures fitting global_place entry_of entries_of local_in wrapped coercions_to coerced all_coerced fitted condition allowed_at is_left_out best rows_for candidates call_node applied row_of row_node prefix_name operator_name operated from_right appended join_next listed tabled set_literal indices_fitted accessed branches_join decided running_type bind_names listed_heads set_of_heads comprehended par_set index values set_of_values declared_base declared let_node meant named bare_call check check_form check_maybe checks check_links check_rows check_branches check_piece check_pieces check_gen check_gens check_let check_lets check_declaration check_written check_based check_dims check_bases
names_are_typed = refl

abbrev calls : List Example
calls =
    has (call 16 1 ((num 3) ∷ [])) n
    ∷ stops (call 16 1 ((name 4 3) ∷ [])) NoOverload 1
    ∷ has (call 16 1 ((name 5 3) ∷ [])) n
    ∷ has (call 16 1 ((name A 3) ∷ [])) n
    ∷ has (call 17 1 ((num 3) ∷ [])) (va n)
    ∷ has (call 17 1 ((name 4 3) ∷ [])) (va n)
    ∷ stops (call 18 1 ((num 3) ∷ (num 6) ∷ [])) Ambiguous 1
    ∷ has (call 18 1 ((name 4 3) ∷ (num 6) ∷ [])) (va b)
    ∷ has (call 18 1 ((num 3) ∷ (name 4 6) ∷ [])) (va b)
    ∷ stops (call 18 1 ((name 4 3) ∷ (name 4 6) ∷ [])) NoOverload 1
    ∷ stops (call 3 1 ((num 3) ∷ [])) NoOverload 1
    ∷ stops (call 19 1 ((num 3) ∷ [])) NoOverload 1
    ∷ stops (call 16 1 ((name 22 3) ∷ [])) UnknownName 3
    ∷ []

pub calls_are_typed : map typing calls ≡ map expected calls
unfolding below same_type same_dims dims_below join coercions index_links all_below is_least resolution built_ins globals placed_from table with_number with_base with_indices enums_from index_enums_from with_rank ranks_from choices cases sets_of_cases scalars sets meanings readings_of result_var opt_of base_of type_of types_with types_of_rank array_types joined products index_lists index_sets param_types given_indices array_indices result_type numbered all_params with_mark with_meaning of_entry has_name of_named made signatures fitting global_place entry_of entries_of local_in wrapped coercions_to coerced all_coerced fitted condition allowed_at is_left_out best rows_for candidates call_node applied row_of row_node prefix_name operator_name operated from_right appended join_next listed tabled set_literal indices_fitted accessed branches_join decided running_type bind_names listed_heads set_of_heads comprehended par_set index values set_of_values declared_base declared let_node meant named bare_call check check_form check_maybe checks check_links check_rows check_branches check_piece check_pieces check_gen check_gens check_let check_lets check_declaration check_written check_based check_dims check_bases
calls_are_typed = refl

abbrev library_calls : List Example
library_calls =
    has (call 24 1 ((name 7 3) ∷ [])) n
    ∷ has (call 24 1 ((name 8 3) ∷ [])) (va n)
    ∷ has (call 24 1 ((array 5 ((name 13 6) ∷ [])) ∷ [])) (va n)
    ∷ has (call 24 1 ((array 5 []) ∷ [])) n
    ∷ stops (call 26 1 ((array 8 []) ∷ [])) Ambiguous 1
    ∷ has (call 26 1 ((name 8 3) ∷ [])) n
    ∷ stops (call 26 1 ((array 8 ((words 9) ∷ [])) ∷ [])) NoOverload 1
    ∷ has (call 20 1 ((name 5 3) ∷ [])) b
    ∷ stops (call 20 1 ((name 7 3) ∷ [])) NoOverload 1
    ∷ has (call 32 1 ((name 8 3) ∷ [])) (va b)
    ∷ has (call 21 1 ((name 7 3) ∷ (num 6) ∷ [])) n
    ∷ has (call 21 1 ((array 5 ((truth 6) ∷ [])) ∷ [])) n
    ∷ has (call 30 1 ((gone 7) ∷ [])) b
    ∷ has (call 31 1 ((set 6 []) ∷ [])) n
    ∷ has (call 31 1 ((name 12 6) ∷ [])) (va n)
    ∷ has (call 33 1 ((name E 9) ∷ (name 7 11) ∷ [])) (by n)
    ∷ has (call 34 1 ((name E 5) ∷ [])) e
    ∷ stops (call 28 1 ((words 6) ∷ [])) NoOverload 1
    ∷ stops (call 29 1 ((name 6 8) ∷ (words 10) ∷ [])) NoOverload 1
    ∷ has (call 29 1 ((name 5 8) ∷ (words 10) ∷ [])) b
    ∷ stops (call 29 1 ((truth 8) ∷ (words 10) ∷ (array 12 []) ∷ [])) Ambiguous 1
    ∷ []

pub library_calls_are_typed : map typing library_calls ≡ map expected library_calls
unfolding below same_type same_dims dims_below join coercions index_links all_below is_least resolution built_ins globals placed_from table with_number with_base with_indices enums_from index_enums_from with_rank ranks_from choices cases sets_of_cases scalars sets meanings readings_of result_var opt_of base_of type_of types_with types_of_rank array_types joined products index_lists index_sets param_types given_indices array_indices result_type numbered all_params with_mark with_meaning of_entry has_name of_named made signatures fitting global_place entry_of entries_of local_in wrapped coercions_to coerced all_coerced fitted condition allowed_at is_left_out best rows_for candidates call_node applied row_of row_node prefix_name operator_name operated from_right appended join_next listed tabled set_literal indices_fitted accessed branches_join decided running_type bind_names listed_heads set_of_heads comprehended par_set index values set_of_values declared_base declared let_node meant named bare_call check check_form check_maybe checks check_links check_rows check_branches check_piece check_pieces check_gen check_gens check_let check_lets check_declaration check_written check_based check_dims check_bases
library_calls_are_typed = refl
