-- Worked examples of comprehensions and of calls with generators.
use Rattle.std.specs.Prelude.{◌≡◌, refl, List, [], ◌∷◌, map, Some, None}
use Rattle.mz_base.specs.declared.kind.Kind.TheVariants.{Ambiguous, DuplicateName, LeftOut, NoOverload, TypeMismatch, UnknownName}
use Rattle.mz_tree.specs.declared.expr.BinOp.TheVariants as o
use Rattle.mz_check_meaning.specs.ExampleTrees.{b, n, e, sn, se, va, op, li, E, num, truth, words, name, call, bin, array, set, gen, list_of, set_of, gen_call, Example, has, stops, typing, expected}
use Rattle.mz_core.specs.Order.{below, same_type, same_dims, dims_below}
use Rattle.mz_core.specs.Join.{join}
use Rattle.mz_core.specs.Paths.{coercions, index_links}
use Rattle.mz_overload.specs.Best.{all_below, is_least, resolution}
use Rattle.mz_builtin.specs.Table.{built_ins, globals, placed_from, table}
use Rattle.mz_builtin.specs.Readings.{with_number, with_base, with_indices, enums_from, index_enums_from, with_rank, ranks_from, choices, cases, sets_of_cases, scalars, sets, meanings, readings_of, result_var, opt_of, base_of, type_of, types_with, types_of_rank, array_types, joined, products, index_lists, index_sets, param_types, given_indices, array_indices, result_type, numbered, all_params, with_mark, with_meaning, of_entry}
use Rattle.mz_builtin.specs.Signatures.{has_name, of_named, made, signatures, fitting, global_place}
use Rattle.mz_check_meaning.specs.Models.{entry_of, entries_of, local_in}
use Rattle.mz_check_meaning.specs.Coerced.{wrapped, coercions_to, coerced, all_coerced, fitted, condition, allowed_at}
use Rattle.mz_check_meaning.specs.Calls.{is_left_out, best, rows_for, candidates, call_node, applied, row_of, row_node}
use Rattle.mz_check_meaning.specs.Chains.{prefix_name, operator_name, operated, from_right, appended}
use Rattle.mz_check_meaning.specs.Arrays.{join_next, listed, tabled, set_literal, indices_fitted, accessed}
use Rattle.mz_check_meaning.specs.Branches.{branches_join, decided}
use Rattle.mz_check_meaning.specs.Comprehensions.{running_type, bind_names, listed_heads, set_of_heads, comprehended}
use Rattle.mz_check_meaning.specs.WrittenTypes.{par_set, index, values, set_of_values, declared_base, declared}
use Rattle.mz_check_meaning.specs.Lets.{let_node}
use Rattle.mz_check_meaning.specs.Names.{meant, named, bare_call}
use Rattle.mz_check_meaning.specs.Typing.{check, check_form, check_maybe, checks, check_links, check_rows, check_branches, check_piece, check_pieces, check_gen, check_gens, check_let, check_lets, check_declaration, check_written, check_based, check_dims, check_bases}

abbrev comprehensions : List Example
comprehensions =
    has (list_of 1 (name 22 2) (gen 22 6 (name 11 11) None ∷ [])) (li n)
    ∷ has (list_of 1 (name 22 2) (gen 22 6 (name E 11) None ∷ [])) (li e)
    ∷ has (list_of 1 (name 22 2) (gen 22 6 (name 12 11) None ∷ [])) (li (va (op n)))
    ∷ has (list_of 1 (name 22 2) (gen 22 6 (name 8 11) None ∷ [])) (li (va n))
    ∷ has (list_of 1 (num 2) (gen 22 6 (name 8 11) None ∷ [])) (li (va n))
    ∷ has (list_of 1 (name 22 2) (gen 22 6 (name 7 11) (Some (name 5 19)) ∷ [])) (li n)
    ∷ has (list_of 1 (name 22 2) (gen 22 6 (name 7 11) (Some (name 6 19)) ∷ [])) (li (va (op n)))
    ∷ stops (list_of 1 (name 22 2) (gen 22 6 (name 7 11) (Some (num 19)) ∷ [])) TypeMismatch 19
    ∷ stops (list_of 1 (name 22 2) (gen 22 6 (num 11) None ∷ [])) TypeMismatch 11
    ∷ stops (list_of 1 (name 22 2) (gen 22 6 (name 10 11) None ∷ [])) TypeMismatch 11
    ∷ stops (list_of 1 (name 22 2) (gen 22 6 (name 22 11) None ∷ [])) UnknownName 11
    ∷ stops (list_of 1 (name 11 2) (gen 22 6 (name 12 11) None ∷ [])) TypeMismatch 2
    ∷ stops (list_of 1 (words 2) (gen 22 7 (name 8 12) None ∷ [])) TypeMismatch 2
    ∷ stops (list_of 1 (array 2 ((num 3) ∷ [])) (gen 22 7 (name 11 12) None ∷ [])) TypeMismatch 2
    ∷ has (list_of 1 (name 23 2) (gen 22 6 (name 11 11) None ∷ gen 23 14 (bin 19 (num 19) o.Range (name 22 22)) None ∷ [])) (li n)
    ∷ stops (list_of 1 (name 22 2) (gen 22 6 (name 11 11) None ∷ gen 22 14 (name 11 19) None ∷ [])) DuplicateName 14
    ∷ has (list_of 1 (call 24 2 ((list_of 6 (name 22 7) (gen 22 11 (name 11 16) None ∷ [])) ∷ [])) (gen 22 22 (name 11 27) None ∷ [])) (li n)
    ∷ stops (list_of 1 (name 23 2) (gen 22 6 (name 11 11) (Some (num 19)) ∷ [])) UnknownName 2
    ∷ stops (list_of 1 (array 2 ((num 3) ∷ [])) (gen 22 7 (name 11 12) (Some (num 20)) ∷ [])) TypeMismatch 20
    ∷ []

pub comprehensions_are_typed : map typing comprehensions ≡ map expected comprehensions
unfolding below same_type same_dims dims_below join coercions index_links all_below is_least resolution built_ins globals placed_from table with_number with_base with_indices enums_from index_enums_from with_rank ranks_from choices cases sets_of_cases scalars sets meanings readings_of result_var opt_of base_of type_of types_with types_of_rank array_types joined products index_lists index_sets param_types given_indices array_indices result_type numbered all_params with_mark with_meaning of_entry has_name of_named made signatures fitting global_place entry_of entries_of local_in wrapped coercions_to coerced all_coerced fitted condition allowed_at is_left_out best rows_for candidates call_node applied row_of row_node prefix_name operator_name operated from_right appended join_next listed tabled set_literal indices_fitted accessed branches_join decided running_type bind_names listed_heads set_of_heads comprehended par_set index values set_of_values declared_base declared let_node meant named bare_call check check_form check_maybe checks check_links check_rows check_branches check_piece check_pieces check_gen check_gens check_let check_lets check_declaration check_written check_based check_dims check_bases
comprehensions_are_typed = refl

abbrev set_comprehensions : List Example
set_comprehensions =
    has (set_of 1 (name 22 2) (gen 22 6 (name 11 11) None ∷ [])) sn
    ∷ has (set_of 1 (name 22 2) (gen 22 6 (name E 11) None ∷ [])) se
    ∷ has (set_of 1 (name 5 2) (gen 22 6 (name 11 11) None ∷ [])) sn
    ∷ stops (set_of 1 (name 22 2) (gen 22 6 (name 12 11) None ∷ [])) LeftOut 1
    ∷ stops (set_of 1 (name 4 2) (gen 22 6 (name 11 11) None ∷ [])) LeftOut 1
    ∷ stops (set_of 1 (name 22 2) (gen 22 6 (name 11 11) (Some (name 6 19)) ∷ [])) LeftOut 1
    ∷ stops (set_of 1 (num 2) (gen 22 6 (name 8 11) None ∷ [])) LeftOut 1
    ∷ stops (set_of 1 (words 2) (gen 22 6 (name 11 11) None ∷ [])) TypeMismatch 2
    ∷ stops (set_of 1 (words 2) (gen 22 6 (name 12 11) None ∷ [])) TypeMismatch 2
    ∷ []

pub set_comprehensions_are_typed : map typing set_comprehensions ≡ map expected set_comprehensions
unfolding below same_type same_dims dims_below join coercions index_links all_below is_least resolution built_ins globals placed_from table with_number with_base with_indices enums_from index_enums_from with_rank ranks_from choices cases sets_of_cases scalars sets meanings readings_of result_var opt_of base_of type_of types_with types_of_rank array_types joined products index_lists index_sets param_types given_indices array_indices result_type numbered all_params with_mark with_meaning of_entry has_name of_named made signatures fitting global_place entry_of entries_of local_in wrapped coercions_to coerced all_coerced fitted condition allowed_at is_left_out best rows_for candidates call_node applied row_of row_node prefix_name operator_name operated from_right appended join_next listed tabled set_literal indices_fitted accessed branches_join decided running_type bind_names listed_heads set_of_heads comprehended par_set index values set_of_values declared_base declared let_node meant named bare_call check check_form check_maybe checks check_links check_rows check_branches check_piece check_pieces check_gen check_gens check_let check_lets check_declaration check_written check_based check_dims check_bases
set_comprehensions_are_typed = refl

abbrev generator_calls : List Example
generator_calls =
    has (gen_call 24 1 (gen 22 5 (name 11 10) None ∷ []) (name 22 13)) n
    ∷ has (gen_call 24 1 (gen 22 5 (name 12 10) None ∷ []) (name 22 13)) (va n)
    ∷ has (gen_call 25 1 (gen 22 8 (name 11 13) None ∷ []) (name 5 16)) b
    ∷ stops (gen_call 25 1 (gen 22 8 (set 13 []) None ∷ []) (bin 16 (name 22 16) o.Eq (name 22 20))) Ambiguous 16
    ∷ stops (gen_call 25 1 (gen 22 8 (name 11 13) None ∷ gen 22 17 (bin 22 (truth 22) o.Add (set 29 ((num 30) ∷ []))) None ∷ []) (truth 40)) NoOverload 22
    ∷ stops (gen_call 16 1 (gen 22 5 (name 11 10) None ∷ []) (name 22 13)) NoOverload 1
    ∷ []

pub generator_calls_are_typed : map typing generator_calls ≡ map expected generator_calls
unfolding below same_type same_dims dims_below join coercions index_links all_below is_least resolution built_ins globals placed_from table with_number with_base with_indices enums_from index_enums_from with_rank ranks_from choices cases sets_of_cases scalars sets meanings readings_of result_var opt_of base_of type_of types_with types_of_rank array_types joined products index_lists index_sets param_types given_indices array_indices result_type numbered all_params with_mark with_meaning of_entry has_name of_named made signatures fitting global_place entry_of entries_of local_in wrapped coercions_to coerced all_coerced fitted condition allowed_at is_left_out best rows_for candidates call_node applied row_of row_node prefix_name operator_name operated from_right appended join_next listed tabled set_literal indices_fitted accessed branches_join decided running_type bind_names listed_heads set_of_heads comprehended par_set index values set_of_values declared_base declared let_node meant named bare_call check check_form check_maybe checks check_links check_rows check_branches check_piece check_pieces check_gen check_gens check_let check_lets check_declaration check_written check_based check_dims check_bases
generator_calls_are_typed = refl
