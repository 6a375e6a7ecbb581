-- Worked examples of `if`, lets, written types and texts.
use Rattle.std.specs.Prelude.{◌≡◌, refl, true, false, List, [], ◌∷◌, map, Some, None}
use Rattle.mz_base.specs.declared.kind.Kind.TheVariants.{Ambiguous, DuplicateName, LeftOut, MissingData, NoOverload, TypeMismatch, UnknownName}
use Rattle.mz_tree.specs.declared.expr.BinOp.TheVariants as o
use Rattle.mz_tree.specs.Tree as source
use Rattle.mz_check_meaning.specs.ExampleTrees.{b, n, e, sn, se, tx, va, li, by, E, A, num, truth, words, name, call, bin, array, set, choose, interp, written, written_set, written_array, declares, let_in, Example, has, stops, typing, typing_shown, expected}
use Rattle.mz_core.specs.Order.{below, same_type, same_dims, dims_below}
use Rattle.mz_core.specs.Join.{join}
use Rattle.mz_core.specs.Paths.{coercions, index_links}
use Rattle.mz_overload.specs.Best.{all_below, is_least, resolution}
use Rattle.mz_builtin.specs.Table.{built_ins, globals, placed_from, table}
use Rattle.mz_builtin.specs.Readings.{with_number, with_base, with_indices, enums_from, index_enums_from, with_rank, ranks_from, choices, cases, sets_of_cases, scalars, sets, meanings, readings_of, result_var, opt_of, base_of, type_of, types_with, types_of_rank, array_types, joined, products, index_lists, index_sets, param_types, given_indices, array_indices, result_type, numbered, all_params, with_mark, with_meaning, of_entry}
use Rattle.mz_builtin.specs.Signatures.{has_name, of_named, made, signatures, fitting, global_place}
use Rattle.mz_check_meaning.specs.Models.{entry_of, entries_of, local_in}
use Rattle.mz_check_meaning.specs.Coerced.{wrapped, coercions_to, coerced, all_coerced, fitted, condition, allowed_at}
use Rattle.mz_check_meaning.specs.Calls.{is_left_out, best, rows_for, candidates, call_node, applied, row_of, row_node}
use Rattle.mz_check_meaning.specs.Chains.{prefix_name, operator_name, operated, from_right, appended}
use Rattle.mz_check_meaning.specs.Arrays.{join_next, listed, tabled, set_literal, indices_fitted, accessed}
use Rattle.mz_check_meaning.specs.Branches.{branches_join, decided}
use Rattle.mz_check_meaning.specs.Comprehensions.{running_type, bind_names, listed_heads, set_of_heads, comprehended}
use Rattle.mz_check_meaning.specs.WrittenTypes.{par_set, index, values, set_of_values, declared_base, declared}
use Rattle.mz_check_meaning.specs.Lets.{let_node}
use Rattle.mz_check_meaning.specs.Names.{meant, named, bare_call}
use Rattle.mz_check_meaning.specs.Typing.{check, check_form, check_maybe, checks, check_links, check_rows, check_branches, check_piece, check_pieces, check_gen, check_gens, check_let, check_lets, check_declaration, check_written, check_based, check_dims, check_bases}

abbrev branches : List Example
branches =
    has (choose 1 (((name 5 4), (num 11)) ∷ []) (Some (num 18))) n
    ∷ stops (choose 1 (((num 4), (num 11)) ∷ []) (Some (num 18))) TypeMismatch 4
    ∷ stops (choose 1 (((name 5 4), (num 11)) ∷ []) (Some (words 18))) TypeMismatch 18
    ∷ has (choose 1 (((name 6 4), (num 11)) ∷ []) (Some (num 18))) (va n)
    ∷ stops (choose 1 (((name 6 4), (words 11)) ∷ []) (Some (words 18))) TypeMismatch 1
    ∷ has (choose 1 (((name 5 4), (words 11)) ∷ []) (Some (words 18))) tx
    ∷ has (choose 1 (((name 5 4), (name 5 11)) ∷ []) None) b
    ∷ stops (choose 1 (((name 5 4), (num 11)) ∷ []) None) TypeMismatch 11
    ∷ has (choose 1 (((name 5 4), (name 6 11)) ∷ []) None) (va b)
    ∷ has (choose 1 (((name 6 4), (name 5 11)) ∷ []) None) (va b)
    ∷ stops (choose 1 (((num 4), (num 11)) ∷ []) (Some (words 18))) TypeMismatch 4
    ∷ stops (choose 1 (((name 5 4), (num 11)) ∷ ((num 20), (words 26)) ∷ []) (Some (num 35))) TypeMismatch 20
    ∷ stops (choose 1 (((name 5 4), (num 11)) ∷ ((name 5 20), (words 26)) ∷ []) None) TypeMismatch 26
    ∷ has (choose 1 (((name 5 4), (array 11 ((num 12) ∷ []))) ∷ []) (Some (set 18 ((num 19) ∷ [])))) (li n)
    ∷ stops (choose 1 (((name 5 4), (num 11)) ∷ []) (Some (array 18 ((num 19) ∷ [])))) TypeMismatch 18
    ∷ has (choose 1 (((name 5 4), (name A 11)) ∷ []) (Some (num 18))) n
    ∷ has (choose 1 (((name 5 4), (name 9 11)) ∷ []) (Some (name 7 18))) (li n)
    ∷ stops (choose 1 (((num 4), (num 11)) ∷ []) (Some (name 22 18))) UnknownName 18
    ∷ []

pub branches_are_typed : map typing branches ≡ map expected branches
unfolding below same_type same_dims dims_below join coercions index_links all_below is_least resolution built_ins globals placed_from table with_number with_base with_indices enums_from index_enums_from with_rank ranks_from choices cases sets_of_cases scalars sets meanings readings_of result_var opt_of base_of type_of types_with types_of_rank array_types joined products index_lists index_sets param_types given_indices array_indices result_type numbered all_params with_mark with_meaning of_entry has_name of_named made signatures fitting global_place entry_of entries_of local_in wrapped coercions_to coerced all_coerced fitted condition allowed_at is_left_out best rows_for candidates call_node applied row_of row_node prefix_name operator_name operated from_right appended join_next listed tabled set_literal indices_fitted accessed branches_join decided running_type bind_names listed_heads set_of_heads comprehended par_set index values set_of_values declared_base declared let_node meant named bare_call check check_form check_maybe checks check_links check_rows check_branches check_piece check_pieces check_gen check_gens check_let check_lets check_declaration check_written check_based check_dims check_bases
branches_are_typed = refl

abbrev lets : List Example
lets =
    has (let_in 1 (declares (written 7 false source.base_int) 22 12 (Some (num 16)) ∷ []) (name 22 23)) n
    ∷ stops (let_in 1 (declares (written 7 false source.base_int) 22 12 (Some (words 16)) ∷ []) (name 22 23)) TypeMismatch 16
    ∷ has (let_in 1 (declares (written 7 true source.base_int) 22 16 None ∷ []) (num 23)) (va n)
    ∷ has (let_in 1 (source.constrained (name 6 18) ∷ []) (num 26)) (va n)
    ∷ stops (let_in 1 (source.constrained (num 18) ∷ []) (num 26)) TypeMismatch 18
    ∷ stops (let_in 1 (source.constrained (num 18) ∷ []) (bin 26 (set 26 ((num 27) ∷ [])) o.Add (num 32))) NoOverload 26
    ∷ stops (let_in 1 (declares (written 7 true source.base_int) 22 16 None ∷ []) (words 23)) TypeMismatch 1
    ∷ stops (let_in 1 (source.constrained (name 6 18) ∷ []) (words 26)) TypeMismatch 1
    ∷ stops (let_in 1 (declares (written 7 false source.base_int) 22 12 (Some (num 16)) ∷ declares (written 19 false source.base_int) 22 24 (Some (bin 28 (truth 28) o.Add (set 35 ((num 36) ∷ [])))) ∷ []) (truth 45)) DuplicateName 24
    ∷ stops (let_in 1 (declares (written 7 false source.base_int) 22 12 (Some (num 16)) ∷ declares (written 19 false (source.base_of (bin 23 (truth 23) o.Add (set 30 ((num 31) ∷ []))))) 22 36 (Some (num 40)) ∷ []) (truth 45)) NoOverload 23
    ∷ stops (let_in 1 (declares (written 7 false source.base_int) 22 12 (Some (name 23 16)) ∷ declares (written 19 false source.base_int) 23 24 (Some (num 28)) ∷ []) (truth 45)) UnknownName 16
    ∷ stops (let_in 1 (declares (written 7 false source.base_int) 22 12 (Some (name 22 16)) ∷ []) (truth 45)) UnknownName 16
    ∷ stops (let_in 1 (declares (written 7 false source.base_int) 19 12 (Some (num 16)) ∷ []) (call 19 23 [])) NoOverload 23
    ∷ has (let_in 1 (declares (written 7 false source.base_int) 19 12 (Some (num 16)) ∷ []) (name 19 23)) n
    ∷ has (let_in 1 (declares (written 7 false source.base_int) 16 12 (Some (num 16)) ∷ []) (call 16 23 ((num 25) ∷ []))) n
    ∷ stops (let_in 1 (declares (written 7 false source.base_int) 22 12 None ∷ []) (num 23)) MissingData 12
    ∷ has (let_in 1 (declares (written 7 false source.base_int) 22 12 (Some (num 16)) ∷ []) (let_in 23 (declares (written 29 false source.base_bool) 22 35 (Some (name 5 39)) ∷ []) (name 22 45))) b
    ∷ []

pub lets_are_typed : map typing lets ≡ map expected lets
unfolding below same_type same_dims dims_below join coercions index_links all_below is_least resolution built_ins globals placed_from table with_number with_base with_indices enums_from index_enums_from with_rank ranks_from choices cases sets_of_cases scalars sets meanings readings_of result_var opt_of base_of type_of types_with types_of_rank array_types joined products index_lists index_sets param_types given_indices array_indices result_type numbered all_params with_mark with_meaning of_entry has_name of_named made signatures fitting global_place entry_of entries_of local_in wrapped coercions_to coerced all_coerced fitted condition allowed_at is_left_out best rows_for candidates call_node applied row_of row_node prefix_name operator_name operated from_right appended join_next listed tabled set_literal indices_fitted accessed branches_join decided running_type bind_names listed_heads set_of_heads comprehended par_set index values set_of_values declared_base declared let_node meant named bare_call check check_form check_maybe checks check_links check_rows check_branches check_piece check_pieces check_gen check_gens check_let check_lets check_declaration check_written check_based check_dims check_bases
lets_are_typed = refl

abbrev written_types : List Example
written_types =
    has (let_in 1 (declares (written 7 true (source.base_of (name 11 11))) 22 14 None ∷ []) (name 22 23)) (va n)
    ∷ has (let_in 1 (declares (written 7 false (source.base_of (name E 7))) 22 14 (Some (name A 18)) ∷ []) (name 22 23)) e
    ∷ has (let_in 1 (declares (written_set 7 true (source.base_of (name E 18))) 22 21 None ∷ []) (name 22 25)) (va se)
    ∷ stops (let_in 1 (declares (written 7 false (source.base_of (name 3 7))) 22 14 (Some (num 18)) ∷ []) (name 22 23)) TypeMismatch 7
    ∷ stops (let_in 1 (declares (written 7 false (source.base_of (name 12 7))) 22 14 (Some (num 18)) ∷ []) (name 22 23)) TypeMismatch 7
    ∷ stops (let_in 1 (declares (written 7 false (source.base_of (name 7 7))) 22 14 (Some (num 18)) ∷ []) (name 22 23)) TypeMismatch 7
    ∷ has (let_in 1 (declares (written 7 true (source.base_of (set 11 []))) 22 14 None ∷ []) (name 22 23)) (va n)
    ∷ stops (let_in 1 (declares (written_set 7 true source.base_bool) 22 21 None ∷ []) (name 22 25)) TypeMismatch 7
    ∷ stops (let_in 1 (declares (written_array 7 (source.base_bool ∷ []) source.base_int) 22 22 (Some (array 26 [])) ∷ []) (name 22 30)) TypeMismatch 7
    ∷ stops (let_in 1 (declares (written_array 7 (source.base_int ∷ source.base_bool ∷ []) source.base_int) 22 22 (Some (array 26 [])) ∷ []) (name 22 30)) TypeMismatch 7
    ∷ stops (let_in 1 (declares (written_array 7 ((source.base_of (words 13)) ∷ []) source.base_int) 22 28 (Some (bin 32 (num 32) o.Add (set 36 ((num 37) ∷ [])))) ∷ []) (truth 45)) TypeMismatch 13
    ∷ stops (let_in 1 (declares (written_array 7 ((source.base_of (words 13)) ∷ (source.base_of (bin 18 (num 18) o.Range (name 4 21))) ∷ []) source.base_int) 22 31 (Some (array 35 [])) ∷ []) (truth 45)) LeftOut 18
    ∷ stops (let_in 1 (declares (written_array 7 (source.base_bool ∷ (source.base_of (bin 19 (num 19) o.Range (name 4 22))) ∷ []) source.base_int) 22 31 (Some (array 35 [])) ∷ []) (truth 45)) LeftOut 19
    ∷ has (let_in 1 (declares (written_array 7 ((source.base_of (name E 13)) ∷ []) source.base_int) 22 25 (Some (call 33 30 ((name E 39) ∷ (name 7 41) ∷ []))) ∷ []) (name 22 50)) (by n)
    ∷ stops (let_in 1 (declares (written_array 7 ((source.base_of (name E 13)) ∷ []) source.base_int) 22 25 (Some (array 30 ((num 31) ∷ []))) ∷ []) (name 22 50)) TypeMismatch 30
    ∷ has (let_in 1 (declares (written_array 7 (source.base_int ∷ []) source.base_int) 22 25 (Some (set 30 ((num 31) ∷ []))) ∷ []) (name 22 50)) (li n)
    ∷ []

pub written_types_are_typed : map typing written_types ≡ map expected written_types
unfolding below same_type same_dims dims_below join coercions index_links all_below is_least resolution built_ins globals placed_from table with_number with_base with_indices enums_from index_enums_from with_rank ranks_from choices cases sets_of_cases scalars sets meanings readings_of result_var opt_of base_of type_of types_with types_of_rank array_types joined products index_lists index_sets param_types given_indices array_indices result_type numbered all_params with_mark with_meaning of_entry has_name of_named made signatures fitting global_place entry_of entries_of local_in wrapped coercions_to coerced all_coerced fitted condition allowed_at is_left_out best rows_for candidates call_node applied row_of row_node prefix_name operator_name operated from_right appended join_next listed tabled set_literal indices_fitted accessed branches_join decided running_type bind_names listed_heads set_of_heads comprehended par_set index values set_of_values declared_base declared let_node meant named bare_call check check_form check_maybe checks check_links check_rows check_branches check_piece check_pieces check_gen check_gens check_let check_lets check_declaration check_written check_based check_dims check_bases
written_types_are_typed = refl

abbrev texts : List Example
texts =
    has (interp 1 (source.plain 0 ∷ source.shown (num 5) ∷ source.plain 0 ∷ [])) tx
    ∷ stops (interp 1 (source.plain 0 ∷ source.shown (words 5) ∷ source.plain 0 ∷ [])) NoOverload 5
    ∷ stops (interp 1 (source.plain 0 ∷ source.shown (name 4 5) ∷ source.plain 0 ∷ [])) NoOverload 5
    ∷ stops (interp 1 (source.plain 0 ∷ source.shown (array 5 []) ∷ source.plain 0 ∷ [])) Ambiguous 5
    ∷ []

pub texts_are_typed : map typing texts ≡ map expected texts
unfolding below same_type same_dims dims_below join coercions index_links all_below is_least resolution built_ins globals placed_from table with_number with_base with_indices enums_from index_enums_from with_rank ranks_from choices cases sets_of_cases scalars sets meanings readings_of result_var opt_of base_of type_of types_with types_of_rank array_types joined products index_lists index_sets param_types given_indices array_indices result_type numbered all_params with_mark with_meaning of_entry has_name of_named made signatures fitting global_place entry_of entries_of local_in wrapped coercions_to coerced all_coerced fitted condition allowed_at is_left_out best rows_for candidates call_node applied row_of row_node prefix_name operator_name operated from_right appended join_next listed tabled set_literal indices_fitted accessed branches_join decided running_type bind_names listed_heads set_of_heads comprehended par_set index values set_of_values declared_base declared let_node meant named bare_call check check_form check_maybe checks check_links check_rows check_branches check_piece check_pieces check_gen check_gens check_let check_lets check_declaration check_written check_based check_dims check_bases
texts_are_typed = refl

abbrev shown : List Example
shown =
    has (interp 1 (source.plain 0 ∷ source.shown (name 4 5) ∷ source.plain 0 ∷ [])) tx
    ∷ has (name 4 1) n
    ∷ has (name 8 1) (li n)
    ∷ has (name 12 1) sn
    ∷ stops (interp 1 (source.plain 0 ∷ source.shown (call 17 5 ((name 4 7) ∷ [])) ∷ source.plain 0 ∷ [])) NoOverload 5
    ∷ stops (interp 1 (source.plain 0 ∷ source.shown (name 19 5) ∷ source.plain 0 ∷ [])) NoOverload 5
    ∷ stops (interp 1 (source.plain 0 ∷ source.shown (let_in 5 (declares (written 11 true source.base_int) 22 20 None ∷ []) (num 30)) ∷ source.plain 0 ∷ [])) NoOverload 5
    ∷ []

pub shown_are_typed : map typing_shown shown ≡ map expected shown
unfolding below same_type same_dims dims_below join coercions index_links all_below is_least resolution built_ins globals placed_from table with_number with_base with_indices enums_from index_enums_from with_rank ranks_from choices cases sets_of_cases scalars sets meanings readings_of result_var opt_of base_of type_of types_with types_of_rank array_types joined products index_lists index_sets param_types given_indices array_indices result_type numbered all_params with_mark with_meaning of_entry has_name of_named made signatures fitting global_place entry_of entries_of local_in wrapped coercions_to coerced all_coerced fitted condition allowed_at is_left_out best rows_for candidates call_node applied row_of row_node prefix_name operator_name operated from_right appended join_next listed tabled set_literal indices_fitted accessed branches_join decided running_type bind_names listed_heads set_of_heads comprehended par_set index values set_of_values declared_base declared let_node meant named bare_call check check_form check_maybe checks check_links check_rows check_branches check_piece check_pieces check_gen check_gens check_let check_lets check_declaration check_written check_based check_dims check_bases
shown_are_typed = refl
