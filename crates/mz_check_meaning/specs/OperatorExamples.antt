-- Worked examples of operators, and of what is left out of them.
use Rattle.std.specs.Prelude.{◌≡◌, refl, List, [], ◌∷◌, map}
use Rattle.mz_base.specs.declared.kind.Kind.TheVariants.{Ambiguous, LeftOut, NoOverload, UnknownName}
use Rattle.mz_tree.specs.declared.expr.BinOp.TheVariants as o
use Rattle.mz_tree.specs.declared.expr.UnOp.TheVariants as u
use Rattle.mz_tree.specs.Tree.{op_before}
use Rattle.mz_check_meaning.specs.ExampleTrees.{col, b, n, sn, se, tx, va, li, A, B, num, truth, gone, words, name, call, prefix, bin, chain, opened, array, set, Example, has, stops, typing, expected}
use Rattle.mz_core.specs.Order.{below, same_type, same_dims, dims_below}
use Rattle.mz_core.specs.Join.{join}
use Rattle.mz_core.specs.Paths.{coercions, index_links}
use Rattle.mz_overload.specs.Best.{all_below, is_least, resolution}
use Rattle.mz_builtin.specs.Table.{built_ins, globals, placed_from, table}
use Rattle.mz_builtin.specs.Readings.{with_number, with_base, with_indices, enums_from, index_enums_from, with_rank, ranks_from, choices, cases, sets_of_cases, scalars, sets, meanings, readings_of, result_var, opt_of, base_of, type_of, types_with, types_of_rank, array_types, joined, products, index_lists, index_sets, param_types, given_indices, array_indices, result_type, numbered, all_params, with_mark, with_meaning, of_entry}
use Rattle.mz_builtin.specs.Signatures.{has_name, of_named, made, signatures, fitting, global_place}
use Rattle.mz_check_meaning.specs.Models.{entry_of, entries_of, local_in}
use Rattle.mz_check_meaning.specs.Coerced.{wrapped, coercions_to, coerced, all_coerced, fitted, condition, allowed_at}
use Rattle.mz_check_meaning.specs.Calls.{is_left_out, best, rows_for, candidates, call_node, applied, row_of, row_node}
use Rattle.mz_check_meaning.specs.Chains.{prefix_name, operator_name, operated, from_right, appended}
use Rattle.mz_check_meaning.specs.Arrays.{join_next, listed, tabled, set_literal, indices_fitted, accessed}
use Rattle.mz_check_meaning.specs.Branches.{branches_join, decided}
use Rattle.mz_check_meaning.specs.Comprehensions.{running_type, bind_names, listed_heads, set_of_heads, comprehended}
use Rattle.mz_check_meaning.specs.WrittenTypes.{par_set, index, values, set_of_values, declared_base, declared}
use Rattle.mz_check_meaning.specs.Lets.{let_node}
use Rattle.mz_check_meaning.specs.Names.{meant, named, bare_call}
use Rattle.mz_check_meaning.specs.Typing.{check, check_form, check_maybe, checks, check_links, check_rows, check_branches, check_piece, check_pieces, check_gen, check_gens, check_let, check_lets, check_declaration, check_written, check_based, check_dims, check_bases}

abbrev operators : List Example
operators =
    has (bin 1 (num 1) o.Add (num 5)) n
    ∷ has (bin 1 (num 1) o.Add (name 4 5)) (va n)
    ∷ has (bin 1 (name 5 1) o.Add (num 5)) n
    ∷ stops (bin 1 (truth 1) o.Add (set 8 ((num 9) ∷ []))) NoOverload 1
    ∷ has (prefix u.Not 1 (name 5 5)) b
    ∷ stops (prefix u.Not 1 (num 5)) NoOverload 1
    ∷ has (prefix u.Minus 1 (name 5 2)) n
    ∷ has (prefix u.Plus 1 (name 4 2)) (va n)
    ∷ has (bin 1 (name A 1) o.Eq (name B 5)) b
    ∷ has (bin 1 (name A 1) o.Lt (num 5)) b
    ∷ has (bin 1 (name 13 1) o.Eq (num 5)) (va b)
    ∷ has (bin 1 (gone 1) o.Eq (gone 6)) b
    ∷ has (bin 1 (num 1) o.Member (name 12 5)) (va b)
    ∷ has (bin 1 (name 11 1) o.Union (name 12 5)) (va sn)
    ∷ has (bin 1 (num 1) o.Range (num 4)) sn
    ∷ has (bin 1 (name A 1) o.Range (name B 4)) se
    ∷ has (bin 1 (name 4 1) o.Pow (num 3)) (va n)
    ∷ has (chain 1 (num 1) ((o.Add, (name 4 3)) ∷ (o.Sub, (num 5)) ∷ [])) (va n)
    ∷ stops (chain 1 (num 1) ((o.Add, (num 3)) ∷ (o.Add, (set 5 ((num 6) ∷ []))) ∷ [])) NoOverload 1
    ∷ stops (bin 1 (truth 1) o.Add (bin 6 (num 6) o.Add (set 10 ((num 11) ∷ [])))) NoOverload 6
    ∷ stops (chain 1 (truth 1) ((o.Add, (set 5 ((num 6) ∷ []))) ∷ (o.Add, (name 22 9)) ∷ [])) NoOverload 1
    ∷ []

pub operators_are_typed : map typing operators ≡ map expected operators
unfolding below same_type same_dims dims_below join coercions index_links all_below is_least resolution built_ins globals placed_from table with_number with_base with_indices enums_from index_enums_from with_rank ranks_from choices cases sets_of_cases scalars sets meanings readings_of result_var opt_of base_of type_of types_with types_of_rank array_types joined products index_lists index_sets param_types given_indices array_indices result_type numbered all_params with_mark with_meaning of_entry has_name of_named made signatures fitting global_place entry_of entries_of local_in wrapped coercions_to coerced all_coerced fitted condition allowed_at is_left_out best rows_for candidates call_node applied row_of row_node prefix_name operator_name operated from_right appended join_next listed tabled set_literal indices_fitted accessed branches_join decided running_type bind_names listed_heads set_of_heads comprehended par_set index values set_of_values declared_base declared let_node meant named bare_call check check_form check_maybe checks check_links check_rows check_branches check_piece check_pieces check_gen check_gens check_let check_lets check_declaration check_written check_based check_dims check_bases
operators_are_typed = refl

abbrev appends : List Example
appends =
    has (bin 1 (array 1 []) o.Concat (array 7 ((num 8) ∷ []))) (li n)
    ∷ stops (bin 1 (array 1 []) o.Concat (array 7 [])) Ambiguous 1
    ∷ has (bin 1 (name 7 1) o.Concat (name 8 6)) (li (va n))
    ∷ has (bin 1 (words 1) o.Concat (words 8)) tx
    ∷ has (bin 1 (array 1 ((words 2) ∷ [])) o.Concat (array 7 ((words 8) ∷ []))) (li tx)
    ∷ has (bin 1 (array 1 []) o.Concat (array 7 ((words 8) ∷ []))) (li tx)
    ∷ stops (bin 1 (array 1 ((num 2) ∷ [])) o.Concat (array 7 ((words 8) ∷ []))) NoOverload 1
    ∷ stops (bin 1 (array 1 ((num 2) ∷ [])) o.Concat (words 8)) NoOverload 1
    ∷ stops (bin 1 (name 10 1) o.Concat (name 7 5)) NoOverload 1
    ∷ stops (chain 1 (array 1 ((num 2) ∷ [])) ((o.Concat, (words 7)) ∷ (o.Concat, (array 11 ((num 12) ∷ []))) ∷ [])) NoOverload 7
    ∷ stops (opened 1 (array 1 ((num 2) ∷ [])) ((op_before o.Concat (col 7), (words 8)) ∷ (op_before o.Concat (col 13), (array 13 ((num 14) ∷ []))) ∷ [])) NoOverload 7
    ∷ stops (chain 1 (array 1 ((num 2) ∷ [])) ((o.Concat, (words 7)) ∷ (o.Concat, (name 22 11)) ∷ [])) UnknownName 11
    ∷ has (chain 1 (array 1 []) ((o.Concat, (array 7 ((num 8) ∷ []))) ∷ (o.Concat, (array 12 ((name A 13) ∷ []))) ∷ [])) (li n)
    ∷ []

pub appends_are_typed : map typing appends ≡ map expected appends
unfolding below same_type same_dims dims_below join coercions index_links all_below is_least resolution built_ins globals placed_from table with_number with_base with_indices enums_from index_enums_from with_rank ranks_from choices cases sets_of_cases scalars sets meanings readings_of result_var opt_of base_of type_of types_with types_of_rank array_types joined products index_lists index_sets param_types given_indices array_indices result_type numbered all_params with_mark with_meaning of_entry has_name of_named made signatures fitting global_place entry_of entries_of local_in wrapped coercions_to coerced all_coerced fitted condition allowed_at is_left_out best rows_for candidates call_node applied row_of row_node prefix_name operator_name operated from_right appended join_next listed tabled set_literal indices_fitted accessed branches_join decided running_type bind_names listed_heads set_of_heads comprehended par_set index values set_of_values declared_base declared let_node meant named bare_call check check_form check_maybe checks check_links check_rows check_branches check_piece check_pieces check_gen check_gens check_let check_lets check_declaration check_written check_based check_dims check_bases
appends_are_typed = refl

abbrev left_out : List Example
left_out =
    stops (bin 1 (array 1 ((num 2) ∷ [])) o.Eq (array 7 ((words 8) ∷ []))) LeftOut 1
    ∷ stops (bin 1 (array 1 ((num 2) ∷ [])) o.Lt (array 7 ((num 8) ∷ []))) LeftOut 1
    ∷ stops (bin 1 (array 1 ((num 2) ∷ [])) o.Eq (set 7 ((num 8) ∷ []))) NoOverload 1
    ∷ stops (bin 1 (name 11 1) o.Lt (name 11 5)) LeftOut 1
    ∷ stops (bin 1 (name 11 1) o.Ge (name 12 5)) LeftOut 1
    ∷ stops (bin 1 (name 13 1) o.Lt (num 5)) LeftOut 1
    ∷ stops (bin 1 (num 1) o.Le (name 14 6)) LeftOut 1
    ∷ stops (bin 1 (words 1) o.Eq (words 7)) LeftOut 1
    ∷ stops (bin 1 (words 1) o.Ne (words 7)) NoOverload 1
    ∷ stops (bin 1 (num 1) o.Range (name 4 4)) LeftOut 1
    ∷ stops (bin 1 (name 4 1) o.Range (num 4)) LeftOut 1
    ∷ stops (bin 1 (num 1) o.Range (name 13 4)) NoOverload 1
    ∷ stops (bin 5 (num 5) o.Pow (name 4 7)) LeftOut 5
    ∷ stops (bin 1 (num 1) o.Add (bin 5 (num 5) o.Pow (name 4 9))) LeftOut 5
    ∷ stops (call 27 1 ((num 5) ∷ (name 4 8) ∷ [])) LeftOut 1
    ∷ stops (call 27 1 ((words 5) ∷ (name 4 8) ∷ [])) NoOverload 1
    ∷ []

pub left_out_are_typed : map typing left_out ≡ map expected left_out
unfolding below same_type same_dims dims_below join coercions index_links all_below is_least resolution built_ins globals placed_from table with_number with_base with_indices enums_from index_enums_from with_rank ranks_from choices cases sets_of_cases scalars sets meanings readings_of result_var opt_of base_of type_of types_with types_of_rank array_types joined products index_lists index_sets param_types given_indices array_indices result_type numbered all_params with_mark with_meaning of_entry has_name of_named made signatures fitting global_place entry_of entries_of local_in wrapped coercions_to coerced all_coerced fitted condition allowed_at is_left_out best rows_for candidates call_node applied row_of row_node prefix_name operator_name operated from_right appended join_next listed tabled set_literal indices_fitted accessed branches_join decided running_type bind_names listed_heads set_of_heads comprehended par_set index values set_of_values declared_base declared let_node meant named bare_call check check_form check_maybe checks check_links check_rows check_branches check_piece check_pieces check_gen check_gens check_let check_lets check_declaration check_written check_based check_dims check_bases
left_out_are_typed = refl
