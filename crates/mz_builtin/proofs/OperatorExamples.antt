-- Worked examples of operators: a call's arguments, and what it takes.
use Rattle.std.proofs.Common.{◌≡◌, List, [], ◌∷◌, map, refl, codes}
use Rattle.mz_core.specs.Order.{below, same_type, same_dims, dims_below}
use Rattle.mz_overload.specs.Best.{all_below, is_least, resolution}
use Rattle.mz_builtin.specs.Table.{built_ins, globals, placed_from, table}
use Rattle.mz_builtin.specs.Readings.{with_number, with_base, with_indices, enums_from, index_enums_from, with_rank, ranks_from, choices, cases, sets_of_cases, scalars, sets, meanings, readings_of, result_var, opt_of, base_of, type_of, types_with, types_of_rank, array_types, joined, products, index_lists, index_sets, param_types, given_indices, array_indices, result_type, numbered, all_params, with_mark, with_meaning, of_entry}
use Rattle.mz_builtin.specs.Signatures.{has_name, of_named, made, signatures, fitting}
use Rattle.mz_builtin.proofs.Calls.{form_of, takes, none_fits, ambiguous, call}
use Rattle.mz_builtin.proofs.ExampleTypes.{b, n, e, f, sn, se, sf, empty, tx, bot, absent, i, ie, va, op, li, by, Example, example, called, expected}

abbrev calls_of_connectives : List Example
calls_of_connectives =
    example (codes "<->") (b ∷ b ∷ []) (takes 0 (b ∷ b ∷ []) b)
    ∷ example (codes "->") (va b ∷ b ∷ []) (takes 0 (va b ∷ va b ∷ []) (va b))
    ∷ example (codes "<-") (b ∷ va b ∷ []) (takes 0 (va b ∷ va b ∷ []) (va b))
    ∷ example (codes "\\/") (va b ∷ va b ∷ []) (takes 0 (va b ∷ va b ∷ []) (va b))
    ∷ example (codes "xor") (b ∷ b ∷ []) (takes 0 (b ∷ b ∷ []) b)
    ∷ example (codes "/\\") (b ∷ b ∷ []) (takes 0 (b ∷ b ∷ []) b)
    ∷ example (codes "/\\") (n ∷ b ∷ []) none_fits
    ∷ example (codes "not") (va b ∷ []) (takes 0 (va b ∷ []) (va b))
    ∷ example (codes "not") (bot ∷ []) (takes 0 (b ∷ []) b)
    ∷ example (codes "not") (b ∷ b ∷ []) none_fits
    ∷ []

calls_of_connectives_are_so : map called calls_of_connectives ≡ map expected calls_of_connectives
unfolding below same_type same_dims dims_below all_below is_least resolution built_ins globals placed_from table with_number with_base with_indices enums_from index_enums_from with_rank ranks_from choices cases sets_of_cases scalars sets meanings readings_of result_var opt_of base_of type_of types_with types_of_rank array_types joined products index_lists index_sets param_types given_indices array_indices result_type numbered all_params with_mark with_meaning of_entry has_name of_named made signatures fitting form_of call
calls_of_connectives_are_so = refl

abbrev calls_of_comparisons : List Example
calls_of_comparisons =
    example (codes "=") (b ∷ b ∷ []) (takes 0 (b ∷ b ∷ []) b)
    ∷ example (codes "=") (b ∷ n ∷ []) (takes 0 (n ∷ n ∷ []) b)
    ∷ example (codes "=") (e ∷ e ∷ []) (takes 0 (e ∷ e ∷ []) b)
    ∷ example (codes "=") (e ∷ f ∷ []) (takes 0 (n ∷ n ∷ []) b)
    ∷ example (codes "=") (e ∷ n ∷ []) (takes 0 (n ∷ n ∷ []) b)
    ∷ example (codes "=") (va e ∷ e ∷ []) (takes 0 (va e ∷ va e ∷ []) (va b))
    ∷ example (codes "=") (sn ∷ se ∷ []) (takes 0 (sn ∷ sn ∷ []) b)
    ∷ example (codes "=") (se ∷ empty ∷ []) (takes 0 (se ∷ se ∷ []) b)
    ∷ example (codes "=") (empty ∷ va sn ∷ []) (takes 0 (va sn ∷ va sn ∷ []) (va b))
    ∷ example (codes "=") (op b ∷ n ∷ []) (takes 0 (op n ∷ op n ∷ []) b)
    ∷ example (codes "=") (va (op n) ∷ n ∷ []) (takes 0 (va (op n) ∷ va (op n) ∷ []) (va b))
    ∷ example (codes "=") (absent ∷ absent ∷ []) (takes 0 (op b ∷ op b ∷ []) b)
    ∷ example (codes "=") (e ∷ absent ∷ []) (takes 0 (op e ∷ op e ∷ []) b)
    ∷ example (codes "=") (bot ∷ bot ∷ []) ambiguous
    ∷ example (codes "=") (tx ∷ tx ∷ []) none_fits
    ∷ example (codes "=") (li n ∷ li n ∷ []) none_fits
    ∷ example (codes "!=") (n ∷ va n ∷ []) (takes 0 (va n ∷ va n ∷ []) (va b))
    ∷ example (codes "!=") (li n ∷ sn ∷ []) none_fits
    ∷ example (codes "<") (b ∷ b ∷ []) (takes 0 (b ∷ b ∷ []) b)
    ∷ example (codes "<") (bot ∷ e ∷ []) (takes 0 (e ∷ e ∷ []) b)
    ∷ example (codes "<") (sn ∷ sn ∷ []) none_fits
    ∷ example (codes "<") (op n ∷ n ∷ []) none_fits
    ∷ example (codes "<=") (e ∷ e ∷ []) (takes 0 (e ∷ e ∷ []) b)
    ∷ example (codes ">") (e ∷ n ∷ []) (takes 0 (n ∷ n ∷ []) b)
    ∷ example (codes ">=") (va b ∷ n ∷ []) (takes 0 (va n ∷ va n ∷ []) (va b))
    ∷ []

calls_of_comparisons_are_so : map called calls_of_comparisons ≡ map expected calls_of_comparisons
unfolding below same_type same_dims dims_below all_below is_least resolution built_ins globals placed_from table with_number with_base with_indices enums_from index_enums_from with_rank ranks_from choices cases sets_of_cases scalars sets meanings readings_of result_var opt_of base_of type_of types_with types_of_rank array_types joined products index_lists index_sets param_types given_indices array_indices result_type numbered all_params with_mark with_meaning of_entry has_name of_named made signatures fitting form_of call
calls_of_comparisons_are_so = refl

abbrev calls_of_sets : List Example
calls_of_sets =
    example (codes "in") (n ∷ sn ∷ []) (takes 0 (n ∷ sn ∷ []) b)
    ∷ example (codes "in") (e ∷ se ∷ []) (takes 0 (e ∷ se ∷ []) b)
    ∷ example (codes "in") (e ∷ sn ∷ []) (takes 0 (n ∷ sn ∷ []) b)
    ∷ example (codes "in") (e ∷ sf ∷ []) (takes 0 (n ∷ sn ∷ []) b)
    ∷ example (codes "in") (e ∷ empty ∷ []) (takes 0 (e ∷ se ∷ []) b)
    ∷ example (codes "in") (b ∷ empty ∷ []) (takes 0 (n ∷ sn ∷ []) b)
    ∷ example (codes "in") (va n ∷ sn ∷ []) (takes 0 (va n ∷ va sn ∷ []) (va b))
    ∷ example (codes "in") (n ∷ li n ∷ []) none_fits
    ∷ example (codes "subset") (se ∷ se ∷ []) (takes 0 (se ∷ se ∷ []) b)
    ∷ example (codes "superset") (empty ∷ se ∷ []) (takes 0 (se ∷ se ∷ []) b)
    ∷ example (codes "union") (empty ∷ empty ∷ []) (takes 0 (sn ∷ sn ∷ []) sn)
    ∷ example (codes "union") (se ∷ sf ∷ []) (takes 0 (sn ∷ sn ∷ []) sn)
    ∷ example (codes "union") (sn ∷ li n ∷ []) none_fits
    ∷ example (codes "intersect") (va sn ∷ se ∷ []) (takes 0 (va sn ∷ va sn ∷ []) (va sn))
    ∷ example (codes "diff") (se ∷ se ∷ []) (takes 0 (se ∷ se ∷ []) se)
    ∷ example (codes "symdiff") (se ∷ empty ∷ []) (takes 0 (se ∷ se ∷ []) se)
    ∷ example (codes "..") (n ∷ n ∷ []) (takes 0 (n ∷ n ∷ []) sn)
    ∷ example (codes "..") (e ∷ e ∷ []) (takes 0 (e ∷ e ∷ []) se)
    ∷ example (codes "..") (e ∷ n ∷ []) (takes 0 (n ∷ n ∷ []) sn)
    ∷ example (codes "..") (b ∷ b ∷ []) (takes 0 (n ∷ n ∷ []) sn)
    ∷ example (codes "..") (n ∷ va n ∷ []) none_fits
    ∷ example (codes "..") (op n ∷ n ∷ []) none_fits
    ∷ []

calls_of_sets_are_so : map called calls_of_sets ≡ map expected calls_of_sets
unfolding below same_type same_dims dims_below all_below is_least resolution built_ins globals placed_from table with_number with_base with_indices enums_from index_enums_from with_rank ranks_from choices cases sets_of_cases scalars sets meanings readings_of result_var opt_of base_of type_of types_with types_of_rank array_types joined products index_lists index_sets param_types given_indices array_indices result_type numbered all_params with_mark with_meaning of_entry has_name of_named made signatures fitting form_of call
calls_of_sets_are_so = refl

abbrev calls_of_arithmetic : List Example
calls_of_arithmetic =
    example (codes "+") (b ∷ n ∷ []) (takes 0 (n ∷ n ∷ []) n)
    ∷ example (codes "+") (e ∷ va b ∷ []) (takes 0 (va n ∷ va n ∷ []) (va n))
    ∷ example (codes "+") (sn ∷ n ∷ []) none_fits
    ∷ example (codes "+") (op n ∷ n ∷ []) none_fits
    ∷ example (codes "+") (li n ∷ n ∷ []) none_fits
    ∷ example (codes "+") (n ∷ n ∷ n ∷ []) none_fits
    ∷ example (codes "+") ([]) none_fits
    ∷ example (codes "-") (n ∷ n ∷ []) (takes 0 (n ∷ n ∷ []) n)
    ∷ example (codes "*") (bot ∷ n ∷ []) (takes 0 (n ∷ n ∷ []) n)
    ∷ example (codes "+") (e ∷ []) (takes 1 (n ∷ []) n)
    ∷ example (codes "-") (va n ∷ []) (takes 1 (va n ∷ []) (va n))
    ∷ example (codes "div") (n ∷ n ∷ []) (takes 0 (n ∷ n ∷ []) n)
    ∷ example (codes "mod") (va n ∷ n ∷ []) (takes 0 (va n ∷ va n ∷ []) (va n))
    ∷ example (codes "^") (n ∷ n ∷ []) (takes 0 (n ∷ n ∷ []) n)
    ∷ example (codes "^") (va n ∷ n ∷ []) (takes 0 (va n ∷ n ∷ []) (va n))
    ∷ example (codes "^") (n ∷ va n ∷ []) none_fits
    ∷ []

calls_of_arithmetic_are_so : map called calls_of_arithmetic ≡ map expected calls_of_arithmetic
unfolding below same_type same_dims dims_below all_below is_least resolution built_ins globals placed_from table with_number with_base with_indices enums_from index_enums_from with_rank ranks_from choices cases sets_of_cases scalars sets meanings readings_of result_var opt_of base_of type_of types_with types_of_rank array_types joined products index_lists index_sets param_types given_indices array_indices result_type numbered all_params with_mark with_meaning of_entry has_name of_named made signatures fitting form_of call
calls_of_arithmetic_are_so = refl

abbrev calls_of_arrays_and_texts : List Example
calls_of_arrays_and_texts =
    example (codes "++") (li n ∷ li b ∷ []) (takes 0 (li n ∷ li n ∷ []) (li n))
    ∷ example (codes "++") (li bot ∷ li bot ∷ []) ambiguous
    ∷ example (codes "++") (li bot ∷ li n ∷ []) (takes 0 (li n ∷ li n ∷ []) (li n))
    ∷ example (codes "++") (by (ie ∷ []) e ∷ li e ∷ []) (takes 0 (by (ie ∷ []) e ∷ li e ∷ []) (li e))
    ∷ example (codes "++") (li e ∷ li f ∷ []) (takes 0 (li n ∷ li n ∷ []) (li n))
    ∷ example (codes "++") (li (va n) ∷ li (op b) ∷ []) (takes 0 (li (va (op n)) ∷ li (va (op n)) ∷ []) (li (va (op n))))
    ∷ example (codes "++") (li empty ∷ li se ∷ []) (takes 0 (li se ∷ li se ∷ []) (li se))
    ∷ example (codes "++") (sn ∷ li n ∷ []) (takes 0 (li n ∷ li n ∷ []) (li n))
    ∷ example (codes "++") (by (i ∷ i ∷ []) n ∷ li n ∷ []) none_fits
    ∷ example (codes "++") (tx ∷ tx ∷ []) (takes 1 (tx ∷ tx ∷ []) tx)
    ∷ example (codes "++") (tx ∷ li n ∷ []) none_fits
    ∷ example (codes "++") (li tx ∷ li tx ∷ []) (takes 2 (li tx ∷ li tx ∷ []) (li tx))
    ∷ example (codes "++") (li bot ∷ li tx ∷ []) (takes 2 (li tx ∷ li tx ∷ []) (li tx))
    ∷ example (codes "++") (li tx ∷ tx ∷ []) none_fits
    ∷ example (codes "++") (li tx ∷ li n ∷ []) none_fits
    ∷ []

calls_of_arrays_and_texts_are_so : map called calls_of_arrays_and_texts ≡ map expected calls_of_arrays_and_texts
unfolding below same_type same_dims dims_below all_below is_least resolution built_ins globals placed_from table with_number with_base with_indices enums_from index_enums_from with_rank ranks_from choices cases sets_of_cases scalars sets meanings readings_of result_var opt_of base_of type_of types_with types_of_rank array_types joined products index_lists index_sets param_types given_indices array_indices result_type numbered all_params with_mark with_meaning of_entry has_name of_named made signatures fitting form_of call
calls_of_arrays_and_texts_are_so = refl
