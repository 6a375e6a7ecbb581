-- Worked examples of all signatures of a name: each reading once, those below others before them.
use Rattle.std.proofs.Common.{◌≡◌, ℕ, false, List, [], ◌∷◌, length, map, refl, codes}
use Rattle.mz_core.specs.Types.{PlainType}
use Rattle.mz_core.specs.declared.types.Base.TheVariants as base
use Rattle.mz_builtin.specs.Table.{built_ins, globals, placed_from, table}
use Rattle.mz_builtin.specs.Readings.{with_number, with_base, with_indices, enums_from, index_enums_from, with_rank, ranks_from, choices, cases, sets_of_cases, scalars, sets, meanings, readings_of, result_var, opt_of, base_of, type_of, types_with, types_of_rank, array_types, joined, products, index_lists, index_sets, param_types, given_indices, array_indices, result_type, numbered, all_params, with_mark, with_meaning, of_entry}
use Rattle.mz_builtin.specs.Signatures.{has_name, of_named, made, signatures}
use Rattle.mz_builtin.specs.Readings.{Numbered}
use Rattle.mz_builtin.proofs.Calls.{form_of}
use Rattle.mz_builtin.proofs.ExampleTypes.{b, n, e, se, sf, sn, va, li}

abbrev signed : ℕ → List PlainType → PlainType → Numbered
signed form params result = (form, record { params = params; result = result })

-- the signatures of a name, with which of the name's entries each is of, from 0
abbrev formed : List ℕ → List PlainType → List Numbered
formed name args = map (λ s. (form_of name s.0, s.1)) (signatures name args)

abbrev sg : PlainType
sg = record { var = false; opt = false; base = base.SetEnum 7; dims = [] }

-- two entries, each par and var
signatures_of_plus : formed (codes "+") (b ∷ n ∷ []) ≡ signed 0 (n ∷ n ∷ []) n ∷ signed 0 (va n ∷ va n ∷ []) (va n) ∷ signed 1 (n ∷ []) n ∷ signed 1 (va n ∷ []) (va n) ∷ []
unfolding built_ins globals placed_from table form_of with_number with_base with_indices enums_from index_enums_from with_rank ranks_from choices cases sets_of_cases scalars sets meanings readings_of result_var opt_of base_of type_of types_with types_of_rank array_types joined products index_lists index_sets param_types given_indices array_indices result_type numbered all_params with_mark with_meaning of_entry has_name of_named made signatures
signatures_of_plus = refl

-- par alone; an enum and int
signatures_of_range : formed (codes "..") (e ∷ n ∷ []) ≡ signed 0 (e ∷ e ∷ []) se ∷ signed 0 (n ∷ n ∷ []) sn ∷ []
unfolding built_ins globals placed_from table form_of with_number with_base with_indices enums_from index_enums_from with_rank ranks_from choices cases sets_of_cases scalars sets meanings readings_of result_var opt_of base_of type_of types_with types_of_rank array_types joined products index_lists index_sets param_types given_indices array_indices result_type numbered all_params with_mark with_meaning of_entry has_name of_named made signatures
signatures_of_range = refl

-- an argument may be var, and the result is par
signatures_of_fix : formed (codes "fix") (b ∷ []) ≡ signed 0 (b ∷ []) b ∷ signed 0 (va b ∷ []) b ∷ signed 0 (n ∷ []) n ∷ signed 0 (va n ∷ []) n ∷ signed 0 (sn ∷ []) sn ∷ signed 0 (va sn ∷ []) sn ∷ []
unfolding built_ins globals placed_from table form_of with_number with_base with_indices enums_from index_enums_from with_rank ranks_from choices cases sets_of_cases scalars sets meanings readings_of result_var opt_of base_of type_of types_with types_of_rank array_types joined products index_lists index_sets param_types given_indices array_indices result_type numbered all_params with_mark with_meaning of_entry has_name of_named made signatures
signatures_of_fix = refl

-- three enum types: each index set may be of one of them or of int, T has fourteen meanings
count_of_array3d : length (signatures (codes "array3d") (se ∷ sf ∷ sg ∷ li n ∷ [])) ≡ 1792
unfolding built_ins globals placed_from table form_of with_number with_base with_indices enums_from index_enums_from with_rank ranks_from choices cases sets_of_cases scalars sets meanings readings_of result_var opt_of base_of type_of types_with types_of_rank array_types joined products index_lists index_sets param_types given_indices array_indices result_type numbered all_params with_mark with_meaning of_entry has_name of_named made signatures
count_of_array3d = refl
