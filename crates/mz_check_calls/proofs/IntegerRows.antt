-- Operators between two integers take the rows that are written down for them.
use Rattle.std.proofs.Common.{◌≡◌, ℕ, Bool, true, false, Option, refl, subst, sym}
use Rattle.std.specs.Prelude.{◌||◌}
use Rattle.mz_core.specs.Types.{PlainType}
use Rattle.mz_core.specs.declared.types.Base.{Base}
use Rattle.mz_core.specs.Order.{below, same_type, same_dims, dims_below}
use Rattle.mz_overload.specs.Best.{all_below, is_least, resolution}
use Rattle.mz_builtin.specs.Table.{built_ins, globals, placed_from, table}
use Rattle.mz_builtin.specs.Readings.{with_number, with_base, with_indices, enums_from, index_enums_from, with_rank, ranks_from, choices, cases, sets_of_cases, scalars, sets, meanings, readings_of, result_var, opt_of, base_of, type_of, types_with, types_of_rank, array_types, joined, products, index_lists, index_sets, param_types, given_indices, array_indices, result_type, numbered, all_params, with_mark, with_meaning, of_entry}
use Rattle.mz_builtin.specs.Signatures.{has_name, first_named, of_named, made, signatures, fitting}
use Rattle.mz_tree.specs.declared.expr.BinOp.{BinOp}
use Rattle.mz_tree.specs.declared.expr.BinOp.TheVariants as op
use Rattle.mz_check_meaning.specs.Calls.{best, row_of}
use Rattle.mz_check_meaning.specs.Chains.{operator_name}
use Rattle.mz_check_calls.specs.StepsIntegers.{integer, integer_base, integer_row, IsRowOf}

takes : (v w : Bool) (o : BinOp) → IsRowOf o (integer v) (integer w) (v || w) (integer_row (v || w) o)
unfolding below same_type same_dims dims_below all_below is_least resolution built_ins globals placed_from table first_named integer_base with_number with_base with_indices enums_from index_enums_from with_rank ranks_from choices cases sets_of_cases scalars sets meanings readings_of result_var opt_of base_of type_of types_with types_of_rank array_types joined products index_lists index_sets param_types given_indices array_indices result_type numbered all_params with_mark with_meaning of_entry has_name of_named made signatures fitting best row_of operator_name
takes false false op.Eq = λ at. refl
takes false false op.Ne = λ at. refl
takes false false op.Lt = λ at. refl
takes false false op.Le = λ at. refl
takes false false op.Gt = λ at. refl
takes false false op.Ge = λ at. refl
takes false false op.Add = λ at. refl
takes false false op.Sub = λ at. refl
takes false false op.Mul = λ at. refl
takes false false op.Div = λ at. refl
takes false false op.Mod = λ at. refl
takes false false op.Range = λ at. refl
takes false false op.Iff = tt
takes false false op.Imp = tt
takes false false op.Rimp = tt
takes false false op.Or = tt
takes false false op.Xor = tt
takes false false op.And = tt
takes false false op.Member = tt
takes false false op.Subset = tt
takes false false op.Superset = tt
takes false false op.Union = tt
takes false false op.Diff = tt
takes false false op.Symdiff = tt
takes false false op.Intersect = tt
takes false false op.Pow = tt
takes false false op.Concat = tt
takes false false op.Default = tt
takes false true op.Eq = λ at. refl
takes false true op.Ne = λ at. refl
takes false true op.Lt = λ at. refl
takes false true op.Le = λ at. refl
takes false true op.Gt = λ at. refl
takes false true op.Ge = λ at. refl
takes false true op.Add = λ at. refl
takes false true op.Sub = λ at. refl
takes false true op.Mul = λ at. refl
takes false true op.Div = λ at. refl
takes false true op.Mod = λ at. refl
takes false true op.Range = tt
takes false true op.Iff = tt
takes false true op.Imp = tt
takes false true op.Rimp = tt
takes false true op.Or = tt
takes false true op.Xor = tt
takes false true op.And = tt
takes false true op.Member = tt
takes false true op.Subset = tt
takes false true op.Superset = tt
takes false true op.Union = tt
takes false true op.Diff = tt
takes false true op.Symdiff = tt
takes false true op.Intersect = tt
takes false true op.Pow = tt
takes false true op.Concat = tt
takes false true op.Default = tt
takes true false op.Eq = λ at. refl
takes true false op.Ne = λ at. refl
takes true false op.Lt = λ at. refl
takes true false op.Le = λ at. refl
takes true false op.Gt = λ at. refl
takes true false op.Ge = λ at. refl
takes true false op.Add = λ at. refl
takes true false op.Sub = λ at. refl
takes true false op.Mul = λ at. refl
takes true false op.Div = λ at. refl
takes true false op.Mod = λ at. refl
takes true false op.Range = tt
takes true false op.Iff = tt
takes true false op.Imp = tt
takes true false op.Rimp = tt
takes true false op.Or = tt
takes true false op.Xor = tt
takes true false op.And = tt
takes true false op.Member = tt
takes true false op.Subset = tt
takes true false op.Superset = tt
takes true false op.Union = tt
takes true false op.Diff = tt
takes true false op.Symdiff = tt
takes true false op.Intersect = tt
takes true false op.Pow = tt
takes true false op.Concat = tt
takes true false op.Default = tt
takes true true op.Eq = λ at. refl
takes true true op.Ne = λ at. refl
takes true true op.Lt = λ at. refl
takes true true op.Le = λ at. refl
takes true true op.Gt = λ at. refl
takes true true op.Ge = λ at. refl
takes true true op.Add = λ at. refl
takes true true op.Sub = λ at. refl
takes true true op.Mul = λ at. refl
takes true true op.Div = λ at. refl
takes true true op.Mod = λ at. refl
takes true true op.Range = tt
takes true true op.Iff = tt
takes true true op.Imp = tt
takes true true op.Rimp = tt
takes true true op.Or = tt
takes true true op.Xor = tt
takes true true op.And = tt
takes true true op.Member = tt
takes true true op.Subset = tt
takes true true op.Superset = tt
takes true true op.Union = tt
takes true true op.Diff = tt
takes true true op.Symdiff = tt
takes true true op.Intersect = tt
takes true true op.Pow = tt
takes true true op.Concat = tt
takes true true op.Default = tt

pub row_between : (o : BinOp) (left right : PlainType) (v w b : Bool) (found : Option (ℕ × Base)) → left ≡ integer v → right ≡ integer w → b ≡ (v || w) → found ≡ integer_row b o → IsRowOf o left right (v || w) found
row_between o left right v w b found l r e is =
    let known : IsRowOf o left (integer w) (v || w) (integer_row (v || w) o) = subst (λ t. IsRowOf o t (integer w) (v || w) (integer_row (v || w) o)) (sym l) (takes v w o) in
    let both : IsRowOf o left right (v || w) (integer_row (v || w) o) = subst (λ t. IsRowOf o left t (v || w) (integer_row (v || w) o)) (sym r) known in
    subst (λ f. IsRowOf o left right (v || w) f) (sym is) (subst (λ c. IsRowOf o left right (v || w) (integer_row c o)) (sym e) both)
