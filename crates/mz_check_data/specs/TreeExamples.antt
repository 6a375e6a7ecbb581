-- Worked examples of typed trees: each value, set, element and list is a node, and so is the list of an array with index sets; all have
-- the place of the value.
use Rattle.std.specs.Prelude.{◌≡◌, refl, ℕ, pos, true, List, [], ◌∷◌, filter, slice_get, unwrap_or, codes, Ok}
use Rattle.std.specs.Option.{option_map}
use Rattle.mz_core.specs.declared.types.Base.TheVariants as base
use Rattle.mz_core.specs.declared.types.Coercion.TheVariants as coercion
use Rattle.mz_core.specs.Types.{PlainType}
use Rattle.mz_core.specs.Tree as tree
use Rattle.mz_core.specs.Tree.{Tree, Shape, trees}
use Rattle.mz_core.specs.Order.{below, same_type, same_dims, dims_below}
use Rattle.mz_core.specs.Join.{join}
use Rattle.mz_core.specs.Paths.{coercions, index_links}
use Rattle.mz_overload.specs.Best.{all_below, is_least, resolution}
use Rattle.mz_builtin.specs.Table.{built_ins, globals, placed_from, table}
use Rattle.mz_builtin.specs.Readings.{with_number, with_base, with_indices, enums_from, index_enums_from, with_rank, ranks_from, choices, cases, sets_of_cases, scalars, sets, meanings, readings_of, result_var, opt_of, base_of, type_of, types_with, types_of_rank, array_types, joined, products, index_lists, index_sets, param_types, given_indices, array_indices, result_type, numbered, all_params, with_mark, with_meaning, of_entry}
use Rattle.mz_builtin.specs.Signatures.{has_name, of_named, made, signatures, fitting}
use Rattle.mz_check_meaning.specs.Models.{entry_of}
use Rattle.mz_check_meaning.specs.Coerced.{wrapped, coercions_to, coerced, all_coerced, fitted, absent_type}
use Rattle.mz_check_meaning.specs.Calls.{is_left_out, best, call_node, row_of, row_node}
use Rattle.mz_check_meaning.specs.Arrays.{join_next, listed, tabled, set_literal}
use Rattle.mz_check_data.specs.Datum.{name_tree, one_tree, range_tree, set_tree, plain_tree, list_tree, rows_tree, index_set_tree, shaped_tree, value_tree, wanted, typed_value}
use Rattle.mz_check_data.specs.ExampleData.{E, C, n, b, sn, se, va, op, ar, li, square, by_e, num, yes, name, gone, range, set, list, rows, shaped, col, typed}

-- a node at the value's place
abbrev at : PlainType → Shape → Tree
at t form = tree.node (col 5) t form

-- the number of a name's row, of which this many stand before it
abbrev row_named : List ℕ → ℕ → ℕ
row_named name form = unwrap_or (option_map (λ e. e.number) (slice_get (filter (λ e. has_name name e.line) table) form)) 0

-- `..`, and `array1d` with an index set
abbrev interval_row : ℕ
interval_row = row_named (codes "..") 0

abbrev list_row : ℕ
list_row = row_named (codes "array1d") 1

abbrev one : Tree
one = at n (tree.int (pos 1))

abbrev two : Tree
two = at n (tree.int (pos 2))

abbrev true_as_int : Tree
true_as_int = at n (tree.coerce coercion.BoolToInt (at b (tree.bool true)))

-- an element that is a case of another enum
abbrev c_as_int : Tree
c_as_int = at n (tree.coerce coercion.EnumToInt (at (record n { base = base.Enum 1 }) (tree.case 1 (pos 1))))

pub record Trees : Type 0 where
  pub number : typed n (num 1) ≡ Ok one
  pub truth : typed n yes ≡ Ok true_as_int
  pub other_case : typed n (name C) ≡ Ok c_as_int
  pub variable : typed (va n) (num 1) ≡ Ok (at (va n) (tree.coerce coercion.ToVar one))
  pub nothing : typed (op n) gone ≡ Ok (at (op n) (tree.coerce coercion.BottomToBase (at absent_type tree.absent)))
  pub present : typed (op n) (num 1) ≡ Ok (at (op n) (tree.coerce coercion.ToOpt one))
  pub enum : typed se (name E) ≡ Ok (at se (tree.enum_set 0))
  pub elements : typed sn (set (num 1 ∷ yes ∷ [])) ≡ Ok (at sn (tree.set (trees (one ∷ true_as_int ∷ []))))
  -- the call of `..`, which is the table's row 20
  pub interval : typed sn (range (num 1) (num 2)) ≡ Ok (at sn (tree.builtin interval_row (trees (one ∷ two ∷ []))))
  pub set_as_list : typed (li n) (set (num 1 ∷ [])) ≡ Ok (at (li n) (tree.coerce coercion.SetToArray (at sn (tree.set (trees (one ∷ []))))))
  pub elements_in_order : typed (li n) (list (num 1 ∷ yes ∷ [])) ≡ Ok (at (li n) (tree.array (trees (one ∷ true_as_int ∷ []))))
  pub variables : typed (li (va n)) (list (num 1 ∷ num 2 ∷ [])) ≡ Ok (at (li (va n)) (tree.coerce coercion.ToVar (at (li n) (tree.array (trees (one ∷ two ∷ []))))))
  pub by_case : typed (ar (by_e ∷ []) n) (list (num 1 ∷ num 2 ∷ [])) ≡ Ok (at (li n) (tree.array (trees (one ∷ two ∷ []))))
  pub lines : typed (square n) (rows ((num 1 ∷ []) ∷ (num 2 ∷ []) ∷ [])) ≡ Ok (at (square n) (tree.rows (tree.rows_of ((one ∷ []) ∷ (two ∷ []) ∷ []))))
  -- the call of `array1d`, which is the table's row 63
  pub with_index_set : typed (ar (by_e ∷ []) n) (shaped (name E ∷ []) (num 1 ∷ yes ∷ [])) ≡ Ok (at (ar (by_e ∷ []) n) (tree.builtin list_row (trees (at se (tree.enum_set 0) ∷ at (li n) (tree.array (trees (one ∷ true_as_int ∷ []))) ∷ []))))
  pub with_other_set : typed (li n) (shaped (name E ∷ []) (num 1 ∷ num 2 ∷ [])) ≡ Ok (at (li n) (tree.builtin list_row (trees (at sn (tree.coerce coercion.SetEnumToSetInt (at se (tree.enum_set 0))) ∷ at (li n) (tree.array (trees (one ∷ two ∷ []))) ∷ []))))

pub trees_are : Trees
unfolding below same_type same_dims dims_below join coercions index_links all_below is_least resolution built_ins globals placed_from table with_number with_base with_indices enums_from index_enums_from with_rank ranks_from choices cases sets_of_cases scalars sets meanings readings_of result_var opt_of base_of type_of types_with types_of_rank array_types joined products index_lists index_sets param_types given_indices array_indices result_type numbered all_params with_mark with_meaning of_entry has_name of_named made signatures fitting entry_of wrapped coercions_to coerced all_coerced fitted best call_node row_of row_node is_left_out join_next listed tabled set_literal name_tree one_tree range_tree set_tree plain_tree list_tree rows_tree index_set_tree shaped_tree value_tree wanted typed_value
trees_are = record {
  number = refl;
  truth = refl;
  other_case = refl;
  variable = refl;
  nothing = refl;
  present = refl;
  enum = refl;
  elements = refl;
  interval = refl;
  set_as_list = refl;
  elements_in_order = refl;
  variables = refl;
  by_case = refl;
  lines = refl;
  with_index_set = refl;
  with_other_set = refl;
}
