-- Worked examples of whole models with their data.
use Rattle.std.specs.Prelude.{◌≡◌, refl, ℕ, ◌+◌, true, false, List, [], ◌∷◌, map, Option, Some, None, Ok, Err, codes}
use Rattle.std.specs.Option.{option_map}
use Rattle.mz_base.specs.declared.kind.Kind.{Kind}
use Rattle.mz_base.specs.declared.kind.Kind.TheVariants.{DataForm, DuplicateName, NoOverload}
use Rattle.mz_core.specs.Types.{PlainType}
use Rattle.mz_core.specs.Tree as tree
use Rattle.mz_tree.specs.declared.expr.BinOp.TheVariants as o
use Rattle.mz_tree.specs.Tree as source
use Rattle.mz_tree.specs.Tree.{Tree, Name, Written, Declaration}
use Rattle.mz_tree.specs.Items.{FunctionTree, satisfy}
use Rattle.mz_tree.specs.Data.{Value, Given}
use Rattle.mz_scope_order.specs.Scoped.{ScopedTree}
use Rattle.mz_scope_order.specs.Subjects.{Subject, of_decl, of_function}
use Rattle.mz_check_meaning.specs.Tests.{Test}
use Rattle.mz_check_meaning.specs.ExampleTrees as model
use Rattle.mz_core.specs.Order.{below, same_type, same_dims, dims_below}
use Rattle.mz_core.specs.Join.{join}
use Rattle.mz_core.specs.Paths.{coercions, index_links}
use Rattle.mz_overload.specs.Best.{all_below, is_least, resolution}
use Rattle.mz_builtin.specs.Table.{built_ins, globals, placed_from, table}
use Rattle.mz_builtin.specs.Readings.{with_number, with_base, with_indices, enums_from, index_enums_from, with_rank, ranks_from, choices, cases, sets_of_cases, scalars, sets, meanings, readings_of, result_var, opt_of, base_of, type_of, types_with, types_of_rank, array_types, joined, products, index_lists, index_sets, param_types, given_indices, array_indices, result_type, numbered, all_params, with_mark, with_meaning, of_entry}
use Rattle.mz_builtin.specs.Signatures.{has_name, of_named, made, signatures, fitting, global_place}
use Rattle.mz_check_meaning.specs.Models.{entry_of, entries_of, local_in}
use Rattle.mz_check_meaning.specs.Coerced.{wrapped, coercions_to, coerced, all_coerced, fitted, condition, allowed_at}
use Rattle.mz_check_meaning.specs.Calls.{is_left_out, best, rows_for, candidates, call_node, applied, row_of, row_node}
use Rattle.mz_check_meaning.specs.Chains.{prefix_name, operator_name, operated, from_right, appended}
use Rattle.mz_check_meaning.specs.Arrays.{join_next, listed, tabled, set_literal, indices_fitted, accessed}
use Rattle.mz_check_meaning.specs.Branches.{branches_join, decided}
use Rattle.mz_check_meaning.specs.Comprehensions.{running_type, bind_names, listed_heads, set_of_heads, comprehended}
use Rattle.mz_check_meaning.specs.WrittenTypes.{par_set, index, values, set_of_values, declared_base, declared}
use Rattle.mz_check_meaning.specs.Lets.{let_node}
use Rattle.mz_check_meaning.specs.Names.{meant, named, bare_call}
use Rattle.mz_check_meaning.specs.Typing.{check, check_form, check_maybe, checks, check_links, check_rows, check_branches, check_piece, check_pieces, check_gen, check_gens, check_let, check_lets, check_declaration, check_written, check_based, check_dims, check_bases}
use Rattle.mz_check_meaning.specs.Headings.{heading, with_types}
use Rattle.mz_check_meaning.specs.Duplicates.{same_types, is_in_library, duplicate_after}
use Rattle.mz_check_meaning.specs.Items.{decl, with_params, function, constraint, goal, output}
use Rattle.mz_check_meaning.specs.Checks.{untyped, first_from, types_met, signed, items_met, sections, Sections}
use Rattle.mz_check_data.specs.Datum.{name_tree, one_tree, range_tree, set_tree, plain_tree, list_tree, rows_tree, index_set_tree, shaped_tree, value_tree, wanted, typed_value}
use Rattle.mz_check_data.specs.WithData.{declared_as, given_value, given_values, with_values, checked_given, checked_with_data}
use Rattle.mz_check_data.specs.ExampleData.{n, b, va, li, num, yes, name, set, list}

abbrev names : List (List ℕ)
names = codes "a" ∷ codes "b" ∷ codes "k" ∷ codes "x" ∷ codes "f" ∷ []

-- `true + {1}`, which no row takes
abbrev bad : ℕ → Tree
bad c = model.bin c (model.truth c) o.Add (model.set c (model.num c ∷ []))

abbrev int : ℕ → Written
int c = model.written c false source.base_int

abbrev declaration : Written → Name → ℕ → Option Tree → Declaration
declaration t m c v = source.declaration t m (model.col c) (source.maybe v)

-- `function int: f(int: x) = 1`
abbrev fun : ℕ → FunctionTree
fun c = record { name = 4; span = model.col c; result = int c; params = declaration (int c) 3 c None ∷ []; body = model.num c }

-- a value in a data file, whose files are numbered after the model's
abbrev item : ℕ → ℕ → Name → Value → Given
item file c m v = record { name = m; span = record { file = file; line = 1; col = c; byte = c }; at = record { file = file; line = 1; col = c + 4; byte = c + 4 }; value = v }

abbrev first : ℕ → Name → Value → Given
first c m v = item 1 c m v

abbrev second : ℕ → Name → Value → Given
second c m v = item 2 c m v

abbrev modelled : List Declaration → List FunctionTree → List Tree → List Given → ScopedTree
modelled ds fs cs gs = record { enums = []; decls = ds; functions = fs; constraints = cs; goal = satisfy; outputs = []; given = gs }

-- the types of the declarations' values; or a fault, with the file and the column of its place
pub data Ending : Type 0 where
  valued : List (Option PlainType) → Ending
  fault : Kind → ℕ → ℕ → Ending

pub record Whole : Type 0 where
  pub scoped : ScopedTree
  pub order : List Subject
  pub ending : Ending

abbrev passes : ScopedTree → List Subject → List (Option PlainType) → Whole
passes s order ts = record { scoped = s; order = order; ending = valued ts }

abbrev refused : ScopedTree → List Subject → Kind → ℕ → ℕ → Whole
refused s order q file c = record { scoped = s; order = order; ending = fault q file c }

abbrev ending_of : Test Sections → Ending
ending_of (Ok all) = valued (map (λ d. option_map tree.type_of d.value) all.decls)
ending_of (Err q) = fault q.kind q.span.file q.span.col

abbrev ending : Whole → Ending
ending x = ending_of (checked_with_data names x.scoped x.order)

abbrev wanted_ending : Whole → Ending
wanted_ending x = x.ending

abbrev a : Declaration
a = declaration (int 1) 0 6 None

abbrev bool_b : Declaration
bool_b = declaration (model.written 10 false source.base_bool) 1 16 None

abbrev one_decl : List Subject
one_decl = of_decl 0 ∷ []

abbrev two_decls : List Subject
two_decls = of_decl 0 ∷ of_decl 1 ∷ []

abbrev models : List Whole
models =
    -- int: a; with a = 1; with a = {1}; and with no data
    passes (modelled (a ∷ []) [] [] (first 1 0 (num 1) ∷ [])) one_decl (Some n ∷ [])
    ∷ refused (modelled (a ∷ []) [] [] (first 1 0 (set (num 1 ∷ [])) ∷ [])) one_decl DataForm 1 5
    ∷ passes (modelled (a ∷ []) [] [] []) one_decl (None ∷ [])
    -- int: a; bool: b; with two faults, the first in the order of the data
    ∷ refused (modelled (a ∷ bool_b ∷ []) [] [] (first 1 0 (set []) ∷ first 10 1 (num 1) ∷ [])) two_decls DataForm 1 5
    ∷ refused (modelled (a ∷ bool_b ∷ []) [] [] (first 1 1 (num 1) ∷ first 10 0 (set []) ∷ [])) two_decls DataForm 1 5
    -- a fault in the second data file
    ∷ refused (modelled (a ∷ bool_b ∷ []) [] [] (first 1 0 (num 1) ∷ second 1 1 (num 1) ∷ [])) two_decls DataForm 2 5
    ∷ passes (modelled (a ∷ bool_b ∷ []) [] [] (first 1 1 yes ∷ second 1 0 yes ∷ [])) two_decls (Some n ∷ Some b ∷ [])
    -- a name in data is no unknown name
    ∷ refused (modelled (a ∷ []) [] [] (first 1 0 (name 3) ∷ [])) one_decl DataForm 1 5
    -- types come before data, and so do functions that are declared twice; values and constraints come after it
    ∷ refused (modelled (declaration (model.written 1 false (source.base_of (bad 1))) 0 20 None ∷ []) [] [] (first 1 0 (set []) ∷ [])) one_decl NoOverload 0 1
    ∷ refused (modelled (a ∷ []) (fun 20 ∷ fun 40 ∷ []) [] (first 1 0 (set []) ∷ [])) (of_decl 0 ∷ of_function 0 ∷ of_function 1 ∷ []) DuplicateName 0 40
    ∷ refused (modelled (declaration (int 1) 1 6 (Some (bad 10)) ∷ a ∷ []) [] [] (first 1 0 (set []) ∷ [])) two_decls DataForm 1 5
    ∷ refused (modelled (declaration (int 1) 1 6 (Some (bad 10)) ∷ a ∷ []) [] [] (first 1 0 (num 1) ∷ [])) two_decls NoOverload 0 10
    ∷ refused (modelled (a ∷ []) [] (model.num 20 ∷ []) (first 1 0 (set []) ∷ [])) one_decl DataForm 1 5
    -- a value that is written, and one from data; a var declaration; values in another order than the declarations
    ∷ passes (modelled (declaration (int 1) 1 6 (Some (model.num 10)) ∷ a ∷ []) [] [] (first 1 0 (num 2) ∷ [])) two_decls (Some n ∷ Some n ∷ [])
    ∷ passes (modelled (declaration (model.written 1 true source.base_int) 3 10 None ∷ []) [] [] (first 1 3 (num 1) ∷ [])) one_decl (Some (va n) ∷ [])
    ∷ passes (modelled (declaration (int 30) 2 36 None ∷ declaration (model.written_array 1 (source.base_of (model.bin 7 (model.num 7) o.Range (model.name 2 10)) ∷ []) source.base_int) 0 23 None ∷ []) [] [] (first 1 0 (list (num 1 ∷ num 2 ∷ [])) ∷ first 15 2 (num 2) ∷ [])) two_decls (Some n ∷ Some (li n) ∷ [])
    ∷ []

pub models_are_typed : map ending models ≡ map wanted_ending models
unfolding below same_type same_dims dims_below join coercions index_links all_below is_least resolution built_ins globals placed_from table with_number with_base with_indices enums_from index_enums_from with_rank ranks_from choices cases sets_of_cases scalars sets meanings readings_of result_var opt_of base_of type_of types_with types_of_rank array_types joined products index_lists index_sets param_types given_indices array_indices result_type numbered all_params with_mark with_meaning of_entry has_name of_named made signatures fitting global_place entry_of entries_of local_in wrapped coercions_to coerced all_coerced fitted condition allowed_at is_left_out best rows_for candidates call_node applied row_of row_node prefix_name operator_name operated from_right appended join_next listed tabled set_literal indices_fitted accessed branches_join decided running_type bind_names listed_heads set_of_heads comprehended par_set index values set_of_values declared_base declared let_node meant named bare_call check check_form check_maybe checks check_links check_rows check_branches check_piece check_pieces check_gen check_gens check_let check_lets check_declaration check_written check_based check_dims check_bases heading with_types same_types is_in_library duplicate_after decl with_params function constraint goal output untyped first_from types_met signed items_met sections name_tree one_tree range_tree set_tree plain_tree list_tree rows_tree index_set_tree shaped_tree value_tree wanted typed_value declared_as given_value given_values with_values checked_given checked_with_data
models_are_typed = refl
