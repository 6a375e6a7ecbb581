-- Worked examples of whole models.
use Rattle.std.specs.Prelude.{◌≡◌, refl, ℕ, true, false, List, [], ◌∷◌, map, Option, Some, None, Ok, Err, codes}
use Rattle.mz_base.specs.declared.kind.Kind.{Kind}
use Rattle.mz_base.specs.declared.kind.Kind.TheVariants.{UnknownName, DuplicateName, TypeMismatch, NoOverload}
use Rattle.mz_core.specs.Types.{PlainType}
use Rattle.mz_tree.specs.declared.expr.BinOp.TheVariants as o
use Rattle.mz_tree.specs.Tree as source
use Rattle.mz_tree.specs.Tree.{Tree, Name, Written, Declaration}
use Rattle.mz_tree.specs.Items.{FunctionTree, GoalTree, satisfy, minimize, maximize}
use Rattle.mz_scope_order.specs.Scoped.{ScopedTree}
use Rattle.mz_scope_order.specs.Subjects.{Subject, of_decl, of_function}
use Rattle.mz_check_meaning.specs.Tests.{Test}
use Rattle.mz_check_meaning.specs.ExampleTrees.{n, va, num, truth, words, name, call, bin, array, set, written, written_array, col}
use Rattle.mz_core.specs.Order.{below, same_type, same_dims, dims_below}
use Rattle.mz_core.specs.Join.{join}
use Rattle.mz_core.specs.Paths.{coercions, index_links}
use Rattle.mz_overload.specs.Best.{all_below, is_least, resolution}
use Rattle.mz_builtin.specs.Table.{built_ins, globals, placed_from, table}
use Rattle.mz_builtin.specs.Readings.{with_number, with_base, with_indices, enums_from, index_enums_from, with_rank, ranks_from, choices, cases, sets_of_cases, scalars, sets, meanings, readings_of, result_var, opt_of, base_of, type_of, types_with, types_of_rank, array_types, joined, products, index_lists, index_sets, param_types, given_indices, array_indices, result_type, numbered, all_params, with_mark, with_meaning, of_entry}
use Rattle.mz_builtin.specs.Signatures.{has_name, of_named, made, signatures, fitting, global_place}
use Rattle.mz_check_meaning.specs.Models.{entry_of, entries_of, local_in}
use Rattle.mz_check_meaning.specs.Coerced.{wrapped, coercions_to, coerced, all_coerced, fitted, condition, allowed_at}
use Rattle.mz_check_meaning.specs.Calls.{is_left_out, best, rows_for, candidates, call_node, applied, row_of, row_node}
use Rattle.mz_check_meaning.specs.Chains.{prefix_name, operator_name, operated, from_right, appended}
use Rattle.mz_check_meaning.specs.Arrays.{join_next, listed, tabled, set_literal, indices_fitted, accessed}
use Rattle.mz_check_meaning.specs.Branches.{branches_join, decided}
use Rattle.mz_check_meaning.specs.Comprehensions.{running_type, bind_names, listed_heads, set_of_heads, comprehended}
use Rattle.mz_check_meaning.specs.WrittenTypes.{par_set, index, values, set_of_values, declared_base, declared}
use Rattle.mz_check_meaning.specs.Lets.{let_node}
use Rattle.mz_check_meaning.specs.Names.{meant, named, bare_call}
use Rattle.mz_check_meaning.specs.Typing.{check, check_form, check_maybe, checks, check_links, check_rows, check_branches, check_piece, check_pieces, check_gen, check_gens, check_let, check_lets, check_declaration, check_written, check_based, check_dims, check_bases}
use Rattle.mz_check_meaning.specs.Headings.{heading, with_types}
use Rattle.mz_check_meaning.specs.Duplicates.{same_types, is_in_library, duplicate_after}
use Rattle.mz_check_meaning.specs.Items.{decl, with_params, function, constraint, goal, output}
use Rattle.mz_check_meaning.specs.Checks.{untyped, first_from, types_met, signed, items_met, sections, checked_with, checked, Sections}

-- a, b, c, x, y, f, g, z, count, sum
abbrev names : List (List ℕ)
names = codes "a" ∷ codes "b" ∷ codes "c" ∷ codes "x" ∷ codes "y" ∷ codes "f" ∷ codes "g" ∷ codes "z" ∷ codes "count" ∷ codes "sum" ∷ []

-- `true + {1}`
abbrev bad : ℕ → Tree
bad k = bin k (truth k) o.Add (set k (num k ∷ []))

abbrev declaration : Written → Name → ℕ → Option Tree → Declaration
declaration t m k v = source.declaration t m (col k) (source.maybe v)

abbrev param : Written → Name → ℕ → Declaration
param t m k = declaration t m k None

abbrev fun : Name → ℕ → Written → List Declaration → Tree → FunctionTree
fun m k t ps x = record { name = m; span = col k; result = t; params = ps; body = x }

-- a scoped model, and the order in which its types are typed
pub record Case : Type 0 where
  pub scoped : ScopedTree
  pub order : List Subject

abbrev modelled : List Declaration → List FunctionTree → List Tree → GoalTree → List Tree → List Subject → Case
modelled ds fs cs g os order = record { scoped = record { enums = []; decls = ds; functions = fs; constraints = cs; goal = g; outputs = os; given = [] }; order = order }

-- the types of the declarations, or the fault with its column
pub data Ending : Type 0 where
  types : List PlainType → Ending
  fault : Kind → ℕ → Ending

pub record ModelExample : Type 0 where
  pub case : Case
  pub ending : Ending

abbrev passes : Case → List PlainType → ModelExample
passes m ts = record { case = m; ending = types ts }

abbrev refused : Case → Kind → ℕ → ModelExample
refused m k c = record { case = m; ending = fault k c }

abbrev ending_of : Test Sections → Ending
ending_of (Ok s) = types (map (λ d. d.ty.ty) s.decls)
ending_of (Err f) = fault f.kind f.span.col

abbrev ending : ModelExample → Ending
ending x = ending_of (checked names x.case.scoped x.case.order)

abbrev wanted : ModelExample → Ending
wanted x = x.ending

abbrev orders : List ModelExample
orders =
    passes (modelled (declaration (written 1 false source.base_int) 0 6 (Some (num 10)) ∷ declaration (written 13 true source.base_int) 3 22 None ∷ []) [] ((bin 36 (name 3 36) o.Eq (name 0 40)) ∷ []) satisfy [] (of_decl 0 ∷ of_decl 1 ∷ [])) (n ∷ va n ∷ [])
    ∷ refused (modelled (declaration (written 1 false source.base_int) 0 6 (Some (bad 41)) ∷ []) [] ((bad 20) ∷ []) satisfy [] (of_decl 0 ∷ [])) NoOverload 20
    ∷ refused (modelled (declaration (written 1 false source.base_int) 0 6 (Some (bad 10)) ∷ []) [] ((bad 35) ∷ []) satisfy [] (of_decl 0 ∷ [])) NoOverload 10
    ∷ refused (modelled (declaration (written 1 false source.base_int) 0 6 (Some (bad 10)) ∷ declaration (written 22 false (source.base_of (bin 22 (num 22) o.Range (bad 25)))) 1 38 (Some (num 42)) ∷ []) [] [] satisfy [] (of_decl 0 ∷ of_decl 1 ∷ [])) NoOverload 25
    ∷ refused (modelled (declaration (written 30 false source.base_int) 1 35 (Some (bad 39)) ∷ declaration (written 1 false source.base_int) 0 6 (Some (bad 10)) ∷ []) [] [] satisfy [] (of_decl 0 ∷ of_decl 1 ∷ [])) NoOverload 10
    ∷ refused (modelled [] (fun 5 15 (written 10 false source.base_int) (param (written 17 false (source.base_of (bin 17 (num 17) o.Range (call 6 20 ((num 22) ∷ []))))) 0 26 ∷ param (written 29 false (source.base_of (bin 29 (num 29) o.Range (bad 32)))) 1 43 ∷ []) (num 48) ∷ fun 6 73 (written 60 false (source.base_of (bin 60 (num 60) o.Range (bad 65)))) (param (written 75 false source.base_int) 3 80 ∷ []) (name 3 85) ∷ []) [] satisfy [] (of_function 1 ∷ of_function 0 ∷ [])) NoOverload 65
    ∷ refused (modelled [] (fun 6 24 (written 10 false (source.base_of (bin 10 (num 10) o.Range (bad 14)))) (param (written 26 false (source.base_of (bin 26 (num 26) o.Range (bad 30)))) 3 40 ∷ []) (name 3 45) ∷ []) [] satisfy [] (of_function 0 ∷ [])) NoOverload 30
    ∷ passes (modelled (declaration (written 1 false source.base_int) 0 6 (Some (num 10)) ∷ declaration (written 20 true (source.base_of (bin 24 (num 24) o.Range (name 0 27)))) 3 30 None ∷ []) [] [] satisfy [] (of_decl 0 ∷ of_decl 1 ∷ [])) (n ∷ va n ∷ [])
    ∷ refused (modelled (declaration (written 1 false (source.base_of (bin 1 (num 1) o.Range (bad 4)))) 0 6 None ∷ declaration (written 20 false (source.base_of (bin 20 (num 20) o.Range (bad 24)))) 1 6 None ∷ []) [] [] satisfy [] (of_decl 0 ∷ of_decl 1 ∷ [])) NoOverload 4
    ∷ refused (modelled (declaration (written 1 false (source.base_of (bin 1 (num 1) o.Range (bad 4)))) 0 6 None ∷ declaration (written 20 false (source.base_of (bin 20 (num 20) o.Range (bad 24)))) 1 6 None ∷ []) [] [] satisfy [] (of_decl 1 ∷ of_decl 0 ∷ [])) NoOverload 4
    ∷ []

pub orders_are_typed : map ending orders ≡ map wanted orders
unfolding below same_type same_dims dims_below join coercions index_links all_below is_least resolution built_ins globals placed_from table with_number with_base with_indices enums_from index_enums_from with_rank ranks_from choices cases sets_of_cases scalars sets meanings readings_of result_var opt_of base_of type_of types_with types_of_rank array_types joined products index_lists index_sets param_types given_indices array_indices result_type numbered all_params with_mark with_meaning of_entry has_name of_named made signatures fitting global_place entry_of entries_of local_in wrapped coercions_to coerced all_coerced fitted condition allowed_at is_left_out best rows_for candidates call_node applied row_of row_node prefix_name operator_name operated from_right appended join_next listed tabled set_literal indices_fitted accessed branches_join decided running_type bind_names listed_heads set_of_heads comprehended par_set index values set_of_values declared_base declared let_node meant named bare_call check check_form check_maybe checks check_links check_rows check_branches check_piece check_pieces check_gen check_gens check_let check_lets check_declaration check_written check_based check_dims check_bases heading with_types same_types is_in_library duplicate_after decl with_params function constraint goal output untyped first_from types_met signed items_met sections checked_with checked
orders_are_typed = refl

abbrev functions : List ModelExample
functions =
    passes (modelled [] (fun 5 15 (written 10 false source.base_int) (param (written 17 false source.base_int) 3 22 ∷ []) (name 3 28) ∷ []) ((bin 40 (call 5 40 ((num 42) ∷ [])) o.Eq (num 47)) ∷ []) satisfy [] (of_function 0 ∷ [])) []
    ∷ refused (modelled [] (fun 5 15 (written 10 false source.base_int) (param (written 17 false source.base_int) 3 22 ∷ []) (words 28) ∷ []) [] satisfy [] (of_function 0 ∷ [])) TypeMismatch 28
    ∷ refused (modelled [] (fun 5 15 (written 10 false source.base_int) (param (written 17 false (source.base_of (bin 17 (num 17) o.Range (num 20)))) 3 23 ∷ []) (num 28) ∷ fun 5 45 (written 40 false source.base_int) (param (written 47 false (source.base_of (bin 47 (num 47) o.Range (num 50)))) 4 53 ∷ []) (num 58) ∷ []) [] satisfy [] (of_function 0 ∷ of_function 1 ∷ [])) DuplicateName 45
    ∷ passes (modelled [] (fun 5 15 (written 10 false source.base_int) (param (written 17 false source.base_int) 3 22 ∷ []) (num 28) ∷ fun 5 45 (written 40 false source.base_int) (param (written 47 true source.base_int) 4 56 ∷ []) (num 61) ∷ []) [] satisfy [] (of_function 0 ∷ of_function 1 ∷ [])) []
    ∷ refused (modelled [] (fun 8 15 (written 10 false source.base_int) (param (written_array 21 (source.base_int ∷ []) source.base_bool) 3 40 ∷ []) (num 45) ∷ []) [] satisfy [] (of_function 0 ∷ [])) DuplicateName 15
    ∷ passes (modelled [] (fun 8 15 (written 10 false source.base_int) (param (written_array 21 (source.base_int ∷ []) source.base_int) 3 40 ∷ param (written 43 false source.base_int) 4 48 ∷ []) (num 53) ∷ []) ((bin 70 (call 8 70 ((array 76 ((truth 77) ∷ [])) ∷ [])) o.Eq (num 85)) ∷ []) satisfy [] (of_function 0 ∷ [])) []
    ∷ refused (modelled (declaration (written 1 false source.base_int) 0 6 (Some (bad 10)) ∷ []) (fun 8 35 (written 30 false source.base_int) (param (written_array 41 (source.base_int ∷ []) source.base_bool) 3 60 ∷ []) (num 65) ∷ []) [] satisfy [] (of_decl 0 ∷ of_function 0 ∷ [])) DuplicateName 35
    ∷ refused (modelled [] (fun 5 15 (written 10 false source.base_int) (param (written 17 false source.base_int) 3 22 ∷ param (written 25 false source.base_bool) 3 31 ∷ []) (num 36) ∷ []) [] satisfy [] (of_function 0 ∷ [])) DuplicateName 31
    ∷ refused (modelled [] (fun 5 15 (written 10 false source.base_int) (param (written 17 false source.base_int) 3 22 ∷ param (written 25 false (source.base_of (bin 25 (num 25) o.Range (bad 28)))) 3 41 ∷ []) (num 46) ∷ []) [] satisfy [] (of_function 0 ∷ [])) NoOverload 28
    ∷ passes (modelled [] (fun 5 17 (written 10 false (source.base_of (bin 10 (num 10) o.Range (name 4 13)))) (param (written 19 false source.base_int) 4 24 ∷ param (written 27 false (source.base_of (bin 27 (num 27) o.Range (name 4 30)))) 7 33 ∷ []) (name 7 38) ∷ []) [] satisfy [] (of_function 0 ∷ [])) []
    ∷ refused (modelled [] (fun 5 15 (written 10 false source.base_int) (param (written 17 false (source.base_of (bin 17 (num 17) o.Range (name 4 20)))) 3 23 ∷ param (written 26 false source.base_int) 4 31 ∷ []) (num 36) ∷ []) [] satisfy [] (of_function 0 ∷ [])) UnknownName 20
    ∷ passes (modelled (declaration (written 1 false source.base_int) 4 6 (Some (num 10)) ∷ []) (fun 5 30 (written 20 false source.base_int) (param (written 32 false (source.base_of (bin 32 (num 32) o.Range (name 4 35)))) 7 38 ∷ param (written 41 false source.base_int) 4 46 ∷ []) (num 51) ∷ []) [] satisfy [] (of_decl 0 ∷ of_function 0 ∷ [])) (n ∷ [])
    ∷ []

pub functions_are_typed : map ending functions ≡ map wanted functions
unfolding below same_type same_dims dims_below join coercions index_links all_below is_least resolution built_ins globals placed_from table with_number with_base with_indices enums_from index_enums_from with_rank ranks_from choices cases sets_of_cases scalars sets meanings readings_of result_var opt_of base_of type_of types_with types_of_rank array_types joined products index_lists index_sets param_types given_indices array_indices result_type numbered all_params with_mark with_meaning of_entry has_name of_named made signatures fitting global_place entry_of entries_of local_in wrapped coercions_to coerced all_coerced fitted condition allowed_at is_left_out best rows_for candidates call_node applied row_of row_node prefix_name operator_name operated from_right appended join_next listed tabled set_literal indices_fitted accessed branches_join decided running_type bind_names listed_heads set_of_heads comprehended par_set index values set_of_values declared_base declared let_node meant named bare_call check check_form check_maybe checks check_links check_rows check_branches check_piece check_pieces check_gen check_gens check_let check_lets check_declaration check_written check_based check_dims check_bases heading with_types same_types is_in_library duplicate_after decl with_params function constraint goal output untyped first_from types_met signed items_met sections checked_with checked
functions_are_typed = refl

abbrev other_items : List ModelExample
other_items =
    refused (modelled [] [] ((num 12) ∷ []) satisfy [] []) TypeMismatch 12
    ∷ refused (modelled [] [] [] (minimize (words 16)) [] []) TypeMismatch 16
    ∷ passes (modelled [] [] [] (maximize (truth 16)) [] []) []
    ∷ refused (modelled [] [] [] satisfy ((words 8) ∷ []) []) TypeMismatch 8
    ∷ refused (modelled [] [] [] satisfy ((array 8 ((num 9) ∷ [])) ∷ []) []) TypeMismatch 8
    ∷ passes (modelled [] [] [] satisfy ((array 8 []) ∷ []) []) []
    ∷ passes (modelled (declaration (written 1 true source.base_int) 3 10 None ∷ []) [] [] satisfy ((array 20 ((source.node (col 21) (source.interp (source.parts (source.plain 0 ∷ source.shown (name 3 23) ∷ source.plain 0 ∷ [])))) ∷ [])) ∷ []) (of_decl 0 ∷ [])) (va n ∷ [])
    ∷ refused (modelled [] [] ((num 30) ∷ []) (minimize (words 16)) [] []) TypeMismatch 16
    ∷ refused (modelled (declaration (written 1 false source.base_int) 0 6 (Some (words 10)) ∷ []) [] [] satisfy [] (of_decl 0 ∷ [])) TypeMismatch 10
    ∷ []

pub other_items_are_typed : map ending other_items ≡ map wanted other_items
unfolding below same_type same_dims dims_below join coercions index_links all_below is_least resolution built_ins globals placed_from table with_number with_base with_indices enums_from index_enums_from with_rank ranks_from choices cases sets_of_cases scalars sets meanings readings_of result_var opt_of base_of type_of types_with types_of_rank array_types joined products index_lists index_sets param_types given_indices array_indices result_type numbered all_params with_mark with_meaning of_entry has_name of_named made signatures fitting global_place entry_of entries_of local_in wrapped coercions_to coerced all_coerced fitted condition allowed_at is_left_out best rows_for candidates call_node applied row_of row_node prefix_name operator_name operated from_right appended join_next listed tabled set_literal indices_fitted accessed branches_join decided running_type bind_names listed_heads set_of_heads comprehended par_set index values set_of_values declared_base declared let_node meant named bare_call check check_form check_maybe checks check_links check_rows check_branches check_piece check_pieces check_gen check_gens check_let check_lets check_declaration check_written check_based check_dims check_bases heading with_types same_types is_in_library duplicate_after decl with_params function constraint goal output untyped first_from types_met signed items_met sections checked_with checked
other_items_are_typed = refl
