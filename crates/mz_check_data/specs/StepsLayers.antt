-- The names of texts by the layers of a tree. Mirror of src/walk.rt; private clauses only.
use Rattle.std.specs.Prelude.{ℕ, List, [], ◌∷◌, ◌++◌, Option, Some, None}
use Rattle.std.specs.List.{flat_map}
use Rattle.mz_core.specs.Tree.{Tree, Step, Gen, DeclaredType, Decl, Item, declares, constrains, Layer, text_form, chain_form, builtin_form, call_form, access_form, array_form, rows_form, set_form, comp_form, if_form, let_form, coerce_form}
use Rattle.mz_core.specs.Program.{Function, Goal}
use Rattle.mz_check_meaning.specs.Texts.{texts_in, in_decl, in_function, in_goal}

abbrev pub in_all : List Tree → List ℕ
in_all es = flat_map texts_in es

abbrev pub in_option : Option Tree → List ℕ
in_option None = []
in_option (Some e) = texts_in e

abbrev pub in_options : List (Option Tree) → List ℕ
in_options ms = flat_map in_option ms

abbrev pub in_branch : Tree × Tree → List ℕ
in_branch b = texts_in b.0 ++ texts_in b.1

abbrev pub in_operand : Step → List ℕ
in_operand s = texts_in s.operand

abbrev pub in_generator : Gen → List ℕ
in_generator g = texts_in g.set ++ in_option g.cond

abbrev pub in_declared : DeclaredType → List ℕ
in_declared t = in_options t.index ++ in_option t.set

abbrev pub in_declaration : Decl → List ℕ
in_declaration d = in_declared d.ty ++ in_option d.value

abbrev pub in_item : Item → List ℕ
in_item (declares d) = in_declaration d
in_item (constrains e) = texts_in e

abbrev pub in_layer : Layer → List ℕ
in_layer (text_form n) = n ∷ []
in_layer (chain_form e ss) = texts_in e ++ flat_map in_operand ss
in_layer (builtin_form r es) = in_all es
in_layer (call_form f es) = in_all es
in_layer (access_form e es) = texts_in e ++ in_all es
in_layer (array_form es) = in_all es
in_layer (rows_form rs) = flat_map in_all rs
in_layer (set_form es) = in_all es
in_layer (comp_form b e gs) = texts_in e ++ flat_map in_generator gs
in_layer (if_form bs e) = flat_map in_branch bs ++ in_option e
in_layer (let_form is e) = flat_map in_item is ++ texts_in e
in_layer (coerce_form c e) = texts_in e
in_layer f = []

-- all names of a program's parts, in its order
abbrev pub names_in : List Decl → List Function → List Tree → Goal → List Tree → List ℕ
names_in ds fs cs g os = flat_map in_decl ds ++ (flat_map in_function fs ++ (flat_map texts_in cs ++ (in_goal g ++ flat_map texts_in os)))
