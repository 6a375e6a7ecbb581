-- Declarations without a bound by the layers of a tree. Mirror of src/walk.rt and src/program.rt; private clauses only.
use Rattle.std.specs.Prelude.{Bool, ◌&&◌, ◌||◌, List, [], ◌++◌, Option, Some, None, is_none}
use Rattle.std.specs.List.{flat_map, list_any}
use Rattle.mz_base.specs.declared.fault.Span.{Span}
use Rattle.mz_core.specs.Types.{is_set}
use Rattle.mz_core.specs.Program.{Function}
use Rattle.mz_core.specs.Tree.{Tree, Step, Gen, Decl, DeclaredType, Item, declares, constrains, Layer, chain_form, builtin_form, call_form, access_form, array_form, rows_form, set_form, comp_form, if_form, let_form, coerce_form}
use Rattle.mz_meaning.specs.Unbounded.{unbounded_in, only_if}

abbrev pub has_no_bound : DeclaredType → Bool
has_no_bound t = list_any is_none t.index || (is_set t.ty.base && is_none t.set)

abbrev pub is_unbounded : Decl → Bool
is_unbounded d = is_none d.value && has_no_bound d.ty

abbrev pub in_if : Option Tree → List Span
in_if None = []
in_if (Some e) = unbounded_in e

-- in the sets of a declared type
abbrev pub in_type : DeclaredType → List Span
in_type t = flat_map in_if t.index ++ in_if t.set

abbrev pub in_all : List Tree → List Span
in_all es = flat_map unbounded_in es

abbrev pub in_sets : List (Option Tree) → List Span
in_sets ms = flat_map in_if ms

abbrev pub in_branch : Tree × Tree → List Span
in_branch b = unbounded_in b.0 ++ unbounded_in b.1

abbrev pub in_step : Step → List Span
in_step s = unbounded_in s.operand

abbrev pub in_generator : Gen → List Span
in_generator g = unbounded_in g.set ++ in_if g.cond

abbrev pub in_local : Decl → List Span
in_local d = only_if (is_unbounded d) d.span ++ (in_type d.ty ++ in_if d.value)

abbrev pub in_item : Item → List Span
in_item (declares d) = in_local d
in_item (constrains e) = unbounded_in e

abbrev pub in_layer : Layer → List Span
in_layer (chain_form e ss) = unbounded_in e ++ flat_map in_step ss
in_layer (builtin_form r es) = in_all es
in_layer (call_form f es) = in_all es
in_layer (access_form e es) = unbounded_in e ++ in_all es
in_layer (array_form es) = in_all es
in_layer (rows_form rs) = flat_map in_all rs
in_layer (set_form es) = in_all es
in_layer (comp_form b e gs) = unbounded_in e ++ flat_map in_generator gs
in_layer (if_form bs e) = flat_map in_branch bs ++ in_if e
in_layer (let_form is e) = flat_map in_item is ++ unbounded_in e
in_layer (coerce_form c e) = unbounded_in e
in_layer form = []

-- ---- the items

abbrev pub in_param : Decl → List Span
in_param d = in_type d.ty

abbrev pub in_function : Function → List Span
in_function f = flat_map in_param f.params ++ (in_type f.result ++ unbounded_in f.body)
