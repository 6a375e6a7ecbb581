-- Declarations without a bound by the layers of a tree.
use Rattle.std.proofs.Common.{◌≡◌, ◌∙◌, Bool, true, false, ◌&&◌, ◌||◌, List, ◌++◌, Option, Some, None, is_none, refl, ap, sym, append_assoc}
use Rattle.std.specs.List.{flat_map, list_any}
use Rattle.mz_base.specs.declared.fault.Span.{Span}
use Rattle.mz_core.specs.declared.tree.Core.{Core}
use Rattle.mz_core.specs.declared.tree.CoreForm.TheViews.{out-CoreForm}
use Rattle.mz_core.specs.Types.{PlainType, is_set}
use Rattle.mz_core.specs.Tree as pure
use Rattle.mz_core.specs.Tree.{Tree, Shape, Trees, Maybe, Maybes, Rows, Branches, Steps, Gens, Items, if_tree, all_trees, all_maybes, all_rows, all_branches, all_steps, all_gens, all_items, layer, shape_of}
use Rattle.mz_core.specs.TreeViews.{tree, form_layer}
use Rattle.mz_core.proofs.TreeLaws.{layer_tree}
use Rattle.mz_meaning.specs.Unbounded.{unbounded_in, in_form, in_maybe, in_trees, in_maybes, in_rows, in_branches, in_steps, in_gens, in_items, only_if, is_nothing, some_nothing, is_unbounded}
use Rattle.mz_model_unbounded.specs.StepsLayers.{in_all, in_sets, in_branch, in_step, in_generator, in_item, in_layer, in_if}

-- ---- whether a declaration has neither a value nor a bound

nothing_is : (m : Maybe) → is_nothing m ≡ is_none (if_tree m)
nothing_is pure.nothing = refl
nothing_is (pure.just e) = refl

some_is : (ms : Maybes) → some_nothing ms ≡ list_any is_none (all_maybes ms)
some_is pure.no_maybes = refl
some_is (pure.a_maybe m ms) = ap (λ b. b || some_nothing ms) (nothing_is m) ∙ ap (λ b. is_none (if_tree m) || b) (some_is ms)

abbrev unbounded_as : PlainType → List (Option Tree) → Option Tree → Option Tree → Bool
unbounded_as t ixs set value = is_none value && (list_any is_none ixs || (is_set t.base && is_none set))

pub unbounded_is : (t : PlainType) (ixs : Maybes) (set value : Maybe) → is_unbounded t ixs set value ≡ unbounded_as t (all_maybes ixs) (if_tree set) (if_tree value)
unbounded_is t ixs set value =
    ap (λ b. b && (some_nothing ixs || (is_set t.base && is_nothing set))) (nothing_is value)
    ∙ ap (λ b. is_none (if_tree value) && (b || (is_set t.base && is_nothing set))) (some_is ixs)
    ∙ ap (λ b. is_none (if_tree value) && (list_any is_none (all_maybes ixs) || (is_set t.base && b))) (nothing_is set)

-- ---- layers

pub maybe_is : (m : Maybe) → in_maybe m ≡ in_if (if_tree m)
unfolding unbounded_in
maybe_is pure.nothing = refl
maybe_is (pure.just e) = refl

trees_are : (es : Trees) → in_trees es ≡ in_all (all_trees es)
unfolding unbounded_in
trees_are pure.no_trees = refl
trees_are (pure.a_tree e es) = ap (λ (ps : List Span). unbounded_in e ++ ps) (trees_are es)

pub maybes_are : (ms : Maybes) → in_maybes ms ≡ in_sets (all_maybes ms)
unfolding unbounded_in
maybes_are pure.no_maybes = refl
maybes_are (pure.a_maybe m ms) = ap (λ (ps : List Span). ps ++ in_maybes ms) (maybe_is m) ∙ ap (λ (ps : List Span). in_if (if_tree m) ++ ps) (maybes_are ms)

rows_are : (rs : Rows) → in_rows rs ≡ flat_map in_all (all_rows rs)
unfolding unbounded_in
rows_are pure.no_rows = refl
rows_are (pure.a_row r rs) = ap (λ (ps : List Span). ps ++ in_rows rs) (trees_are r) ∙ ap (λ (ps : List Span). in_all (all_trees r) ++ ps) (rows_are rs)

branches_are : (bs : Branches) → in_branches bs ≡ flat_map in_branch (all_branches bs)
unfolding unbounded_in
branches_are pure.no_branches = refl
branches_are (pure.a_branch c e bs) = ap (λ (ps : List Span). unbounded_in c ++ (unbounded_in e ++ ps)) (branches_are bs) ∙ sym (append_assoc (unbounded_in c) (unbounded_in e) (flat_map in_branch (all_branches bs)))

steps_are : (ss : Steps) → in_steps ss ≡ flat_map in_step (all_steps ss)
unfolding unbounded_in
steps_are pure.no_steps = refl
steps_are (pure.a_step sp r t l m e ss) = ap (λ (ps : List Span). unbounded_in e ++ ps) (steps_are ss)

gens_are : (gs : Gens) → in_gens gs ≡ flat_map in_generator (all_gens gs)
unfolding unbounded_in
gens_are pure.no_gens = refl
gens_are (pure.a_gen ss e c gs) =
    ap (λ (ps : List Span). unbounded_in e ++ (ps ++ in_gens gs)) (maybe_is c)
    ∙ ap (λ (ps : List Span). unbounded_in e ++ (in_if (if_tree c) ++ ps)) (gens_are gs)
    ∙ sym (append_assoc (unbounded_in e) (in_if (if_tree c)) (flat_map in_generator (all_gens gs)))

-- the parts of a declaration, one after the other, before the items that are left
declared_then : (a b c d rest : List Span) → a ++ (b ++ (c ++ (d ++ rest))) ≡ (a ++ ((b ++ c) ++ d)) ++ rest
declared_then a b c d rest = simp append_assoc refl

abbrev first_part : PlainType → Maybes → Maybe → Maybe → Span → List Span
first_part t ixs set value at = only_if (unbounded_as t (all_maybes ixs) (if_tree set) (if_tree value)) at

pub items_are : (is : Items) → in_items is ≡ flat_map in_item (all_items is)
unfolding unbounded_in
items_are pure.no_items = refl
items_are (pure.a_decl s n at q t ixs set value is) =
    ap (λ (b : Bool). only_if b at ++ (in_maybes ixs ++ (in_maybe set ++ (in_maybe value ++ in_items is)))) (unbounded_is t ixs set value)
    ∙ ap (λ (ps : List Span). first_part t ixs set value at ++ (ps ++ (in_maybe set ++ (in_maybe value ++ in_items is)))) (maybes_are ixs)
    ∙ ap (λ (ps : List Span). first_part t ixs set value at ++ (in_sets (all_maybes ixs) ++ (ps ++ (in_maybe value ++ in_items is)))) (maybe_is set)
    ∙ ap (λ (ps : List Span). first_part t ixs set value at ++ (in_sets (all_maybes ixs) ++ (in_if (if_tree set) ++ (ps ++ in_items is)))) (maybe_is value)
    ∙ ap (λ (ps : List Span). first_part t ixs set value at ++ (in_sets (all_maybes ixs) ++ (in_if (if_tree set) ++ (in_if (if_tree value) ++ ps)))) (items_are is)
    ∙ declared_then (first_part t ixs set value at) (in_sets (all_maybes ixs)) (in_if (if_tree set)) (in_if (if_tree value)) (flat_map in_item (all_items is))
items_are (pure.a_constraint e is) = ap (λ (ps : List Span). unbounded_in e ++ ps) (items_are is)

layer_is : (f : Shape) → in_form f ≡ in_layer (layer f)
unfolding unbounded_in
layer_is (pure.chain e ss) = ap (λ (ps : List Span). unbounded_in e ++ ps) (steps_are ss)
layer_is (pure.builtin r es) = trees_are es
layer_is (pure.call f es) = trees_are es
layer_is (pure.access e es) = ap (λ (ps : List Span). unbounded_in e ++ ps) (trees_are es)
layer_is (pure.array es) = trees_are es
layer_is (pure.rows rs) = rows_are rs
layer_is (pure.set es) = trees_are es
layer_is (pure.comp b e gs) = ap (λ (ps : List Span). unbounded_in e ++ ps) (gens_are gs)
layer_is (pure.choice bs e) = ap (λ (ps : List Span). ps ++ in_maybe e) (branches_are bs) ∙ ap (λ (ps : List Span). flat_map in_branch (all_branches bs) ++ ps) (maybe_is e)
layer_is (pure.let_in is e) = ap (λ (ps : List Span). ps ++ unbounded_in e) (items_are is)
layer_is (pure.coerce c e) = refl
layer_is f = refl

by_layer : (t : Tree) → unbounded_in t ≡ in_layer (layer (shape_of t))
unfolding unbounded_in
by_layer (pure.node s t f) = layer_is f

-- in an expression of the code
pub unbounded_in_tree : (e : Core) → unbounded_in (tree e) ≡ in_layer (form_layer (out-CoreForm e.form))
unbounded_in_tree e = by_layer (tree e) ∙ ap in_layer (layer_tree e)
