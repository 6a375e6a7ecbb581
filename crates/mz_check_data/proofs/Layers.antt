-- The names of texts by the layers of a tree.
use Rattle.std.proofs.Common.{◌≡◌, ◌∙◌, ℕ, List, [], ◌∷◌, ◌++◌, Option, Some, None, refl, ap, sym, append_assoc, append-nil}
use Rattle.std.specs.List.{flat_map}
use Rattle.std.proofs.lemmas.Grind.{flat_map-append}
use Rattle.mz_core.specs.declared.tree.Core.{Core}
use Rattle.mz_core.specs.declared.tree.CoreForm.TheViews.{out-CoreForm}
use Rattle.mz_core.specs.Tree as pure
use Rattle.mz_core.specs.Tree.{Tree, Trees, Maybe, Maybes, Rows, Branches, Steps, Gens, Items, DeclaredType, Decl, if_tree, maybe, maybes, all_trees, all_maybes, all_rows, all_branches, all_steps, all_gens, all_items, layer, shape_of}
use Rattle.mz_core.specs.TreeViews.{tree, form_layer}
use Rattle.mz_core.specs.Nodes.{nodes_in, in_maybe, in_trees, in_maybes, in_rows, in_branches, in_steps, in_gens, in_items}
use Rattle.mz_core.specs.Program.{Function}
use Rattle.mz_core.proofs.TreeLaws.{layer_tree}
use Rattle.mz_check_meaning.specs.Texts.{text_at, texts_among, texts_in, in_decl, in_type, in_function}
use Rattle.mz_check_data.specs.StepsLayers.{in_all, in_option, in_options, in_branch, in_operand, in_generator, in_declared, in_declaration, in_item, in_layer}

-- ---- the texts among nodes that stand one after the other

two : (a b : List Tree) → texts_among (a ++ b) ≡ texts_among a ++ texts_among b
two a b = flat_map-append text_at a b

three : (a b c : List Tree) → texts_among (a ++ (b ++ c)) ≡ texts_among a ++ (texts_among b ++ texts_among c)
three a b c = two a (b ++ c) ∙ ap (λ (ns : List ℕ). texts_among a ++ ns) (two b c)

four : (a b c d : List Tree) → texts_among (a ++ (b ++ (c ++ d))) ≡ texts_among a ++ (texts_among b ++ (texts_among c ++ texts_among d))
four a b c d = two a (b ++ (c ++ d)) ∙ ap (λ (ns : List ℕ). texts_among a ++ ns) (three b c d)

-- ---- by the parts of a layer

maybe_is : (m : Maybe) → texts_among (in_maybe m) ≡ in_option (if_tree m)
unfolding nodes_in
maybe_is pure.nothing = refl
maybe_is (pure.just e) = refl

trees_are : (es : Trees) → texts_among (in_trees es) ≡ in_all (all_trees es)
unfolding nodes_in
trees_are pure.no_trees = refl
trees_are (pure.a_tree e es) = two (nodes_in e) (in_trees es) ∙ ap (λ (ns : List ℕ). texts_in e ++ ns) (trees_are es)

maybes_are : (ms : Maybes) → texts_among (in_maybes ms) ≡ in_options (all_maybes ms)
unfolding nodes_in
maybes_are pure.no_maybes = refl
maybes_are (pure.a_maybe m ms) =
    two (in_maybe m) (in_maybes ms)
    ∙ ap (λ (ns : List ℕ). ns ++ texts_among (in_maybes ms)) (maybe_is m)
    ∙ ap (λ (ns : List ℕ). in_option (if_tree m) ++ ns) (maybes_are ms)

rows_are : (rs : Rows) → texts_among (in_rows rs) ≡ flat_map in_all (all_rows rs)
unfolding nodes_in
rows_are pure.no_rows = refl
rows_are (pure.a_row r rs) =
    two (in_trees r) (in_rows rs)
    ∙ ap (λ (ns : List ℕ). ns ++ texts_among (in_rows rs)) (trees_are r)
    ∙ ap (λ (ns : List ℕ). in_all (all_trees r) ++ ns) (rows_are rs)

branches_are : (bs : Branches) → texts_among (in_branches bs) ≡ flat_map in_branch (all_branches bs)
unfolding nodes_in
branches_are pure.no_branches = refl
branches_are (pure.a_branch c e bs) =
    three (nodes_in c) (nodes_in e) (in_branches bs)
    ∙ ap (λ (ns : List ℕ). texts_in c ++ (texts_in e ++ ns)) (branches_are bs)
    ∙ sym (append_assoc (texts_in c) (texts_in e) (flat_map in_branch (all_branches bs)))

steps_are : (ss : Steps) → texts_among (in_steps ss) ≡ flat_map in_operand (all_steps ss)
unfolding nodes_in
steps_are pure.no_steps = refl
steps_are (pure.a_step sp r t l m e ss) = two (nodes_in e) (in_steps ss) ∙ ap (λ (ns : List ℕ). texts_in e ++ ns) (steps_are ss)

gens_are : (gs : Gens) → texts_among (in_gens gs) ≡ flat_map in_generator (all_gens gs)
unfolding nodes_in
gens_are pure.no_gens = refl
gens_are (pure.a_gen ss e c gs) =
    three (nodes_in e) (in_maybe c) (in_gens gs)
    ∙ ap (λ (ns : List ℕ). texts_in e ++ (ns ++ texts_among (in_gens gs))) (maybe_is c)
    ∙ ap (λ (ns : List ℕ). texts_in e ++ (in_option (if_tree c) ++ ns)) (gens_are gs)
    ∙ sym (append_assoc (texts_in e) (in_option (if_tree c)) (flat_map in_generator (all_gens gs)))

-- four parts, one after the other
grouped : (a b c d : List ℕ) → a ++ (b ++ (c ++ d)) ≡ ((a ++ b) ++ c) ++ d
grouped a b c d = sym (append_assoc a b (c ++ d)) ∙ sym (append_assoc (a ++ b) c d)

items_are : (is : Items) → texts_among (in_items is) ≡ flat_map in_item (all_items is)
unfolding nodes_in
items_are pure.no_items = refl
items_are (pure.a_decl s n at q t ixs set value is) =
    four (in_maybes ixs) (in_maybe set) (in_maybe value) (in_items is)
    ∙ ap (λ (ns : List ℕ). ns ++ (texts_among (in_maybe set) ++ (texts_among (in_maybe value) ++ texts_among (in_items is)))) (maybes_are ixs)
    ∙ ap (λ (ns : List ℕ). in_options (all_maybes ixs) ++ (ns ++ (texts_among (in_maybe value) ++ texts_among (in_items is)))) (maybe_is set)
    ∙ ap (λ (ns : List ℕ). in_options (all_maybes ixs) ++ (in_option (if_tree set) ++ (ns ++ texts_among (in_items is)))) (maybe_is value)
    ∙ ap (λ (ns : List ℕ). in_options (all_maybes ixs) ++ (in_option (if_tree set) ++ (in_option (if_tree value) ++ ns))) (items_are is)
    ∙ grouped (in_options (all_maybes ixs)) (in_option (if_tree set)) (in_option (if_tree value)) (flat_map in_item (all_items is))
items_are (pure.a_constraint e is) = two (nodes_in e) (in_items is) ∙ ap (λ (ns : List ℕ). texts_in e ++ ns) (items_are is)

pub by_layer : (t : Tree) → texts_in t ≡ in_layer (layer (shape_of t))
unfolding nodes_in
by_layer (pure.node at t (pure.bool b)) = refl
by_layer (pure.node at t (pure.int n)) = refl
by_layer (pure.node at t (pure.case e k)) = refl
by_layer (pure.node at t (pure.text n)) = refl
by_layer (pure.node at t pure.absent) = refl
by_layer (pure.node at t (pure.enum_set e)) = refl
by_layer (pure.node at t (pure.slot s)) = refl
by_layer (pure.node at t pure.whole) = refl
by_layer (pure.node at t (pure.chain e ss)) = two (nodes_in e) (in_steps ss) ∙ ap (λ (ns : List ℕ). texts_in e ++ ns) (steps_are ss)
by_layer (pure.node at t (pure.builtin r es)) = trees_are es
by_layer (pure.node at t (pure.call f es)) = trees_are es
by_layer (pure.node at t (pure.access e es)) = two (nodes_in e) (in_trees es) ∙ ap (λ (ns : List ℕ). texts_in e ++ ns) (trees_are es)
by_layer (pure.node at t (pure.array es)) = trees_are es
by_layer (pure.node at t (pure.rows rs)) = rows_are rs
by_layer (pure.node at t (pure.set es)) = trees_are es
by_layer (pure.node at t (pure.comp b e gs)) = two (nodes_in e) (in_gens gs) ∙ ap (λ (ns : List ℕ). texts_in e ++ ns) (gens_are gs)
by_layer (pure.node at t (pure.choice bs e)) =
    two (in_branches bs) (in_maybe e)
    ∙ ap (λ (ns : List ℕ). ns ++ texts_among (in_maybe e)) (branches_are bs)
    ∙ ap (λ (ns : List ℕ). flat_map in_branch (all_branches bs) ++ ns) (maybe_is e)
by_layer (pure.node at t (pure.let_in is e)) = two (in_items is) (nodes_in e) ∙ ap (λ (ns : List ℕ). ns ++ texts_in e) (items_are is)
by_layer (pure.node at t (pure.coerce c e)) = refl

-- the names in an expression of the code
pub texts_of_tree : (e : Core) → texts_in (tree e) ≡ in_layer (form_layer (out-CoreForm e.form))
texts_of_tree e = by_layer (tree e) ∙ ap in_layer (layer_tree e)

if_maybe : (m : Option Tree) → if_tree (maybe m) ≡ m
if_maybe None = refl
if_maybe (Some e) = refl

all_of_maybes : (ms : List (Option Tree)) → all_maybes (maybes ms) ≡ ms
all_of_maybes [] = refl
all_of_maybes (m ∷ ms) = ap (λ (o : Option Tree). o ∷ all_maybes (maybes ms)) (if_maybe m) ∙ ap (λ (os : List (Option Tree)). m ∷ os) (all_of_maybes ms)

maybe_in : (m : Option Tree) → texts_among (in_maybe (maybe m)) ≡ in_option m
maybe_in m = maybe_is (maybe m) ∙ ap in_option (if_maybe m)

maybes_in : (ms : List (Option Tree)) → texts_among (in_maybes (maybes ms)) ≡ in_options ms
maybes_in ms = maybes_are (maybes ms) ∙ ap in_options (all_of_maybes ms)

pub type_is : (t : DeclaredType) → in_type t ≡ in_declared t
type_is t =
    two (in_maybes (maybes t.index)) (in_maybe (maybe t.set))
    ∙ ap (λ (ns : List ℕ). ns ++ texts_among (in_maybe (maybe t.set))) (maybes_in t.index)
    ∙ ap (λ (ns : List ℕ). in_options t.index ++ ns) (maybe_in t.set)

pub decl_is : (d : Decl) → in_decl d ≡ in_declaration d
unfolding nodes_in
decl_is d =
    four (in_maybes (maybes d.ty.index)) (in_maybe (maybe d.ty.set)) (in_maybe (maybe d.value)) []
    ∙ ap (λ (ns : List ℕ). ns ++ (texts_among (in_maybe (maybe d.ty.set)) ++ (texts_among (in_maybe (maybe d.value)) ++ []))) (maybes_in d.ty.index)
    ∙ ap (λ (ns : List ℕ). in_options d.ty.index ++ (ns ++ (texts_among (in_maybe (maybe d.value)) ++ []))) (maybe_in d.ty.set)
    ∙ ap (λ (ns : List ℕ). in_options d.ty.index ++ (in_option d.ty.set ++ (ns ++ []))) (maybe_in d.value)
    ∙ grouped (in_options d.ty.index) (in_option d.ty.set) (in_option d.value) []
    ∙ append-nil (in_declaration d)

-- the parts of a function, one after the other
pub function_added : (old a b c : List ℕ) (f : Function) → a ≡ old ++ flat_map in_decl f.params → b ≡ a ++ in_declared f.result → c ≡ b ++ texts_in f.body → c ≡ old ++ in_function f
function_added old a b c f p q r =
    r
    ∙ ap (λ (ns : List ℕ). ns ++ texts_in f.body) (q ∙ ap (λ (ns : List ℕ). ns ++ in_declared f.result) p)
    ∙ append_assoc (old ++ flat_map in_decl f.params) (in_declared f.result) (texts_in f.body)
    ∙ append_assoc old (flat_map in_decl f.params) (in_declared f.result ++ texts_in f.body)
    ∙ ap (λ (ns : List ℕ). old ++ (flat_map in_decl f.params ++ (ns ++ texts_in f.body))) (sym (type_is f.result))
