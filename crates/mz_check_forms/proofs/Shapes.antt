-- A tree is made again from its layer, so it is known by the layer of the code's form.
use Rattle.std.proofs.Common.{◌≡◌, ◌∙◌, refl, ap, sym}
use Rattle.mz_core.specs.declared.tree.Core.{Core}
use Rattle.mz_core.specs.declared.tree.CoreForm.TheViews.{out-CoreForm}
use Rattle.mz_core.specs.Types.{plain_type}
use Rattle.mz_core.specs.Tree as pure
use Rattle.mz_core.specs.Tree.{Shape, Layer, Maybe, Maybes, Trees, Rows, Branches, Steps, Gens, Items, layer, maybe, if_tree, maybes, all_maybes, trees, all_trees, steps, all_steps, gens, all_gens, items, all_items, branches, all_branches, rows_of, all_rows}
use Rattle.mz_core.specs.TreeViews.{tree, shape, form_layer}
use Rattle.mz_core.proofs.TreeLaws.{tree_is, layer_shape}

maybe_made : (m : Maybe) → maybe (if_tree m) ≡ m
maybe_made pure.nothing = refl
maybe_made (pure.just e) = refl

trees_made : (es : Trees) → trees (all_trees es) ≡ es
trees_made pure.no_trees = refl
trees_made (pure.a_tree e es) = ap (pure.a_tree e) (trees_made es)

maybes_made : (ms : Maybes) → maybes (all_maybes ms) ≡ ms
maybes_made pure.no_maybes = refl
maybes_made (pure.a_maybe m ms) = rw (maybe_made m, maybes_made ms) refl

rows_made : (rs : Rows) → rows_of (all_rows rs) ≡ rs
rows_made pure.no_rows = refl
rows_made (pure.a_row r rs) = rw (trees_made r, rows_made rs) refl

branches_made : (bs : Branches) → branches (all_branches bs) ≡ bs
branches_made pure.no_branches = refl
branches_made (pure.a_branch c e bs) = ap (pure.a_branch c e) (branches_made bs)

steps_made : (ss : Steps) → steps (all_steps ss) ≡ ss
steps_made pure.no_steps = refl
steps_made (pure.a_step sp r t l m e ss) = ap (pure.a_step sp r t l m e) (steps_made ss)

gens_made : (gs : Gens) → gens (all_gens gs) ≡ gs
gens_made pure.no_gens = refl
gens_made (pure.a_gen ss e m gs) = rw (maybe_made m, gens_made gs) refl

items_made : (is : Items) → items (all_items is) ≡ is
items_made pure.no_items = refl
items_made (pure.a_decl s n p q t ix m v is) = rw (maybes_made ix, maybe_made m, maybe_made v, items_made is) refl
items_made (pure.a_constraint e is) = ap (pure.a_constraint e) (items_made is)

-- the shape with this layer
abbrev pub shape_with : Layer → Shape
shape_with (pure.bool_form b) = pure.bool b
shape_with (pure.int_form n) = pure.int n
shape_with (pure.case_form e k) = pure.case e k
shape_with (pure.text_form n) = pure.text n
shape_with pure.absent_form = pure.absent
shape_with (pure.enum_set_form e) = pure.enum_set e
shape_with (pure.slot_form s) = pure.slot s
shape_with pure.whole_form = pure.whole
shape_with (pure.chain_form e ss) = pure.chain e (steps ss)
shape_with (pure.builtin_form r es) = pure.builtin r (trees es)
shape_with (pure.call_form f es) = pure.call f (trees es)
shape_with (pure.access_form e es) = pure.access e (trees es)
shape_with (pure.array_form es) = pure.array (trees es)
shape_with (pure.rows_form rs) = pure.rows (rows_of rs)
shape_with (pure.set_form es) = pure.set (trees es)
shape_with (pure.comp_form b e gs) = pure.comp b e (gens gs)
shape_with (pure.if_form bs e) = pure.choice (branches bs) (maybe e)
shape_with (pure.let_form is e) = pure.let_in (items is) e
shape_with (pure.coerce_form c e) = pure.coerce c e

shape_made : (s : Shape) → shape_with (layer s) ≡ s
shape_made (pure.bool b) = refl
shape_made (pure.int n) = refl
shape_made (pure.case e k) = refl
shape_made (pure.text n) = refl
shape_made pure.absent = refl
shape_made (pure.enum_set e) = refl
shape_made (pure.slot s) = refl
shape_made pure.whole = refl
shape_made (pure.chain e ss) = ap (pure.chain e) (steps_made ss)
shape_made (pure.builtin r es) = ap (pure.builtin r) (trees_made es)
shape_made (pure.call f es) = ap (pure.call f) (trees_made es)
shape_made (pure.access e es) = ap (pure.access e) (trees_made es)
shape_made (pure.array es) = ap pure.array (trees_made es)
shape_made (pure.rows rs) = ap pure.rows (rows_made rs)
shape_made (pure.set es) = ap pure.set (trees_made es)
shape_made (pure.comp b e gs) = ap (pure.comp b e) (gens_made gs)
shape_made (pure.choice bs e) = rw (branches_made bs, maybe_made e) refl
shape_made (pure.let_in is e) = ap (λ x. pure.let_in x e) (items_made is)
shape_made (pure.coerce c e) = refl

pub tree_made : (e : Core) → tree e ≡ pure.node e.span (plain_type e.ty) (shape_with (form_layer (out-CoreForm e.form)))
tree_made e = tree_is e ∙ ap (pure.node e.span (plain_type e.ty)) (sym (shape_made (shape e.form)) ∙ ap shape_with (layer_shape e.form))
