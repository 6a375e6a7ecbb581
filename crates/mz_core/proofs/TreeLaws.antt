-- A layer of the code's form is the layer of its tree. Nothing else opens the folds.
use Rattle.std.proofs.Common.{◌≡◌, ◌∙◌, ℕ, List, [], ◌∷◌, Option, Some, None, Vec, Global, map, refl, sym, ap}
use Rattle.std.specs.Option.{option_map}
use Rattle.mz_base.specs.declared.fault.Span.{Span}
use Rattle.mz_core.specs.declared.types.TypeInst.{TypeInst}
use Rattle.mz_core.specs.declared.tree.Core.{Core, the_lemmas as core_lemmas}
use Rattle.mz_core.specs.declared.tree.CoreForm.{CoreForm, CoreForm-F, the_lemmas as form_lemmas}
use Rattle.mz_core.specs.declared.tree.CoreItem.{CoreItem, CoreItem-F}
use Rattle.mz_core.specs.declared.tree.CoreDecl.{CoreDecl}
use Rattle.mz_core.specs.declared.tree.CoreGen.{CoreGen}
use Rattle.mz_core.specs.declared.tree.CoreStep.{CoreStep}
use Rattle.mz_core.specs.declared.tree.CoreType.{CoreType}
use Rattle.mz_core.specs.declared.tree.CoreForm.TheOpen as open_form
use Rattle.mz_core.specs.declared.tree.CoreForm.TheViews.{out-CoreForm, out-CoreItem, out-CoreGen, out-CoreType, out-CoreDecl}
use Rattle.mz_core.specs.declared.tree.CoreForm.TheFolds as folds
use Rattle.mz_core.specs.declared.tree.CoreForm.TheShapes as shapes
use Rattle.mz_core.specs.Types.{PlainType, plain_type}
use Rattle.mz_core.specs.Tree as pure
use Rattle.mz_core.specs.Tree.{Tree, Shape, Item, Decl, Gen, Step, DeclaredType, layer, maybe, if_tree, maybes, all_maybes, trees, all_trees, steps, all_steps, gens, all_gens, items, all_items, branches, all_branches, rows_of, all_rows}
use Rattle.mz_core.specs.TreeViews.{tree, shape, item, item_layer, decl, gen, step, declared_type, branch, form_step, item_step, core_step, decl_step, gen_step, step_step, type_step, form_layer, inner_in, coercions_in, TreesAreReadByLayers}

-- LISTS OF PARTS are read as they were made

maybe_read : (m : Option Tree) → if_tree (maybe m) ≡ m
maybe_read None = refl
maybe_read (Some e) = refl

trees_read : (es : List Tree) → all_trees (trees es) ≡ es
trees_read [] = refl
trees_read (e ∷ es) = ap (λ ts. e ∷ ts) (trees_read es)

maybes_read : (ms : List (Option Tree)) → all_maybes (maybes ms) ≡ ms
maybes_read [] = refl
maybes_read (m ∷ ms) = rw (maybe_read m, maybes_read ms) refl

steps_read : (ss : List Step) → all_steps (steps ss) ≡ ss
steps_read [] = refl
steps_read (s ∷ ss) = ap (λ ts. s ∷ ts) (steps_read ss)

gens_read : (gs : List Gen) → all_gens (gens gs) ≡ gs
gens_read [] = refl
gens_read (g ∷ gs) = rw (maybe_read g.cond, gens_read gs) refl

items_read : (is : List Item) → all_items (items is) ≡ is
items_read [] = refl
items_read (pure.declares d ∷ is) = rw (maybes_read d.ty.index, maybe_read d.ty.set, maybe_read d.value, items_read is) refl
items_read (pure.constrains e ∷ is) = ap (λ ts. pure.constrains e ∷ ts) (items_read is)

branches_read : (bs : List (Tree × Tree)) → all_branches (branches bs) ≡ bs
branches_read [] = refl
branches_read (b ∷ bs) = ap (λ ts. b ∷ ts) (branches_read bs)

rows_read : (rs : List (List Tree)) → all_rows (rows_of rs) ≡ rs
rows_read [] = refl
rows_read (r ∷ rs) = rw (trees_read r, rows_read rs) refl

map-same : {A B : Type 0} (f g : A → B) (xs : List A) → ((x : A) → f x ≡ g x) → map f xs ≡ map g xs
map-same f g [] e = refl
map-same f g (x ∷ xs) e = rw (e x, map-same f g xs e) refl

-- THE FOLDS, on what stands in lists

abbrev step_fold : CoreStep → Step
step_fold = folds.fold-CoreStep Shape Item Tree Decl Gen Step DeclaredType form_step item_step core_step decl_step gen_step step_step type_step

abbrev gen_fold : CoreGen → Gen
gen_fold = folds.fold-CoreGen Shape Item Tree Decl Gen Step DeclaredType form_step item_step core_step decl_step gen_step step_step type_step

abbrev type_fold : CoreType → DeclaredType
type_fold = folds.fold-CoreType Shape Item Tree Decl Gen Step DeclaredType form_step item_step core_step decl_step gen_step step_step type_step

abbrev decl_fold : CoreDecl → Decl
decl_fold = folds.fold-CoreDecl Shape Item Tree Decl Gen Step DeclaredType form_step item_step core_step decl_step gen_step step_step type_step

abbrev item_fold : CoreItem → Item
item_fold = folds.fold-CoreItem Shape Item Tree Decl Gen Step DeclaredType form_step item_step core_step decl_step gen_step step_step type_step

step_fold_is : (s : CoreStep) → step_fold s ≡ step s
step_fold_is s = simp form_lemmas refl

gen_map : (ss : Vec ℕ Global) (e : Core) (c : Option Core) → gen_step (folds.map-CoreGen CoreForm CoreItem Core CoreDecl CoreGen CoreStep CoreType Shape Item Tree Decl Gen Step DeclaredType shape item_fold tree decl_fold gen_fold step_fold type_fold (record { slots = ss; set = e; cond = c })) ≡ record { slots = ss.items; set = tree e; cond = option_map tree c }
gen_map ss e None = refl
gen_map ss e (Some x) = refl

gen_fold_is : (g : CoreGen) → gen_fold g ≡ gen g
gen_fold_is g =
    let u = out-CoreGen g in
    folds.fold_out-CoreGen Shape Item Tree Decl Gen Step DeclaredType form_step item_step core_step decl_step gen_step step_step type_step g ∙ gen_map u.slots u.set u.cond

abbrev type_with : Span → PlainType → Option Tree → List (Option Tree) → DeclaredType
type_with s t m ix = record { span = s; ty = t; index = ix; set = m }

index_map : (x : Option Core) → shapes.former-CoreType-index-at-1.map Core Tree tree x ≡ option_map tree x
index_map None = refl
index_map (Some x) = refl

type_map : (s : Span) (t : TypeInst) (v : Vec (Option Core) Global) (c : Option Core) → type_step (folds.map-CoreType CoreForm CoreItem Core CoreDecl CoreGen CoreStep CoreType Shape Item Tree Decl Gen Step DeclaredType shape item_fold tree decl_fold gen_fold step_fold type_fold (record { span = s; ty = t; index = v; set = c })) ≡ record { span = s; ty = plain_type t; index = map (option_map tree) v.items; set = option_map tree c }
type_map s t v None = ap (type_with s (plain_type t) None) (map-same (shapes.former-CoreType-index-at-1.map Core Tree tree) (option_map tree) v.items index_map)
type_map s t v (Some x) = ap (type_with s (plain_type t) (Some (tree x))) (map-same (shapes.former-CoreType-index-at-1.map Core Tree tree) (option_map tree) v.items index_map)

type_fold_is : (t : CoreType) → type_fold t ≡ declared_type t
type_fold_is t =
    let u = out-CoreType t in
    folds.fold_out-CoreType Shape Item Tree Decl Gen Step DeclaredType form_step item_step core_step decl_step gen_step step_step type_step t ∙ type_map u.span u.ty u.index u.set

decl_map : (s n : ℕ) (p : Span) (t : CoreType) (c : Option Core) → decl_step (folds.map-CoreDecl CoreForm CoreItem Core CoreDecl CoreGen CoreStep CoreType Shape Item Tree Decl Gen Step DeclaredType shape item_fold tree decl_fold gen_fold step_fold type_fold (record { slot = s; name = n; span = p; ty = t; value = c })) ≡ record { slot = s; name = n; span = p; ty = type_fold t; value = option_map tree c }
decl_map s n p t None = refl
decl_map s n p t (Some x) = refl

decl_fold_is : (d : CoreDecl) → decl_fold d ≡ decl d
decl_fold_is d =
    let u = out-CoreDecl d in
    folds.fold_out-CoreDecl Shape Item Tree Decl Gen Step DeclaredType form_step item_step core_step decl_step gen_step step_step type_step d ∙ decl_map u.slot u.name u.span u.ty u.value ∙ rw (type_fold_is u.ty) refl

item_map : (i : CoreItem-F CoreForm CoreItem Core CoreDecl CoreGen CoreStep CoreType) → item_step (folds.map-CoreItem CoreForm CoreItem Core CoreDecl CoreGen CoreStep CoreType Shape Item Tree Decl Gen Step DeclaredType shape item_fold tree decl_fold gen_fold step_fold type_fold i) ≡ item_layer i
item_map (open_form.Decl d) = ap pure.declares (decl_fold_is d)
item_map (open_form.Constraint e) = refl

item_fold_is : (i : CoreItem) → item_fold i ≡ item i
item_fold_is i = folds.fold_out-CoreItem Shape Item Tree Decl Gen Step DeclaredType form_step item_step core_step decl_step gen_step step_step type_step i ∙ item_map (out-CoreItem i)

-- THE FOLD OF A FORM

-- a layer of the code's form, with the trees of its parts in place of the parts
abbrev mapped : CoreForm-F CoreForm CoreItem Core CoreDecl CoreGen CoreStep CoreType → CoreForm-F Shape Item Tree Decl Gen Step DeclaredType
mapped = folds.map-CoreForm CoreForm CoreItem Core CoreDecl CoreGen CoreStep CoreType Shape Item Tree Decl Gen Step DeclaredType shape item_fold tree decl_fold gen_fold step_fold type_fold

rows_map : (f : Vec Core Global → Vec Tree Global) (g : Vec Tree Global → List Tree) (h : Vec Core Global → List Tree) (rs : List (Vec Core Global)) → ((r : Vec Core Global) → g (f r) ≡ h r) → map g (map f rs) ≡ map h rs
rows_map f g h [] e = refl
rows_map f g h (r ∷ rs) e = rw (e r, rows_map f g h rs e) refl

layer_mapped : (f : CoreForm-F CoreForm CoreItem Core CoreDecl CoreGen CoreStep CoreType) → layer (form_step (mapped f)) ≡ form_layer f
layer_mapped (open_form.Chain e ss) = ap (pure.chain_form (tree e.value)) (steps_read (map step_fold ss.items) ∙ map-same step_fold step ss.items step_fold_is)
layer_mapped (open_form.Builtin r es) = ap (pure.builtin_form r) (trees_read (map tree es.items))
layer_mapped (open_form.Call f es) = ap (pure.call_form f) (trees_read (map tree es.items))
layer_mapped (open_form.Access e es) = ap (pure.access_form (tree e.value)) (trees_read (map tree es.items))
layer_mapped (open_form.Array es) = ap pure.array_form (trees_read (map tree es.items))
layer_mapped (open_form.Rows rs) =
    ap (λ t. pure.rows_form (all_rows (rows_of t))) (rows_map _ _ (λ r. map tree r.items) rs.items (λ r. refl)) ∙ ap pure.rows_form (rows_read (map (λ r. map tree r.items) rs.items))
layer_mapped (open_form.Set es) = ap pure.set_form (trees_read (map tree es.items))
layer_mapped (open_form.Comp b e gs) = ap (pure.comp_form b (tree e.value)) (gens_read (map gen_fold gs.items) ∙ map-same gen_fold gen gs.items gen_fold_is)
layer_mapped (open_form.If bs None) = ap (λ t. pure.if_form t None) (branches_read (map branch bs.items))
layer_mapped (open_form.If bs (Some e)) = ap (λ t. pure.if_form t (Some (tree e.value))) (branches_read (map branch bs.items))
layer_mapped (open_form.Let is e) = ap (λ t. pure.let_form t (tree e.value)) (items_read (map item_fold is.items) ∙ map-same item_fold item is.items item_fold_is)
layer_mapped f = refl

shape_is : (f : CoreForm) → shape f ≡ form_step (mapped (out-CoreForm f))
shape_is f = folds.fold_out-CoreForm Shape Item Tree Decl Gen Step DeclaredType form_step item_step core_step decl_step gen_step step_step type_step f

pub layer_shape : (f : CoreForm) → layer (shape f) ≡ form_layer (out-CoreForm f)
layer_shape f = ap layer (shape_is f) ∙ layer_mapped (out-CoreForm f)

pub tree_is : (e : Core) → tree e ≡ pure.node e.span (plain_type e.ty) (shape e.form)
tree_is e = simp core_lemmas refl

-- COERCIONS AT THE ROOT

inner_mapped : (s : Span) (t : PlainType) (f : CoreForm-F CoreForm CoreItem Core CoreDecl CoreGen CoreStep CoreType) → pure.inner_tree (pure.node s t (form_step (mapped f))) ≡ inner_in (pure.node s t (form_step (mapped f))) f
inner_mapped s t (open_form.Coerce c e) = refl
inner_mapped s t f = refl

coercions_mapped : (s : Span) (t : PlainType) (f : CoreForm-F CoreForm CoreItem Core CoreDecl CoreGen CoreStep CoreType) → pure.root_coercions (pure.node s t (form_step (mapped f))) ≡ coercions_in t f
coercions_mapped s t (open_form.Coerce c e) = refl
coercions_mapped s t f = refl

tree_mapped : (e : Core) → tree e ≡ pure.node e.span (plain_type e.ty) (form_step (mapped (out-CoreForm e.form)))
tree_mapped e = tree_is e ∙ ap (pure.node e.span (plain_type e.ty)) (shape_is e.form)

pub inner_tree_is : (e : Core) → pure.inner_tree (tree e) ≡ inner_in (tree e) (out-CoreForm e.form)
inner_tree_is e = ap pure.inner_tree (tree_mapped e) ∙ inner_mapped e.span (plain_type e.ty) (out-CoreForm e.form) ∙ ap (λ t. inner_in t (out-CoreForm e.form)) (sym (tree_mapped e))

pub root_coercions_is : (e : Core) → pure.root_coercions (tree e) ≡ coercions_in (plain_type e.ty) (out-CoreForm e.form)
root_coercions_is e = ap pure.root_coercions (tree_mapped e) ∙ coercions_mapped e.span (plain_type e.ty) (out-CoreForm e.form)

pub place_of_tree : (e : Core) → pure.place_of (tree e) ≡ e.span
place_of_tree e = ap pure.place_of (tree_is e)

pub type_of_tree : (e : Core) → pure.type_of (tree e) ≡ plain_type e.ty
type_of_tree e = ap pure.type_of (tree_is e)

pub layer_tree : (e : Core) → layer (pure.shape_of (tree e)) ≡ form_layer (out-CoreForm e.form)
layer_tree e = ap (λ t. layer (pure.shape_of t)) (tree_is e) ∙ layer_shape e.form

pub trees_read_by_layers : TreesAreReadByLayers
trees_read_by_layers e = record {
  place = place_of_tree e;
  type = type_of_tree e;
  layer = layer_tree e;
  inner = inner_tree_is e;
  coercions = root_coercions_is e;
}
