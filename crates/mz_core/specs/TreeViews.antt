-- The trees that the code's typed expressions stand for.
use Rattle.std.specs.Prelude.{◌≡◌, List, [], ◌∷◌, ◌++◌, map}
use Rattle.std.specs.Option.{option_map}
use Rattle.mz_core.specs.declared.tree.Core.{Core, Core-F, fold-Core}
use Rattle.mz_core.specs.declared.tree.CoreForm.{CoreForm, CoreForm-F, fold-CoreForm}
use Rattle.mz_core.specs.declared.tree.CoreItem.{CoreItem, CoreItem-F}
use Rattle.mz_core.specs.declared.tree.CoreDecl.{CoreDecl, CoreDecl-F}
use Rattle.mz_core.specs.declared.tree.CoreGen.{CoreGen, CoreGen-F}
use Rattle.mz_core.specs.declared.tree.CoreStep.{CoreStep, CoreStep-F}
use Rattle.mz_core.specs.declared.tree.CoreType.{CoreType, CoreType-F}
use Rattle.mz_core.specs.declared.tree.CoreForm.TheOpen as open_form
use Rattle.mz_core.specs.declared.tree.CoreForm.TheViews.{out-CoreForm, out-CoreGen, out-CoreDecl, out-CoreType, out-CoreItem}
use Rattle.mz_core.specs.Types.{PlainType, plain_type}
use Rattle.mz_core.specs.Coercions.{PathLink}
use Rattle.mz_core.specs.Paths.{path_links}
use Rattle.mz_core.specs.Tree.{Tree, Shape, Item, Decl, Gen, Step, DeclaredType, Layer}
use Rattle.mz_core.specs.Tree as pure

-- one layer of each type, with the trees of its parts

abbrev pub form_step : CoreForm-F Shape Item Tree Decl Gen Step DeclaredType → Shape
form_step (open_form.Bool b) = pure.bool b
form_step (open_form.Int n) = pure.int n
form_step (open_form.Enum e k) = pure.case e k
form_step (open_form.Text n) = pure.text n
form_step open_form.Absent = pure.absent
form_step (open_form.EnumSet e) = pure.enum_set e
form_step (open_form.Slot s) = pure.slot s
form_step open_form.Whole = pure.whole
form_step (open_form.Chain e ss) = pure.chain e.value (pure.steps ss.items)
form_step (open_form.Builtin r es) = pure.builtin r (pure.trees es.items)
form_step (open_form.Call f es) = pure.call f (pure.trees es.items)
form_step (open_form.Access e es) = pure.access e.value (pure.trees es.items)
form_step (open_form.Array es) = pure.array (pure.trees es.items)
form_step (open_form.Rows rs) = pure.rows (pure.rows_of (map (λ r. r.items) rs.items))
form_step (open_form.Set es) = pure.set (pure.trees es.items)
form_step (open_form.Comp b e gs) = pure.comp b e.value (pure.gens gs.items)
form_step (open_form.If bs e) = pure.choice (pure.branches bs.items) (pure.maybe (option_map (λ x. x.value) e))
form_step (open_form.Let is e) = pure.let_in (pure.items is.items) e.value
form_step (open_form.Coerce c e) = pure.coerce c e.value

abbrev pub item_step : CoreItem-F Shape Item Tree Decl Gen Step DeclaredType → Item
item_step (open_form.Decl d) = pure.declares d
item_step (open_form.Constraint e) = pure.constrains e

abbrev pub core_step : Core-F Shape Item Tree Decl Gen Step DeclaredType → Tree
core_step e = pure.node e.span (plain_type e.ty) e.form

abbrev pub decl_step : CoreDecl-F Shape Item Tree Decl Gen Step DeclaredType → Decl
decl_step d = record { slot = d.slot; name = d.name; span = d.span; ty = d.ty; value = d.value }

abbrev pub gen_step : CoreGen-F Shape Item Tree Decl Gen Step DeclaredType → Gen
gen_step g = record { slots = g.slots.items; set = g.set; cond = g.cond }

abbrev pub step_step : CoreStep-F Shape Item Tree Decl Gen Step DeclaredType → Step
step_step s = record { start = s.start; row = s.row; ty = plain_type s.ty; left = path_links s.left.items; right = path_links s.right.items; operand = s.operand }

abbrev pub type_step : CoreType-F Shape Item Tree Decl Gen Step DeclaredType → DeclaredType
type_step t = record { span = t.span; ty = plain_type t.ty; index = t.index.items; set = t.set }

-- what the code's expression and its form stand for

abbrev pub tree : Core → Tree
tree = fold-Core Shape Item Tree Decl Gen Step DeclaredType form_step item_step core_step decl_step gen_step step_step type_step

abbrev pub shape : CoreForm → Shape
shape = fold-CoreForm Shape Item Tree Decl Gen Step DeclaredType form_step item_step core_step decl_step gen_step step_step type_step

-- what stands in lists of the code, with the trees of its parts

abbrev pub branch : Core × Core → Tree × Tree
branch b = (tree b.0, tree b.1)

abbrev pub declared_type : CoreType → DeclaredType
declared_type t = let u = out-CoreType t in record { span = u.span; ty = plain_type u.ty; index = map (option_map tree) u.index.items; set = option_map tree u.set }

abbrev pub decl : CoreDecl → Decl
decl d = let u = out-CoreDecl d in record { slot = u.slot; name = u.name; span = u.span; ty = declared_type u.ty; value = option_map tree u.value }

abbrev pub gen : CoreGen → Gen
gen g = let u = out-CoreGen g in record { slots = u.slots.items; set = tree u.set; cond = option_map tree u.cond }

abbrev pub step : CoreStep → Step
step s = record { start = s.start; row = s.row; ty = plain_type s.ty; left = path_links s.left.items; right = path_links s.right.items; operand = tree s.operand }

abbrev pub item_layer : CoreItem-F CoreForm CoreItem Core CoreDecl CoreGen CoreStep CoreType → Item
item_layer (open_form.Decl d) = pure.declares (decl d)
item_layer (open_form.Constraint e) = pure.constrains (tree e)

abbrev pub item : CoreItem → Item
item i = item_layer (out-CoreItem i)

-- one layer of the code's form, with the trees of its parts as lists
abbrev pub form_layer : CoreForm-F CoreForm CoreItem Core CoreDecl CoreGen CoreStep CoreType → Layer
form_layer (open_form.Bool b) = pure.bool_form b
form_layer (open_form.Int n) = pure.int_form n
form_layer (open_form.Enum e k) = pure.case_form e k
form_layer (open_form.Text n) = pure.text_form n
form_layer open_form.Absent = pure.absent_form
form_layer (open_form.EnumSet e) = pure.enum_set_form e
form_layer (open_form.Slot s) = pure.slot_form s
form_layer open_form.Whole = pure.whole_form
form_layer (open_form.Chain e ss) = pure.chain_form (tree e.value) (map step ss.items)
form_layer (open_form.Builtin r es) = pure.builtin_form r (map tree es.items)
form_layer (open_form.Call f es) = pure.call_form f (map tree es.items)
form_layer (open_form.Access e es) = pure.access_form (tree e.value) (map tree es.items)
form_layer (open_form.Array es) = pure.array_form (map tree es.items)
form_layer (open_form.Rows rs) = pure.rows_form (map (λ r. map tree r.items) rs.items)
form_layer (open_form.Set es) = pure.set_form (map tree es.items)
form_layer (open_form.Comp b e gs) = pure.comp_form b (tree e.value) (map gen gs.items)
form_layer (open_form.If bs e) = pure.if_form (map branch bs.items) (option_map (λ x. tree x.value) e)
form_layer (open_form.Let is e) = pure.let_form (map item is.items) (tree e.value)
form_layer (open_form.Coerce c e) = pure.coerce_form c (tree e.value)

-- the tree below a form's coercions, and the coercions, by the form's layer

abbrev pub inner_in : Tree → CoreForm-F CoreForm CoreItem Core CoreDecl CoreGen CoreStep CoreType → Tree
inner_in t (open_form.Coerce c e) = pure.inner_tree (tree e.value)
inner_in t f = t

abbrev pub coercions_in : PlainType → CoreForm-F CoreForm CoreItem Core CoreDecl CoreGen CoreStep CoreType → List PathLink
coercions_in t (open_form.Coerce c e) = pure.root_coercions (tree e.value) ++ (c, t) ∷ []
coercions_in t f = []

-- an expression's tree has its place and its type, and is read by the layer of its form
pub record IsReadByLayer (e : Core) : Type 0 where
  pub place : pure.place_of (tree e) ≡ e.span
  pub type : pure.type_of (tree e) ≡ plain_type e.ty
  pub layer : pure.layer (pure.shape_of (tree e)) ≡ form_layer (out-CoreForm e.form)
  pub inner : pure.inner_tree (tree e) ≡ inner_in (tree e) (out-CoreForm e.form)
  pub coercions : pure.root_coercions (tree e) ≡ coercions_in (plain_type e.ty) (out-CoreForm e.form)

abbrev pub TreesAreReadByLayers : Type 0
TreesAreReadByLayers = (e : Core) → IsReadByLayer e
