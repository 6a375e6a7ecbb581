-- One layer of what the code's trees stand for: the only place where the folds are opened.
use Rattle.std.proofs.Common.{◌≡◌, ◌∙◌, List, [], ◌∷◌, Bool, Option, Some, None, Vec, Global, map, refl, ap}
use Rattle.std.specs.Option.{option_map}
use Rattle.mz_base.specs.declared.fault.Span.{Span}
use Rattle.mz_tree.specs.declared.expr.Expr.{Expr, the_lemmas as expr_lemmas}
use Rattle.mz_tree.specs.declared.expr.Form.{Form, Form-F}
use Rattle.mz_tree.specs.declared.expr.LetItem.{LetItem, LetItem-F}
use Rattle.mz_tree.specs.declared.expr.TextPart.{TextPart, TextPart-F}
use Rattle.mz_tree.specs.declared.expr.TypeBase.{TypeBase, TypeBase-F}
use Rattle.mz_tree.specs.declared.expr.Decl.{Decl}
use Rattle.mz_tree.specs.declared.expr.Gen.{Gen}
use Rattle.mz_tree.specs.declared.expr.TypeText.{TypeText}
use Rattle.mz_tree.specs.declared.expr.Form.TheOpen as open_form
use Rattle.mz_tree.specs.declared.expr.Form.TheViews.{out-Form, out-LetItem, out-TextPart, out-TypeBase, out-Decl, out-Gen, out-TypeText}
use Rattle.mz_tree.specs.declared.expr.Form.TheFolds as folds
use Rattle.mz_tree.specs.Tree as pure
use Rattle.mz_tree.specs.Tree.{Name, Tree, Shape, Part, Based, Declaration, Generator, Let, Written}
use Rattle.mz_tree.specs.Views.{tree, shape, let_of, part, based, declaration, generator, written, form_step, let_step, part_step, base_step, decl_step, expr_step, gen_step, type_step, form_seen, let_seen, part_seen, base_seen}

rows_mapped : (f : Vec Expr Global → Vec Tree Global) (g : Vec Tree Global → List Tree) (h : Vec Expr Global → List Tree) (rs : List (Vec Expr Global)) → ((r : Vec Expr Global) → g (f r) ≡ h r) → map g (map f rs) ≡ map h rs
rows_mapped f g h [] e = refl
rows_mapped f g h (r ∷ rs) e = rw (e r, rows_mapped f g h rs e) refl

pub tree_is : (e : Expr) → tree e ≡ pure.node e.span (shape e.form)
unfolding tree shape
tree_is e = simp expr_lemmas refl

form_case : (f : Form-F Form LetItem TextPart TypeBase Decl Expr Gen TypeText) → form_step (folds.map-Form Form LetItem TextPart TypeBase Decl Expr Gen TypeText Shape Let Part Based Declaration Tree Generator Written shape let_of part based declaration tree generator written f) ≡ form_seen f
unfolding tree shape let_of part based declaration generator written
form_case (open_form.Rows rs) = ap (λ t. pure.rows (pure.rows_of t)) (rows_mapped _ _ (λ r. map tree r.items) rs.items (λ r. refl))
form_case (open_form.If bs None) = refl
form_case (open_form.If bs (Some e)) = refl
form_case f = refl

pub shape_is : (f : Form) → shape f ≡ form_seen (out-Form f)
unfolding tree shape let_of part based declaration generator written
shape_is f = folds.fold_out-Form Shape Let Part Based Declaration Tree Generator Written form_step let_step part_step base_step decl_step expr_step gen_step type_step f ∙ form_case (out-Form f)

let_case : (l : LetItem-F Form LetItem TextPart TypeBase Decl Expr Gen TypeText) → let_step (folds.map-LetItem Form LetItem TextPart TypeBase Decl Expr Gen TypeText Shape Let Part Based Declaration Tree Generator Written shape let_of part based declaration tree generator written l) ≡ let_seen l
let_case (open_form.Decl d) = refl
let_case (open_form.Constraint e) = refl

pub let_is : (l : LetItem) → let_of l ≡ let_seen (out-LetItem l)
unfolding tree shape let_of part based declaration generator written
let_is l = folds.fold_out-LetItem Shape Let Part Based Declaration Tree Generator Written form_step let_step part_step base_step decl_step expr_step gen_step type_step l ∙ let_case (out-LetItem l)

part_case : (p : TextPart-F Form LetItem TextPart TypeBase Decl Expr Gen TypeText) → part_step (folds.map-TextPart Form LetItem TextPart TypeBase Decl Expr Gen TypeText Shape Let Part Based Declaration Tree Generator Written shape let_of part based declaration tree generator written p) ≡ part_seen p
part_case (open_form.Plain n) = refl
part_case (open_form.Shown e) = refl

pub part_is : (p : TextPart) → part p ≡ part_seen (out-TextPart p)
unfolding tree shape let_of part based declaration generator written
part_is p = folds.fold_out-TextPart Shape Let Part Based Declaration Tree Generator Written form_step let_step part_step base_step decl_step expr_step gen_step type_step p ∙ part_case (out-TextPart p)

base_case : (b : TypeBase-F Form LetItem TextPart TypeBase Decl Expr Gen TypeText) → base_step (folds.map-TypeBase Form LetItem TextPart TypeBase Decl Expr Gen TypeText Shape Let Part Based Declaration Tree Generator Written shape let_of part based declaration tree generator written b) ≡ base_seen b
base_case open_form.TypeBase::Bool = refl
base_case open_form.TypeBase::Int = refl
base_case (open_form.Of e) = refl

pub base_is : (b : TypeBase) → based b ≡ base_seen (out-TypeBase b)
unfolding tree shape let_of part based declaration generator written
base_is b = folds.fold_out-TypeBase Shape Let Part Based Declaration Tree Generator Written form_step let_step part_step base_step decl_step expr_step gen_step type_step b ∙ base_case (out-TypeBase b)

decl_case : (t : TypeText) (n : Name) (s : Span) (c : Option Expr) → decl_step (folds.map-Decl Form LetItem TextPart TypeBase Decl Expr Gen TypeText Shape Let Part Based Declaration Tree Generator Written shape let_of part based declaration tree generator written (record { ty = t; name = n; span = s; value = c })) ≡ pure.declaration (written t) n s (pure.maybe (option_map tree c))
decl_case t n s None = refl
decl_case t n s (Some e) = refl

pub declaration_is : (d : Decl) → let u = out-Decl d in declaration d ≡ pure.declaration (written u.ty) u.name u.span (pure.maybe (option_map tree u.value))
unfolding tree shape let_of part based declaration generator written
declaration_is d = let u = out-Decl d in folds.fold_out-Decl Shape Let Part Based Declaration Tree Generator Written form_step let_step part_step base_step decl_step expr_step gen_step type_step d ∙ decl_case u.ty u.name u.span u.value

gen_case : (ns : Vec (Name × Span) Global) (e : Expr) (c : Option Expr) → gen_step (folds.map-Gen Form LetItem TextPart TypeBase Decl Expr Gen TypeText Shape Let Part Based Declaration Tree Generator Written shape let_of part based declaration tree generator written (record { names = ns; set = e; cond = c })) ≡ pure.generator ns.items (tree e) (pure.maybe (option_map tree c))
gen_case ns e None = refl
gen_case ns e (Some x) = refl

pub generator_is : (g : Gen) → let u = out-Gen g in generator g ≡ pure.generator u.names.items (tree u.set) (pure.maybe (option_map tree u.cond))
unfolding tree shape let_of part based declaration generator written
generator_is g = let u = out-Gen g in folds.fold_out-Gen Shape Let Part Based Declaration Tree Generator Written form_step let_step part_step base_step decl_step expr_step gen_step type_step g ∙ gen_case u.names u.set u.cond

type_case : (s : Span) (ds : Option (Vec TypeBase Global)) (v o t : Bool) (b : TypeBase) → type_step (folds.map-TypeText Form LetItem TextPart TypeBase Decl Expr Gen TypeText Shape Let Part Based Declaration Tree Generator Written shape let_of part based declaration tree generator written (record { span = s; dims = ds; var = v; opt = o; set = t; base = b })) ≡ pure.written s (pure.dims (option_map (λ bs. map based bs.items) ds)) v o t (based b)
type_case s None v o t b = refl
type_case s (Some bs) v o t b = refl

pub written_is : (t : TypeText) → let u = out-TypeText t in written t ≡ pure.written u.span (pure.dims (option_map (λ bs. map based bs.items) u.dims)) u.var u.opt u.set (based u.base)
unfolding tree shape let_of part based declaration generator written
written_is t = let u = out-TypeText t in folds.fold_out-TypeText Shape Let Part Based Declaration Tree Generator Written form_step let_step part_step base_step decl_step expr_step gen_step type_step t ∙ type_case u.span u.dims u.var u.opt u.set u.base
