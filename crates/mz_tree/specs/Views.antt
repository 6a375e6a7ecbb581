-- The trees that the code's expressions stand for.
use Rattle.std.specs.Prelude.{List, map, Vec}
use Rattle.std.specs.Option.{option_map}
use Rattle.mz_tree.specs.declared.expr.Expr.{Expr, Expr-F, fold-Expr}
use Rattle.mz_tree.specs.declared.expr.Form.{Form, Form-F, fold-Form}
use Rattle.mz_tree.specs.declared.expr.LetItem.{LetItem, LetItem-F, fold-LetItem}
use Rattle.mz_tree.specs.declared.expr.TextPart.{TextPart, TextPart-F, fold-TextPart}
use Rattle.mz_tree.specs.declared.expr.TypeBase.{TypeBase, TypeBase-F, fold-TypeBase}
use Rattle.mz_tree.specs.declared.expr.Decl.{Decl, Decl-F, fold-Decl}
use Rattle.mz_tree.specs.declared.expr.Gen.{Gen, Gen-F, fold-Gen}
use Rattle.mz_tree.specs.declared.expr.TypeText.{TypeText, TypeText-F, fold-TypeText}
use Rattle.mz_tree.specs.declared.expr.Form.TheOpen as open_form
use Rattle.mz_tree.specs.Tree.{Tree, Shape, Part, Based, Declaration, Generator, Let, Written}
use Rattle.mz_tree.specs.declared.expr.PlacedOp.{PlacedOp}
use Rattle.mz_tree.specs.Tree as pure

-- one layer of each type, with the trees of its parts
abbrev pub form_step : Form-F Shape Let Part Based Declaration Tree Generator Written → Shape
form_step (open_form.Form::Int n) = pure.int n
form_step (open_form.Form::Bool b) = pure.bool b
form_step open_form.Absent = pure.absent
form_step (open_form.Text n) = pure.text n
form_step (open_form.Ident n) = pure.ident n
form_step (open_form.Interp ps) = pure.interp (pure.parts ps.items)
form_step (open_form.Unary op e) = pure.unary op e.value
form_step (open_form.Chain e ls) = pure.chain e.value (pure.links ls.items)
form_step (open_form.Call f es) = pure.call f (pure.trees es.items)
form_step (open_form.GenCall f gs e) = pure.gen_call f (pure.gens gs.items) e.value
form_step (open_form.Access e es) = pure.access e.value (pure.trees es.items)
form_step (open_form.Array es) = pure.array (pure.trees es.items)
form_step (open_form.Rows rs) = pure.rows (pure.rows_of (map (λ r. r.items) rs.items))
form_step (open_form.Set es) = pure.set (pure.trees es.items)
form_step (open_form.ArrayComp e gs) = pure.array_comp e.value (pure.gens gs.items)
form_step (open_form.SetComp e gs) = pure.set_comp e.value (pure.gens gs.items)
form_step (open_form.If bs e) = pure.choice (pure.branches bs.items) (pure.maybe (option_map (λ x. x.value) e))
form_step (open_form.Let ls e) = pure.let_in (pure.lets ls.items) e.value
form_step open_form.Whole = pure.whole

abbrev pub let_step : LetItem-F Shape Let Part Based Declaration Tree Generator Written → Let
let_step (open_form.Decl d) = pure.declared d
let_step (open_form.Constraint e) = pure.constrained e

abbrev pub part_step : TextPart-F Shape Let Part Based Declaration Tree Generator Written → Part
part_step (open_form.Plain n) = pure.plain n
part_step (open_form.Shown e) = pure.shown e

abbrev pub base_step : TypeBase-F Shape Let Part Based Declaration Tree Generator Written → Based
base_step open_form.TypeBase::Bool = pure.base_bool
base_step open_form.TypeBase::Int = pure.base_int
base_step (open_form.Of e) = pure.base_of e.value

abbrev pub decl_step : Decl-F Shape Let Part Based Declaration Tree Generator Written → Declaration
decl_step d = pure.declaration d.ty d.name d.span (pure.maybe d.value)

abbrev pub expr_step : Expr-F Shape Let Part Based Declaration Tree Generator Written → Tree
expr_step e = pure.node e.span e.form

abbrev pub gen_step : Gen-F Shape Let Part Based Declaration Tree Generator Written → Generator
gen_step g = pure.generator g.names.items g.set (pure.maybe g.cond)

abbrev pub type_step : TypeText-F Shape Let Part Based Declaration Tree Generator Written → Written
type_step t = pure.written t.span (pure.dims (option_map (λ v. v.items) t.dims)) t.var t.opt t.set t.base

-- what each type of the code stands for
unfoldable pub tree : Expr → Tree
tree = fold-Expr Shape Let Part Based Declaration Tree Generator Written form_step let_step part_step base_step decl_step expr_step gen_step type_step

unfoldable pub shape : Form → Shape
shape = fold-Form Shape Let Part Based Declaration Tree Generator Written form_step let_step part_step base_step decl_step expr_step gen_step type_step

unfoldable pub let_of : LetItem → Let
let_of = fold-LetItem Shape Let Part Based Declaration Tree Generator Written form_step let_step part_step base_step decl_step expr_step gen_step type_step

unfoldable pub part : TextPart → Part
part = fold-TextPart Shape Let Part Based Declaration Tree Generator Written form_step let_step part_step base_step decl_step expr_step gen_step type_step

unfoldable pub based : TypeBase → Based
based = fold-TypeBase Shape Let Part Based Declaration Tree Generator Written form_step let_step part_step base_step decl_step expr_step gen_step type_step

unfoldable pub declaration : Decl → Declaration
declaration = fold-Decl Shape Let Part Based Declaration Tree Generator Written form_step let_step part_step base_step decl_step expr_step gen_step type_step

unfoldable pub generator : Gen → Generator
generator = fold-Gen Shape Let Part Based Declaration Tree Generator Written form_step let_step part_step base_step decl_step expr_step gen_step type_step

unfoldable pub written : TypeText → Written
written = fold-TypeText Shape Let Part Based Declaration Tree Generator Written form_step let_step part_step base_step decl_step expr_step gen_step type_step

abbrev pub link : PlacedOp × Expr → PlacedOp × Tree
link l = (l.0, tree l.1)

abbrev pub branch : Expr × Expr → Tree × Tree
branch b = (tree b.0, tree b.1)

abbrev pub tree_row : {Z : Type 0} → Vec Expr Z → List Tree
tree_row r = map tree r.items

-- one layer of each type, with what its parts stand for: by the equations of proofs/Looks
abbrev pub form_seen : Form-F Form LetItem TextPart TypeBase Decl Expr Gen TypeText → Shape
form_seen (open_form.Form::Int n) = pure.int n
form_seen (open_form.Form::Bool b) = pure.bool b
form_seen open_form.Absent = pure.absent
form_seen (open_form.Text n) = pure.text n
form_seen (open_form.Ident n) = pure.ident n
form_seen (open_form.Interp ps) = pure.interp (pure.parts (map part ps.items))
form_seen (open_form.Unary op e) = pure.unary op (tree e.value)
form_seen (open_form.Chain e ls) = pure.chain (tree e.value) (pure.links (map link ls.items))
form_seen (open_form.Call f es) = pure.call f (pure.trees (map tree es.items))
form_seen (open_form.GenCall f gs e) = pure.gen_call f (pure.gens (map generator gs.items)) (tree e.value)
form_seen (open_form.Access e es) = pure.access (tree e.value) (pure.trees (map tree es.items))
form_seen (open_form.Array es) = pure.array (pure.trees (map tree es.items))
form_seen (open_form.Rows rs) = pure.rows (pure.rows_of (map tree_row rs.items))
form_seen (open_form.Set es) = pure.set (pure.trees (map tree es.items))
form_seen (open_form.ArrayComp e gs) = pure.array_comp (tree e.value) (pure.gens (map generator gs.items))
form_seen (open_form.SetComp e gs) = pure.set_comp (tree e.value) (pure.gens (map generator gs.items))
form_seen (open_form.If bs e) = pure.choice (pure.branches (map branch bs.items)) (pure.maybe (option_map (λ x. tree x.value) e))
form_seen (open_form.Let ls e) = pure.let_in (pure.lets (map let_of ls.items)) (tree e.value)
form_seen open_form.Whole = pure.whole

abbrev pub let_seen : LetItem-F Form LetItem TextPart TypeBase Decl Expr Gen TypeText → Let
let_seen (open_form.Decl d) = pure.declared (declaration d)
let_seen (open_form.Constraint e) = pure.constrained (tree e)

abbrev pub part_seen : TextPart-F Form LetItem TextPart TypeBase Decl Expr Gen TypeText → Part
part_seen (open_form.Plain n) = pure.plain n
part_seen (open_form.Shown e) = pure.shown (tree e)

abbrev pub base_seen : TypeBase-F Form LetItem TextPart TypeBase Decl Expr Gen TypeText → Based
base_seen open_form.TypeBase::Bool = pure.base_bool
base_seen open_form.TypeBase::Int = pure.base_int
base_seen (open_form.Of e) = pure.base_of (tree e.value)
