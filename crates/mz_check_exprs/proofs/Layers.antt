-- The definition of typing goes by the layers of the code's trees.
use Rattle.std.proofs.Common.{◌≡◌, ◌∙◌, ℕ, true, false, List, [], ◌∷◌, Option, Some, None, Vec, Global, map, refl, ap}
use Rattle.std.specs.Option.{option_map}
use Rattle.mz_base.specs.declared.fault.Span.{Span}
use Rattle.mz_tree.specs.declared.expr.Expr.{Expr}
use Rattle.mz_tree.specs.declared.expr.Form.{Form, Form-F}
use Rattle.mz_tree.specs.declared.expr.LetItem.{LetItem, LetItem-F}
use Rattle.mz_tree.specs.declared.expr.TextPart.{TextPart, TextPart-F}
use Rattle.mz_tree.specs.declared.expr.TypeBase.{TypeBase, TypeBase-F}
use Rattle.mz_tree.specs.declared.expr.Decl.{Decl}
use Rattle.mz_tree.specs.declared.expr.Gen.{Gen}
use Rattle.mz_tree.specs.declared.expr.TypeText.{TypeText}
use Rattle.mz_tree.specs.declared.expr.PlacedOp.{PlacedOp}
use Rattle.mz_tree.specs.declared.expr.Form.TheOpen as open_form
use Rattle.mz_tree.specs.declared.expr.Form.TheViews.{out-Form, out-LetItem, out-TextPart, out-TypeBase, out-Decl, out-Gen, out-TypeText}
use Rattle.mz_tree.specs.Tree as pure
use Rattle.mz_tree.specs.Views.{tree, part, generator, let_of, declaration, written, based, link, branch, tree_row, form_seen, let_seen, part_seen, base_seen}
use Rattle.mz_tree.proofs.Looks.{tree_is, shape_is, let_is, part_is, base_is, declaration_is, generator_is, written_is}
use Rattle.mz_check_meaning.specs.Models.{Model, Env}
use Rattle.mz_check_meaning.specs.Forms.{declares_by, text_of, chain_of, call_of, gen_call_of, access_of, array_of, rows_of, set_of, comp_of, choice_of, let_of as let_by, written_of, Declared, let_next}
use Rattle.mz_check_meaning.specs.Typing.{check, check_form, check_maybe, checks, check_links, check_rows, check_branches, check_piece, check_pieces, check_gen, check_gens, check_let, check_lets, check_declaration, check_written, check_based, check_dims, check_bases}
use Rattle.mz_check_exprs.specs.StepsForms.{expression, maybe_expression, operand_by, branch_by, piece_layer, piece_by, gen_by, base_layer, base_by, dims_by, type_by, decl_by, local_next, item_layer, item_by, form_layer}

maybe_checked : (m : Model) (o : Option Expr) → check_maybe m (pure.maybe (option_map tree o)) ≡ maybe_expression m o
unfolding check
maybe_checked m None = refl
maybe_checked m (Some e) = refl

trees_checked : (m : Model) (es : List Expr) → checks m (pure.trees (map tree es)) ≡ map (expression m) es
unfolding check
trees_checked m [] = refl
trees_checked m (e ∷ es) = ap (λ cs. expression m e ∷ cs) (trees_checked m es)

links_checked : (m : Model) (os : List (PlacedOp × Expr)) → check_links m (pure.links (map link os)) ≡ map (operand_by m) os
unfolding check
links_checked m [] = refl
links_checked m (o ∷ os) = ap (λ cs. operand_by m o ∷ cs) (links_checked m os)

rows_checked : (m : Model) (rs : List (Vec Expr Global)) → check_rows m (pure.rows_of (map tree_row rs)) ≡ map (λ r. map (expression m) r.items) rs
unfolding check
rows_checked m [] = refl
rows_checked m (r ∷ rs) = rw (trees_checked m r.items, rows_checked m rs) refl

branches_checked : (m : Model) (bs : List (Expr × Expr)) → check_branches m (pure.branches (map branch bs)) ≡ map (branch_by m) bs
unfolding check
branches_checked m [] = refl
branches_checked m (b ∷ bs) = ap (λ cs. branch_by m b ∷ cs) (branches_checked m bs)

piece_seen : (m : Model) (p : TextPart-F Form LetItem TextPart TypeBase Decl Expr Gen TypeText) → check_piece m (part_seen p) ≡ piece_layer m p
unfolding check
piece_seen m (open_form.Plain n) = refl
piece_seen m (open_form.Shown e) = refl

piece_checked : (m : Model) (p : TextPart) → check_piece m (part p) ≡ piece_by m p
piece_checked m p = ap (check_piece m) (part_is p) ∙ piece_seen m (out-TextPart p)

pieces_checked : (m : Model) (ps : List TextPart) → check_pieces m (pure.parts (map part ps)) ≡ map (piece_by m) ps
unfolding check
pieces_checked m [] = refl
pieces_checked m (p ∷ ps) = rw (piece_checked m p, pieces_checked m ps) refl

gen_checked : (m : Model) (g : Gen) → check_gen m (generator g) ≡ gen_by m g
unfolding check
gen_checked m g = let u = out-Gen g in ap (check_gen m) (generator_is g) ∙ ap (λ c. record { names = u.names.items; set = expression m u.set; cond = c }) (maybe_checked m u.cond)

gens_checked : (m : Model) (gs : List Gen) → check_gens m (pure.gens (map generator gs)) ≡ map (gen_by m) gs
unfolding check
gens_checked m [] = refl
gens_checked m (g ∷ gs) = rw (gen_checked m g, gens_checked m gs) refl

decl_checked : (m : Model) (d : Decl) → check_declaration m (declaration d) ≡ decl_by m d
unfolding check
decl_checked m d = let u = out-Decl d in ap (check_declaration m) (declaration_is d) ∙ ap (λ c. declares_by (check_written m (written u.ty)) u.name u.span c) (maybe_checked m u.value)

item_seen : (m : Model) (l : LetItem-F Form LetItem TextPart TypeBase Decl Expr Gen TypeText) → check_let m (let_seen l) ≡ item_layer m l
unfolding check
item_seen m (open_form.Decl d) = decl_checked m d
item_seen m (open_form.Constraint e) = refl

item_checked : (m : Model) (l : LetItem) → check_let m (let_of l) ≡ item_by m l
item_checked m l = ap (check_let m) (let_is l) ∙ item_seen m (out-LetItem l)

items_checked : (m : Model) (ls : List LetItem) → check_lets m (pure.lets (map let_of ls)) ≡ map (item_by m) ls
unfolding check
items_checked m [] = refl
items_checked m (l ∷ ls) = rw (item_checked m l, items_checked m ls) refl

base_of_layer : (m : Model) (b : TypeBase-F Form LetItem TextPart TypeBase Decl Expr Gen TypeText) → check_based m (base_seen b) ≡ base_layer m b
unfolding check
base_of_layer m open_form.TypeBase::Bool = refl
base_of_layer m open_form.TypeBase::Int = refl
base_of_layer m (open_form.Of e) = refl

base_checked : (m : Model) (b : TypeBase) → check_based m (based b) ≡ base_by m b
base_checked m b = ap (check_based m) (base_is b) ∙ base_of_layer m (out-TypeBase b)

bases_checked : (m : Model) (bs : List TypeBase) → check_bases m (pure.bases (map based bs)) ≡ map (base_by m) bs
unfolding check
bases_checked m [] = refl
bases_checked m (b ∷ bs) = rw (base_checked m b, bases_checked m bs) refl

dims_checked : (m : Model) (ds : Option (Vec TypeBase Global)) → check_dims m (pure.dims (option_map (λ v. map based v.items) ds)) ≡ dims_by m (option_map (λ v. v.items) ds)
unfolding check
dims_checked m None = refl
dims_checked m (Some v) = bases_checked m v.items

-- a written type, by its layer
pub type_is : (m : Model) (t : TypeText) (env : Env) → check_written m (written t) env ≡ type_by m t env
unfolding check
type_is m t env =
    let u = out-TypeText t in
    ap (λ w. check_written m w env) (written_is t)
    ∙ ap (λ ds. written_of u.span u.var u.opt u.set ds (check_based m (based u.base)) env) (dims_checked m u.dims)
    ∙ ap (λ b. written_of u.span u.var u.opt u.set (dims_by m (option_map (λ v. v.items) u.dims)) b env) (base_checked m u.base)

-- a declaration of a let, by its layer
pub local_is : (m : Model) (start : ℕ) (acc : Declared) (d : Decl) → let_next start acc (decl_by m d) ≡ local_next m start acc d
local_is m start acc d = rw (type_is m (out-Decl d).ty acc.env) refl

form_checked : (m : Model) (f : Form-F Form LetItem TextPart TypeBase Decl Expr Gen TypeText) (at : Span) (env : Env) → check_form m (form_seen f) at env ≡ form_layer m f at env
unfolding check
form_checked m (open_form.Form::Int n) at env = refl
form_checked m (open_form.Form::Bool b) at env = refl
form_checked m open_form.Absent at env = refl
form_checked m (open_form.Text n) at env = refl
form_checked m (open_form.Ident n) at env = refl
form_checked m (open_form.Interp ps) at env = ap (λ x. text_of at x env) (pieces_checked m ps.items)
form_checked m (open_form.Unary o e) at env = refl
form_checked m (open_form.Chain e os) at env = ap (λ x. chain_of at (expression m e.value) x env) (links_checked m os.items)
form_checked m (open_form.Call n es) at env = ap (λ x. call_of m at n x env) (trees_checked m es.items)
form_checked m (open_form.GenCall n gs e) at env = ap (λ x. gen_call_of m at n x (expression m e.value) env) (gens_checked m gs.items)
form_checked m (open_form.Access e es) at env = ap (λ x. access_of at (expression m e.value) x env) (trees_checked m es.items)
form_checked m (open_form.Array es) at env = ap (λ x. array_of at x env) (trees_checked m es.items)
form_checked m (open_form.Rows rs) at env = ap (λ x. rows_of at x env) (rows_checked m rs.items)
form_checked m (open_form.Set es) at env = ap (λ x. set_of at x env) (trees_checked m es.items)
form_checked m (open_form.ArrayComp e gs) at env = ap (λ x. comp_of at false x (expression m e.value) env) (gens_checked m gs.items)
form_checked m (open_form.SetComp e gs) at env = ap (λ x. comp_of at true x (expression m e.value) env) (gens_checked m gs.items)
form_checked m (open_form.If bs None) at env = ap (λ x. choice_of at x None env) (branches_checked m bs.items)
form_checked m (open_form.If bs (Some e)) at env = ap (λ x. choice_of at x (Some (expression m e.value)) env) (branches_checked m bs.items)
form_checked m (open_form.Let ls e) at env = ap (λ x. let_by at x (expression m e.value) env) (items_checked m ls.items)
form_checked m open_form.Whole at env = refl

-- an expression, by its layer
pub expression_is : (m : Model) (e : Expr) (env : Env) → check m (tree e) env ≡ form_layer m (out-Form e.form) e.span env
unfolding check
expression_is m e env =
    ap (λ t. check m t env) (tree_is e ∙ ap (pure.node e.span) (shape_is e.form)) ∙ form_checked m (out-Form e.form) e.span env
