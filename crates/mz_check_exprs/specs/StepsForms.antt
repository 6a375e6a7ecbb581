-- How each part of the code's trees is typed, by its layer. Mirror of src/; private clauses only.
use Rattle.std.specs.Prelude.{ℕ, true, false, List, [], ◌∷◌, ◌++◌, Option, Some, None, map, Ok}
use Rattle.std.specs.Option.{option_map}
use Rattle.mz_base.specs.declared.fault.Span.{Span}
use Rattle.mz_base.specs.declared.kind.Kind.TheVariants as kind
use Rattle.mz_core.specs.Tree as typed
use Rattle.mz_core.specs.Tree.{DeclaredType, declares}
use Rattle.mz_tree.specs.declared.expr.Expr.{Expr}
use Rattle.mz_tree.specs.declared.expr.Form.{Form, Form-F}
use Rattle.mz_tree.specs.declared.expr.LetItem.{LetItem, LetItem-F}
use Rattle.mz_tree.specs.declared.expr.TextPart.{TextPart, TextPart-F}
use Rattle.mz_tree.specs.declared.expr.TypeBase.{TypeBase, TypeBase-F}
use Rattle.mz_tree.specs.declared.expr.Decl.{Decl}
use Rattle.mz_tree.specs.declared.expr.Gen.{Gen}
use Rattle.mz_tree.specs.declared.expr.TypeText.{TypeText}
use Rattle.mz_tree.specs.declared.expr.PlacedOp.{PlacedOp}
use Rattle.mz_tree.specs.declared.expr.Form.TheOpen as open_form
use Rattle.mz_tree.specs.declared.expr.Form.TheViews.{out-LetItem, out-TextPart, out-TypeBase, out-Decl, out-Gen, out-TypeText}
use Rattle.mz_tree.specs.Views.{tree, written}
use Rattle.mz_check_meaning.specs.Tests.{Test, ◌>>=◌, ◌>>◌, refuse}
use Rattle.mz_check_meaning.specs.Models.{Model, Env, bind}
use Rattle.mz_check_meaning.specs.Coerced.{bool_type, int_type, text_type, absent_type}
use Rattle.mz_check_meaning.specs.Names.{named}
use Rattle.mz_check_meaning.specs.Lets.{new_name, decl_of}
use Rattle.mz_check_meaning.specs.Calls.{applied}
use Rattle.mz_check_meaning.specs.Comprehensions.{running_type, bind_names, comprehended}
use Rattle.mz_check_meaning.specs.Arrays.{accessed}
use Rattle.mz_tree.specs.Tree.{Name}
use Rattle.mz_check_meaning.specs.WrittenTypes.{Based, of_bool, of_int, of_set}
use Rattle.mz_check_meaning.specs.Forms.{parts, maybe_part, Generated, Check, GenCheck, LetCheck, declares_by, constrains_by, PieceCheck, plain_by, shown_by, unary_of, chain_of, call_of, gen_call_of, array_of, rows_of, set_of, access_of, choice_of, comp_of, let_of, text_of, written_of, Declared, local_value}
use Rattle.mz_check_meaning.specs.Typing.{check, check_written}

abbrev pub expression : Model → Expr → Check
expression m e = check m (tree e)

abbrev pub maybe_expression : Model → Option Expr → Option Check
maybe_expression m e = option_map (expression m) e

abbrev pub operand_by : Model → PlacedOp × Expr → PlacedOp × Check
operand_by m o = (o.0, expression m o.1)

abbrev pub branch_by : Model → Expr × Expr → Check × Check
branch_by m b = (expression m b.0, expression m b.1)

abbrev pub piece_layer : Model → TextPart-F Form LetItem TextPart TypeBase Decl Expr Gen TypeText → PieceCheck
piece_layer m (open_form.Plain n) = plain_by n
piece_layer m (open_form.Shown e) = shown_by (expression m e)

abbrev pub piece_by : Model → TextPart → PieceCheck
piece_by m p = piece_layer m (out-TextPart p)

abbrev pub gen_by : Model → Gen → GenCheck
gen_by m g = let u = out-Gen g in record { names = u.names.items; set = expression m u.set; cond = maybe_expression m u.cond }

abbrev pub base_layer : Model → TypeBase-F Form LetItem TextPart TypeBase Decl Expr Gen TypeText → Based Check
base_layer m open_form.TypeBase::Bool = of_bool
base_layer m open_form.TypeBase::Int = of_int
base_layer m (open_form.Of e) = of_set (expression m e.value)

abbrev pub base_by : Model → TypeBase → Based Check
base_by m b = base_layer m (out-TypeBase b)

abbrev pub dims_by : Model → Option (List TypeBase) → List (Based Check)
dims_by m None = []
dims_by m (Some bs) = map (base_by m) bs

abbrev pub type_by : Model → TypeText → Env → Test DeclaredType
type_by m t env = let u = out-TypeText t in written_of u.span u.var u.opt u.set (dims_by m (option_map (λ v. v.items) u.dims)) (base_by m u.base) env

abbrev pub decl_by : Model → Decl → LetCheck
decl_by m d = let u = out-Decl d in declares_by (check_written m (written u.ty)) u.name u.span (maybe_expression m u.value)

-- one more declaration of a let
abbrev pub local_next : Model → ℕ → Declared → Decl → Test Declared
local_next m start acc d = let u = out-Decl d in do
  t ← type_by m u.ty acc.env
  new_name start u.name u.span acc.env
  v ← local_value u.span t.ty (maybe_expression m u.value) acc.env
  Ok (record { items = acc.items ++ declares (decl_of acc.env u.name u.span t v) ∷ []; env = bind u.name t.ty acc.env })

abbrev pub item_layer : Model → LetItem-F Form LetItem TextPart TypeBase Decl Expr Gen TypeText → LetCheck
item_layer m (open_form.Decl d) = decl_by m d
item_layer m (open_form.Constraint e) = constrains_by (expression m e)

abbrev pub item_by : Model → LetItem → LetCheck
item_by m l = item_layer m (out-LetItem l)

abbrev pub form_layer : Model → Form-F Form LetItem TextPart TypeBase Decl Expr Gen TypeText → Span → Check
form_layer m (open_form.Form::Int n) at env = Ok (typed.node at int_type (typed.int n))
form_layer m (open_form.Form::Bool b) at env = Ok (typed.node at bool_type (typed.bool b))
form_layer m open_form.Absent at env = Ok (typed.node at absent_type typed.absent)
form_layer m (open_form.Text n) at env = Ok (typed.node at text_type (typed.text n))
form_layer m (open_form.Ident n) at env = named m env at n
form_layer m (open_form.Interp ps) at env = text_of at (map (piece_by m) ps.items) env
form_layer m (open_form.Unary o e) at env = unary_of at o (expression m e.value) env
form_layer m (open_form.Chain e os) at env = chain_of at (expression m e.value) (map (operand_by m) os.items) env
form_layer m (open_form.Call n es) at env = call_of m at n (map (expression m) es.items) env
form_layer m (open_form.GenCall n gs e) at env = gen_call_of m at n (map (gen_by m) gs.items) (expression m e.value) env
form_layer m (open_form.Access e es) at env = access_of at (expression m e.value) (map (expression m) es.items) env
form_layer m (open_form.Array es) at env = array_of at (map (expression m) es.items) env
form_layer m (open_form.Rows rs) at env = rows_of at (map (λ r. map (expression m) r.items) rs.items) env
form_layer m (open_form.Set es) at env = set_of at (map (expression m) es.items) env
form_layer m (open_form.ArrayComp e gs) at env = comp_of at false (map (gen_by m) gs.items) (expression m e.value) env
form_layer m (open_form.SetComp e gs) at env = comp_of at true (map (gen_by m) gs.items) (expression m e.value) env
form_layer m (open_form.If bs e) at env = choice_of at (map (branch_by m) bs.items) (option_map (λ x. expression m x.value) e) env
form_layer m (open_form.Let ls e) at env = let_of at (map (item_by m) ls.items) (expression m e.value) env
form_layer m open_form.Whole at env = refuse kind.LeftOut at

-- a call of a name with a comprehension
abbrev pub called_over : Model → Span → Name → List typed.Gen → typed.Tree → Test typed.Tree
called_over m at n gs e = comprehended at false gs e >>= λ c. applied m at n (c ∷ [])

-- one more generator, after its set
abbrev pub gen_after : ℕ → Generated → GenCheck → typed.Tree → Test Generated
gen_after start acc g s = do
  t ← running_type s
  b ← bind_names start t g.names acc.env
  c ← maybe_part g.cond b.env
  Ok (record { gens = acc.gens ++ record { slots = b.slots; set = s; cond = c } ∷ []; env = b.env })

-- an access of a typed tree
abbrev pub accessed_by : Span → typed.Tree → List Check → Check
accessed_by at e gos env = parts gos env >>= λ es. accessed at e es
