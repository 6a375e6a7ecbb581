-- Trees all of whose names are in the table of names: what may be typed.
use Rattle.std.specs.Prelude.{ℕ, ◌<◌, List, Option, Some, None, All}
use Rattle.std.specs.Option.{option_map}
use Rattle.mz_tree.specs.declared.expr.Expr.{Expr}
use Rattle.mz_tree.specs.declared.expr.Form.{Form, Form-F}
use Rattle.mz_tree.specs.declared.expr.LetItem.{LetItem, LetItem-F}
use Rattle.mz_tree.specs.declared.expr.TextPart.{TextPart, TextPart-F}
use Rattle.mz_tree.specs.declared.expr.TypeBase.{TypeBase, TypeBase-F}
use Rattle.mz_tree.specs.declared.expr.Decl.{Decl}
use Rattle.mz_tree.specs.declared.expr.Gen.{Gen}
use Rattle.mz_tree.specs.declared.expr.TypeText.{TypeText}
use Rattle.mz_tree.specs.declared.expr.Form.TheOpen as open_form
use Rattle.mz_tree.specs.declared.expr.Form.TheViews.{out-LetItem, out-TextPart, out-TypeBase, out-Decl, out-Gen, out-TypeText}
use Rattle.mz_tree.specs.Tree.{Tree, Written}
use Rattle.mz_tree.specs.Views.{tree}
use Rattle.mz_tree.specs.Kinds.{OfTree, OfWritten}

-- each name of a tree is below this number
abbrev pub IsNamed : ℕ → Tree → Type 0
IsNamed k e = OfTree (λ n. n < k) (λ s. Unit {0}) e

abbrev pub IsNamedType : ℕ → Written → Type 0
IsNamedType k t = OfWritten (λ n. n < k) (λ s. Unit {0}) t

-- by layers: private clauses only

abbrev pub IsNamedExpression : ℕ → Expr → Type 0
IsNamedExpression k e = IsNamed k (tree e)

abbrev pub IsNamedMaybe : ℕ → Option Expr → Type 0
IsNamedMaybe k None = Unit {0}
IsNamedMaybe k (Some e) = IsNamedExpression k e

abbrev pub IsNamedPiece : ℕ → TextPart-F Form LetItem TextPart TypeBase Decl Expr Gen TypeText → Type 0
IsNamedPiece k (open_form.Plain n) = Unit {0}
IsNamedPiece k (open_form.Shown e) = IsNamedExpression k e

abbrev pub IsNamedGen : ℕ → Gen → Type 0
IsNamedGen k g = let u = out-Gen g in IsNamedExpression k u.set × IsNamedMaybe k u.cond

abbrev pub IsNamedBase : ℕ → TypeBase-F Form LetItem TextPart TypeBase Decl Expr Gen TypeText → Type 0
IsNamedBase k open_form.TypeBase::Bool = Unit {0}
IsNamedBase k open_form.TypeBase::Int = Unit {0}
IsNamedBase k (open_form.Of e) = IsNamedExpression k e.value

abbrev pub IsNamedDims : ℕ → Option (List TypeBase) → Type 0
IsNamedDims k None = Unit {0}
IsNamedDims k (Some bs) = All (λ b. IsNamedBase k (out-TypeBase b)) bs

abbrev pub IsNamedWritten : ℕ → TypeText → Type 0
IsNamedWritten k t = let u = out-TypeText t in IsNamedDims k (option_map (λ v. v.items) u.dims) × IsNamedBase k (out-TypeBase u.base)

abbrev pub IsNamedDecl : ℕ → Decl → Type 0
IsNamedDecl k d = let u = out-Decl d in IsNamedWritten k u.ty × IsNamedMaybe k u.value

abbrev pub IsNamedItem : ℕ → LetItem-F Form LetItem TextPart TypeBase Decl Expr Gen TypeText → Type 0
IsNamedItem k (open_form.Decl d) = IsNamedDecl k d
IsNamedItem k (open_form.Constraint e) = IsNamedExpression k e

abbrev pub IsNamedForm : ℕ → Form-F Form LetItem TextPart TypeBase Decl Expr Gen TypeText → Type 0
IsNamedForm k (open_form.Form::Int n) = Unit {0}
IsNamedForm k (open_form.Form::Bool b) = Unit {0}
IsNamedForm k open_form.Absent = Unit {0}
IsNamedForm k (open_form.Text n) = Unit {0}
IsNamedForm k (open_form.Ident n) = Unit {0}
IsNamedForm k (open_form.Interp ps) = All (λ p. IsNamedPiece k (out-TextPart p)) ps.items
IsNamedForm k (open_form.Unary o e) = IsNamedExpression k e.value
IsNamedForm k (open_form.Chain e os) = IsNamedExpression k e.value × All (λ o. IsNamedExpression k o.1) os.items
IsNamedForm k (open_form.Call n es) = All (IsNamedExpression k) es.items
IsNamedForm k (open_form.GenCall n gs e) = IsNamedExpression k e.value × All (IsNamedGen k) gs.items
IsNamedForm k (open_form.Access e es) = IsNamedExpression k e.value × All (IsNamedExpression k) es.items
IsNamedForm k (open_form.Array es) = All (IsNamedExpression k) es.items
IsNamedForm k (open_form.Rows rs) = All (λ r. All (IsNamedExpression k) r.items) rs.items
IsNamedForm k (open_form.Set es) = All (IsNamedExpression k) es.items
IsNamedForm k (open_form.ArrayComp e gs) = IsNamedExpression k e.value × All (IsNamedGen k) gs.items
IsNamedForm k (open_form.SetComp e gs) = IsNamedExpression k e.value × All (IsNamedGen k) gs.items
IsNamedForm k (open_form.If bs e) = All (λ b. IsNamedExpression k b.0 × IsNamedExpression k b.1) bs.items × IsNamedMaybe k (option_map (λ x. x.value) e)
IsNamedForm k (open_form.Let ls e) = All (λ l. IsNamedItem k (out-LetItem l)) ls.items × IsNamedExpression k e.value
IsNamedForm k open_form.Whole = Unit {0}

-- the name that a call calls
abbrev pub IsNamedCallee : ℕ → Form-F Form LetItem TextPart TypeBase Decl Expr Gen TypeText → Type 0
IsNamedCallee k (open_form.Call n es) = n < k
IsNamedCallee k (open_form.GenCall n gs e) = n < k
IsNamedCallee k f = Unit {0}
