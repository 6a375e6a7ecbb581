-- Where all names of a tree are in the table, so are those of its parts.
use Rattle.std.proofs.Common.{ℕ, ◌<◌, List, [], ◌∷◌, Option, Some, None, Vec, Global, map, subst}
use Rattle.std.specs.Prelude.{All}
use Rattle.std.specs.Option.{option_map}
use Rattle.std.proofs.lemmas.List.Elements.{All-nil, All-cons}
use Rattle.mz_base.specs.declared.fault.Span.{Span}
use Rattle.mz_tree.specs.declared.expr.Expr.{Expr}
use Rattle.mz_tree.specs.declared.expr.Form.{Form, Form-F}
use Rattle.mz_tree.specs.declared.expr.LetItem.{LetItem, LetItem-F}
use Rattle.mz_tree.specs.declared.expr.TextPart.{TextPart, TextPart-F}
use Rattle.mz_tree.specs.declared.expr.TypeBase.{TypeBase, TypeBase-F}
use Rattle.mz_tree.specs.declared.expr.Decl.{Decl}
use Rattle.mz_tree.specs.declared.expr.Gen.{Gen}
use Rattle.mz_tree.specs.declared.expr.TypeText.{TypeText}
use Rattle.mz_tree.specs.declared.expr.PlacedOp.{PlacedOp}
use Rattle.mz_tree.specs.declared.expr.Form.TheOpen as open_form
use Rattle.mz_tree.specs.declared.expr.Form.TheViews.{out-Form, out-LetItem, out-TextPart, out-TypeBase, out-Decl, out-Gen, out-TypeText}
use Rattle.mz_tree.specs.Tree as pure
use Rattle.mz_tree.specs.Tree.{Name, Rows, Let}
use Rattle.mz_tree.specs.Kinds.{OfTree, OfShape, OfMaybe, OfTrees, OfLinks, OfRows, OfBranches, OfPart, OfParts, OfGenerator, OfGens, OfLet, OfLets, OfDeclaration, OfWritten, OfBased, OfDims, OfBases}
use Rattle.mz_tree.specs.Views.{tree, part, generator, let_of, declaration, written, based, link, branch, tree_row, form_seen, let_seen, part_seen, base_seen}
use Rattle.mz_tree.proofs.Looks.{tree_is, shape_is, let_is, part_is, base_is, declaration_is, generator_is, written_is}
use Rattle.mz_check_exprs.specs.Naming.{IsNamed, IsNamedType, IsNamedExpression, IsNamedMaybe, IsNamedPiece, IsNamedGen, IsNamedBase, IsNamedDims, IsNamedWritten, IsNamedDecl, IsNamedItem, IsNamedForm, IsNamedCallee}

module _ (k : ℕ) where
  abbrev N : Name → Type 0
  N n = n < k

  abbrev P : Span → Type 0
  P s = Unit {0}

  maybe_named : (o : Option Expr) → OfMaybe N P (pure.maybe (option_map tree o)) → IsNamedMaybe k o
  unfolding OfTree
  maybe_named None h = tt
  maybe_named (Some e) h = h

  trees_named : (es : List Expr) → OfTrees N P (pure.trees (map tree es)) → All (IsNamedExpression k) es
  unfolding OfTree
  trees_named [] h = All-nil (IsNamedExpression k)
  trees_named (e ∷ es) h = All-cons (IsNamedExpression k) e es h.0 (trees_named es h.1)

  links_named : (os : List (PlacedOp × Expr)) → OfLinks N P (pure.links (map link os)) → All (λ o. IsNamedExpression k o.1) os
  unfolding OfTree
  links_named [] h = All-nil (λ o. IsNamedExpression k o.1)
  links_named (o ∷ os) h = All-cons (λ o. IsNamedExpression k o.1) o os h.1 (links_named os h.2)

  rows_named : (rs : List (Vec Expr Global)) → OfRows N P (pure.rows_of (map tree_row rs)) → All (λ r. All (IsNamedExpression k) r.items) rs
  unfolding OfTree
  rows_named [] h = All-nil (λ r. All (IsNamedExpression k) r.items)
  rows_named (r ∷ rs) h = All-cons (λ r. All (IsNamedExpression k) r.items) r rs (trees_named r.items h.0) (rows_named rs h.1)

  branches_named : (bs : List (Expr × Expr)) → OfBranches N P (pure.branches (map branch bs)) → All (λ b. IsNamedExpression k b.0 × IsNamedExpression k b.1) bs
  unfolding OfTree
  branches_named [] h = All-nil (λ b. IsNamedExpression k b.0 × IsNamedExpression k b.1)
  branches_named (b ∷ bs) h = All-cons (λ b. IsNamedExpression k b.0 × IsNamedExpression k b.1) b bs (h.0, h.1) (branches_named bs h.2)

  piece_layer_named : (p : TextPart-F Form LetItem TextPart TypeBase Decl Expr Gen TypeText) → OfPart N P (part_seen p) → IsNamedPiece k p
  unfolding OfTree
  piece_layer_named (open_form.Plain n) h = tt
  piece_layer_named (open_form.Shown e) h = h

  pieces_named : (ps : List TextPart) → OfParts N P (pure.parts (map part ps)) → All (λ p. IsNamedPiece k (out-TextPart p)) ps
  unfolding OfTree
  pieces_named [] h = All-nil (λ p. IsNamedPiece k (out-TextPart p))
  pieces_named (p ∷ ps) h = All-cons (λ p. IsNamedPiece k (out-TextPart p)) p ps (piece_layer_named (out-TextPart p) (subst (OfPart N P) (part_is p) h.0)) (pieces_named ps h.1)

  gen_named : (g : Gen) → OfGenerator N P (generator g) → IsNamedGen k g
  unfolding OfTree
  gen_named g h =
      let q = subst (OfGenerator N P) (generator_is g) h in (q.1, maybe_named (out-Gen g).cond q.2)

  gens_named : (gs : List Gen) → OfGens N P (pure.gens (map generator gs)) → All (IsNamedGen k) gs
  unfolding OfTree
  gens_named [] h = All-nil (IsNamedGen k)
  gens_named (g ∷ gs) h = All-cons (IsNamedGen k) g gs (gen_named g h.0) (gens_named gs h.1)

  base_layer_named : (b : TypeBase-F Form LetItem TextPart TypeBase Decl Expr Gen TypeText) → OfBased N P (base_seen b) → IsNamedBase k b
  unfolding OfTree
  base_layer_named open_form.TypeBase::Bool h = tt
  base_layer_named open_form.TypeBase::Int h = tt
  base_layer_named (open_form.Of e) h = h

  base_named : (b : TypeBase) → OfBased N P (based b) → IsNamedBase k (out-TypeBase b)
  base_named b h = base_layer_named (out-TypeBase b) (subst (OfBased N P) (base_is b) h)

  bases_named : (bs : List TypeBase) → OfBases N P (pure.bases (map based bs)) → All (λ b. IsNamedBase k (out-TypeBase b)) bs
  unfolding OfTree
  bases_named [] h = All-nil (λ b. IsNamedBase k (out-TypeBase b))
  bases_named (b ∷ bs) h = All-cons (λ b. IsNamedBase k (out-TypeBase b)) b bs (base_named b h.0) (bases_named bs h.1)

  dims_named : (ds : Option (Vec TypeBase Global)) → OfDims N P (pure.dims (option_map (λ v. map based v.items) ds)) → IsNamedDims k (option_map (λ v. v.items) ds)
  unfolding OfTree
  dims_named None h = tt
  dims_named (Some v) h = bases_named v.items h

  pub type_named : (t : TypeText) → IsNamedType k (written t) → IsNamedWritten k t
  unfolding OfTree
  type_named t h =
      let q = subst (OfWritten N P) (written_is t) h in (dims_named (out-TypeText t).dims q.1, base_named (out-TypeText t).base q.2)

  decl_named : (d : Decl) → OfDeclaration N P (declaration d) → IsNamedDecl k d
  unfolding OfTree
  decl_named d h =
      let q = subst (OfDeclaration N P) (declaration_is d) h in (type_named (out-Decl d).ty q.0, maybe_named (out-Decl d).value q.3)

  item_layer_named : (l : LetItem-F Form LetItem TextPart TypeBase Decl Expr Gen TypeText) → OfLet N P (let_seen l) → IsNamedItem k l
  unfolding OfTree
  item_layer_named (open_form.Decl d) h = decl_named d h
  item_layer_named (open_form.Constraint e) h = h

  items_named : (ls : List LetItem) → OfLets N P (pure.lets (map let_of ls)) → All (λ l. IsNamedItem k (out-LetItem l)) ls
  unfolding OfTree
  items_named [] h = All-nil (λ l. IsNamedItem k (out-LetItem l))
  items_named (l ∷ ls) h = All-cons (λ l. IsNamedItem k (out-LetItem l)) l ls (item_layer_named (out-LetItem l) (subst (OfLet N P) (let_is l) h.0)) (items_named ls h.1)

  form_named : (f : Form-F Form LetItem TextPart TypeBase Decl Expr Gen TypeText) → OfShape N P (form_seen f) → IsNamedForm k f
  unfolding OfTree
  form_named (open_form.Form::Int n) h = tt
  form_named (open_form.Form::Bool b) h = tt
  form_named open_form.Absent h = tt
  form_named (open_form.Text n) h = tt
  form_named (open_form.Ident n) h = tt
  form_named (open_form.Interp ps) h = pieces_named ps.items h
  form_named (open_form.Unary o e) h = h
  form_named (open_form.Chain e os) h = (h.0, links_named os.items h.1)
  form_named (open_form.Call n es) h = trees_named es.items h.1
  form_named (open_form.GenCall n gs e) h = (h.2, gens_named gs.items h.1)
  form_named (open_form.Access e es) h = (h.0, trees_named es.items h.1)
  form_named (open_form.Array es) h = trees_named es.items h
  form_named (open_form.Rows rs) h = rows_named rs.items h
  form_named (open_form.Set es) h = trees_named es.items h
  form_named (open_form.ArrayComp e gs) h = (h.0, gens_named gs.items h.1)
  form_named (open_form.SetComp e gs) h = (h.0, gens_named gs.items h.1)
  form_named (open_form.If bs None) h = (branches_named bs.items h.0, tt)
  form_named (open_form.If bs (Some e)) h = (branches_named bs.items h.0, h.1)
  form_named (open_form.Let ls e) h = (items_named ls.items h.0, h.1)
  form_named open_form.Whole h = tt

  pub expression_named : (e : Expr) → IsNamed k (tree e) → IsNamedForm k (out-Form e.form)
  unfolding OfTree
  expression_named e h =
      let q = subst (OfTree N P) (tree_is e) h in form_named (out-Form e.form) (subst (OfShape N P) (shape_is e.form) q.1)

  callee_named : (f : Form-F Form LetItem TextPart TypeBase Decl Expr Gen TypeText) → OfShape N P (form_seen f) → IsNamedCallee k f
  unfolding OfTree
  callee_named (open_form.Call n es) h = h.0
  callee_named (open_form.GenCall n gs e) h = h.0
  callee_named f h = tt

  pub expression_callee_named : (e : Expr) → IsNamed k (tree e) → IsNamedCallee k (out-Form e.form)
  unfolding OfTree
  expression_callee_named e h =
      let q = subst (OfTree N P) (tree_is e) h in callee_named (out-Form e.form) (subst (OfShape N P) (shape_is e.form) q.1)
