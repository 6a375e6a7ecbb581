-- Parts of scoped models whose names are in the table of names.
use Rattle.std.proofs.Common.{◌≡◌, ◌∙◌, ℕ, ◌<◌, List, map, length, get_or, ap, sym, subst}
use Rattle.std.specs.Prelude.{All}
use Rattle.std.proofs.lemmas.List.{get_or-map, length-map}
use Rattle.mz_tree.specs.declared.expr.Decl.{Decl}
use Rattle.mz_tree.specs.declared.expr.Form.TheViews.{out-Decl}
use Rattle.mz_tree.specs.Tree as source
use Rattle.mz_tree.specs.Tree.{Declaration, Written}
use Rattle.mz_tree.specs.Views.{declaration, written}
use Rattle.mz_tree.proofs.Looks.{declaration_is}
use Rattle.mz_tree.specs.Kinds.{OfTree}
use Rattle.mz_scope_order.specs.Parts.{decl_at, function_at}
use Rattle.mz_scope_order.specs.Scoped.{ScopedTree}
use Rattle.mz_check_meaning.specs.Headings.{written_in}
use Rattle.mz_check_exprs.specs.Naming.{IsNamedType}
use Rattle.mz_check_exprs.specs.NamedModels.{IsNamedDeclaration, IsNamedFunction, AreNamed}

-- the type of a declaration
pub type_named : (k : ℕ) (d : Declaration) → IsNamedDeclaration k d → IsNamedType k (written_in d)
unfolding OfTree
type_named k (source.declaration t n s e) h = h.0

-- a declaration by its place
pub decl_named : (k d : ℕ) (s : ScopedTree) → AreNamed k s → d < length s.decls → IsNamedDeclaration k (decl_at s.decls d)
decl_named k d s h low = h.decls d _ low

pub function_named : (k f : ℕ) (s : ScopedTree) → AreNamed k s → f < length s.functions → IsNamedFunction k (function_at s.functions f)
function_named k f s h low = h.functions f _ low

-- a declaration of the code
written_declared : (d : Decl) → written_in (declaration d) ≡ written (out-Decl d).ty
written_declared d = ap written_in (declaration_is d)

pub written_named : (k : ℕ) (d : Decl) → IsNamedDeclaration k (declaration d) → IsNamedType k (written (out-Decl d).ty)
written_named k d h = subst (λ (t : Written). IsNamedType k t) (written_declared d) (type_named k (declaration d) h)

-- one of a list of the code
pub named_item : {A B : Type 0} (Q : B → Type 0) (see : A → B) (xs : List A) (i : ℕ) (x : A) → All Q (map see xs) → i < length xs → x ≡ get_or xs i x → Q (see x)
named_item Q see xs i x h low is =
    subst Q (get_or-map see xs i x (see x) low ∙ ap see (sym is)) (h i (see x) (subst (λ (n : ℕ). i < n) (sym (length-map xs see)) low))
