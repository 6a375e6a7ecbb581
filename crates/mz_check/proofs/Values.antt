-- The values of declarations, which may be none.
use Rattle.std.proofs.Common.{◌≡◌, ℕ, Option, Some, None, refl}
use Rattle.std.specs.Option.{option_map}
use Rattle.mz_base.specs.declared.fault.Span.{Span}
use Rattle.mz_tree.specs.declared.expr.Form.TheViews.{out-Decl}
use Rattle.mz_tree.specs.Tree as source
use Rattle.mz_tree.specs.Tree.{Name, Tree, Written}
use Rattle.mz_tree.specs.Kinds.{OfTree}
use Rattle.mz_tree.specs.Views.{written}
use Rattle.mz_scope_order.specs.declared.scoped.ScopedDecl.{ScopedDecl}
use Rattle.mz_scope_order.specs.Scoped.{scoped_decl, lent_tree}
use Rattle.mz_check_meaning.specs.Checks.{value_place}
use Rattle.mz_check_exprs.specs.NamedModels.{IsNamedDeclaration}
use Rattle.mz_check.specs.StepsParts.{IsNamedValue, place_or}

named_case : (k : ℕ) (t : Written) (n : Name) (at : Span) (o : Option Tree) → IsNamedDeclaration k (source.declaration t n at (source.maybe o)) → IsNamedValue k o
unfolding OfTree
named_case k t n at None h = tt
named_case k t n at (Some e) h = h.3

pub value_named : (k : ℕ) (d : ScopedDecl) → IsNamedDeclaration k (scoped_decl d) → IsNamedValue k (option_map lent_tree d.value)
value_named k d h = named_case k (written (out-Decl d.decl.now).ty) (out-Decl d.decl.now).name (out-Decl d.decl.now).span (option_map lent_tree d.value) h

place_case : (t : Written) (n : Name) (at : Span) (o : Option Tree) → value_place (source.declaration t n at (source.maybe o)) ≡ place_or at o
place_case t n at None = refl
place_case t n at (Some e) = refl

pub place_is : (d : ScopedDecl) → value_place (scoped_decl d) ≡ place_or (out-Decl d.decl.now).span (option_map lent_tree d.value)
place_is d = place_case (written (out-Decl d.decl.now).ty) (out-Decl d.decl.now).name (out-Decl d.decl.now).span (option_map lent_tree d.value)
