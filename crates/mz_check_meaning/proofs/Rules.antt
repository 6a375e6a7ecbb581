-- WHAT HOLDS OF EACH NODE THAT TYPING MAKES: it holds of each node that isn't made of another one, and of each coercion of such a node, of each
-- let whose par declarations have values, and of each text literal that is allowed. So it holds of all nodes that typing makes, by induction
-- over the forms (`Typed`).
use Rattle.std.proofs.Common.{◌≡◌, ℕ, Bool, true, false, List, [], ◌∷◌, refl}
use Rattle.std.specs.Prelude.{if◌then◌else◌}
use Rattle.mz_base.specs.declared.fault.Span.{Span}
use Rattle.mz_core.specs.declared.types.Coercion.{Coercion}
use Rattle.mz_core.specs.Types.{PlainType}
use Rattle.mz_core.specs.Coercions.{Coerces, PathLink, Leads, arrived, goes}
use Rattle.mz_core.specs.Order.{below}
use Rattle.mz_core.specs.Paths.{coercions}
use Rattle.mz_core.specs.Tree as tree
use Rattle.mz_core.specs.Tree.{Tree, Shape, Item, items, type_of}
use Rattle.mz_core.proofs.PathLaws.{coercions_lead}
use Rattle.mz_check_meaning.specs.Coerced.{coercions_to}
use Rattle.mz_check_meaning.specs.Lets.{HasValue}
use Rattle.mz_check_meaning.proofs.Giving.{AllBy}

-- a form that is neither a coercion, nor a let, nor a text literal
abbrev pub IsPlain : Shape → Type 0
IsPlain (tree.coerce c e) = ⊥
IsPlain (tree.let_in is e) = ⊥
IsPlain (tree.text n) = ⊥
IsPlain f = Unit {0}

pub record Rules : Type 1 where
  pub holds : Tree → Type 0
  pub allows : ℕ → Type 0
  pub plain : (at : Span) (t : PlainType) (f : Shape) → IsPlain f → holds (tree.node at t f)
  pub text : (at : Span) (t : PlainType) (n : ℕ) → allows n → holds (tree.node at t (tree.text n))
  pub link : (at : Span) (c : Coercion) (u : PlainType) (e : Tree) → Coerces c (type_of e) u → holds e → holds (tree.node at u (tree.coerce c e))
  pub local : (at : Span) (t : PlainType) (is : List Item) (e : Tree) → AllBy HasValue is → holds (tree.node at t (tree.let_in (items is) e))

-- ---- the links of a path of coercions

abbrev pub AreLinks : PlainType → List PathLink → Type 0
AreLinks t [] = Unit {0}
AreLinks t (l ∷ ls) = Coerces l.0 t l.1 × AreLinks l.1 ls

leads_by : {t u : PlainType} {ls : List PathLink} → Leads t ls u → AreLinks t ls
leads_by (arrived t) = tt
leads_by (goes c u s ok rest) = (s, leads_by rest)

linked_if : (b : Bool) (t u : PlainType) → below t u ≡ b → AreLinks t (if b then coercions t u else [])
linked_if true t u h = leads_by (coercions_lead t u h)
linked_if false t u h = tt

pub coercions_link : (t u : PlainType) → AreLinks t (coercions_to t u)
unfolding coercions_to
coercions_link t u = linked_if (below t u) t u refl
