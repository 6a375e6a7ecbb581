-- Sets of ids that have what is below their ids.
use Rattle.std.specs.Prelude.{◌≡◌, ◌⊎◌, ℕ, ◌≤◌, List, [], ◌∷◌, Bool, true, Some, slice_get}
use Rattle.std.specs.List.{AllByRecursion}
use Rattle.mz_arena.specs.declared.node.Node.{Node}
use Rattle.mz_arena.specs.declared.node.NodeKind.{NodeKind}
use Rattle.mz_arena.specs.declared.node.NodeKind.TheVariants as kinds
use Rattle.mz_arena.specs.Entries.{Entry}
use Rattle.mz_partial.specs.Totals.{IsTotal}
use Rattle.flat_reif.specs.Needs.{is_needed}
use Rattle.flat_root.specs.declared.marks.Children.{Children}
use Rattle.flat_root.specs.declared.marks.Children.TheVariants.{None as NoChild, One, Two, Three}

-- of a variable or a choice none
abbrev pub children_of : NodeKind → Children
children_of kinds.Int = NoChild
children_of kinds.Bool = NoChild
children_of kinds.Var = NoChild
children_of kinds.Local = NoChild
children_of kinds.Nil = NoChild
children_of kinds.SetConst = NoChild
children_of kinds.SetVar = NoChild
children_of kinds.SetLocal = NoChild
children_of kinds.Min = One
children_of kinds.Max = One
children_of kinds.Abs = One
children_of kinds.ToInt = One
children_of kinds.Not = One
children_of kinds.Card = One
children_of kinds.If = Three
children_of _ = Two

abbrev pub first_of : Children → ℕ → ℕ → ℕ → List ℕ
first_of NoChild a b c = []
first_of One a b c = a ∷ []
first_of Two a b c = a ∷ b ∷ []
first_of Three a b c = a ∷ b ∷ c ∷ []

-- the children that are needed where a node is
abbrev pub needed_children : Node → List ℕ
needed_children n = first_of (children_of n.kind) n.a n.b n.c

abbrev pub IsIn : ℕ → List ℕ → Type 0
IsIn k [] = ⊥
IsIn k (i ∷ is) = (k ≡ i) ⊎ IsIn k is

abbrev pub AreMarked : List Bool → List ℕ → Type 0
AreMarked need is = AllByRecursion (λ i. is_needed need i ≡ true) is

-- the old ids, and these
pub record Covers (old new : List Bool) (is : List ℕ) : Type 0 where
  pub keeps : (k : ℕ) → is_needed old k ≡ true → is_needed new k ≡ true
  pub adds : AreMarked new is
  pub only : (k : ℕ) → is_needed new k ≡ true → (is_needed old k ≡ true) ⊎ IsIn k is

-- each needed id is a total node
abbrev pub AreTotal : List Entry → List Bool → Type 0
AreTotal es need = (k : ℕ) → is_needed need k ≡ true → IsTotal es k

abbrev pub AreTotalIds : List Entry → List ℕ → Type 0
AreTotalIds es is = AllByRecursion (IsTotal es) is

-- of each needed id from one on the children are needed
abbrev pub ClosedFrom : List Entry → List Bool → ℕ → Type 0
ClosedFrom es need here = (k : ℕ) (e : Entry) → here ≤ k → slice_get es k ≡ Some e → is_needed need k ≡ true → AreMarked need (needed_children e.node)

-- more ids, and of those from one on the children are needed
pub record ClosesAt (es : List Entry) (old new : List Bool) (here : ℕ) : Type 0 where
  pub keeps : (k : ℕ) → is_needed old k ≡ true → is_needed new k ≡ true
  pub total : AreTotal es new
  pub closed : ClosedFrom es new here

abbrev pub Closes : List Entry → List Bool → List Bool → Type 0
Closes es old new = ClosesAt es old new 0
