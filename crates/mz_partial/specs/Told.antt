-- What is told to be defined: by its kind, or by the bounds of its children.
use Rattle.std.specs.Prelude.{◌≡◌, ℕ, suc, ℤ, pos, ◌≤ℤ◌, ◌<ℤ◌, List, Some, slice_get, ◌⊎◌}
use Rattle.mz_interval.specs.Ends.{Ends}
use Rattle.mz_arena.specs.declared.node.Node.{Node}
use Rattle.mz_arena.specs.declared.node.NodeKind.{NodeKind}
use Rattle.mz_arena.specs.declared.node.NodeKind.TheVariants.{Div, Mod, Min, Max, Access, Guard, Nil, Cons}
use Rattle.mz_arena.specs.Entries.{Entry, children}
use Rattle.mz_arena.specs.Extents.{whole, extent}

-- a list with this many elements
pub data HasElements (es : List Entry) : ℕ → ℕ → Type 0 where
  no_more : (id : ℕ) (e : Entry) → slice_get es id ≡ Some e → e.node.kind ≡ Nil → HasElements es id 0
  one_more : (id n : ℕ) (e : Entry) → slice_get es id ≡ Some e → e.node.kind ≡ Cons → HasElements es e.node.b n → HasElements es id (suc n)

-- no number between the ends is 0
abbrev pub IsApart : Ends → Type 0
IsApart e = (pos 0 <ℤ e.0) ⊎ (e.1 <ℤ pos 0)

-- each number between the ends is a place of a list of n elements
abbrev pub AreInside : ℤ → Ends → Type 0
AreInside n e = (pos 1 ≤ℤ e.0) × (e.1 ≤ℤ n)

-- an integer whose bounds tell that it isn't 0
pub record IsDivisor (es : List Entry) (id : ℕ) : Type 0 where
  pub ends : Ends
  pub whole_is : extent es id ≡ Some (whole ends)
  pub apart : IsApart ends

-- an integer whose bounds tell that it is a place of a list
pub record IsIndex (es : List Entry) (id list : ℕ) : Type 0 where
  pub ends : Ends
  pub whole_is : extent es id ≡ Some (whole ends)
  pub count : ℕ
  pub elements : HasElements es list count
  pub inside : AreInside (pos count) ends

-- a list with an element
pub record IsLong (es : List Entry) (id : ℕ) : Type 0 where
  pub rest : ℕ
  pub elements : HasElements es id (suc rest)

-- a node of a kind has a value where its children have: always, or by the bounds of these. Of a guard nothing tells it
abbrev pub TellsDefined : List Entry → Node → NodeKind → Type 0
TellsDefined es n Div = IsDivisor es n.b
TellsDefined es n Mod = IsDivisor es n.b
TellsDefined es n Access = IsIndex es n.a n.b
TellsDefined es n Min = IsLong es n.a
TellsDefined es n Max = IsLong es n.a
TellsDefined es n Guard = ⊥
TellsDefined es n _ = Unit {0}

-- so does each node below it, and so it has a value
pub data IsToldDefined (es : List Entry) : ℕ → Type 0 where
  told_defined : (id : ℕ) (e : Entry) → slice_get es id ≡ Some e → TellsDefined es e.node e.node.kind → ((k i : ℕ) → slice_get (children e.node) k ≡ Some i → IsToldDefined es i) → IsToldDefined es id
