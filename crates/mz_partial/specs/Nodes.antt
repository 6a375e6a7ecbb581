-- Nodes by their kinds and children, and what is asked for them.
use Rattle.std.specs.Prelude.{◌≡◌, ℕ, ◌+◌, ◌≤◌, List, [], ◌∷◌, length, map, take, Bool, true, false, Some, slice_get, ◌⊎◌}
use Rattle.mz_arena.specs.declared.node.Node.{Node}
use Rattle.mz_arena.specs.declared.node.NodeKind.{NodeKind}
use Rattle.mz_arena.specs.declared.node.NodeKind.TheVariants.{Eq, Ne, Le, Lt}
use Rattle.mz_arena.specs.Entries.{Entry, arity, children, AllBelow}
use Rattle.mz_arena.specs.Extents.{extent}
use Rattle.mz_arena.specs.Arenas.{Extends, IsArena}
use Rattle.mz_partial.specs.declared.part.Part.{Part}
use Rattle.mz_partial.specs.declared.group.Group.{Group}
use Rattle.mz_partial.specs.Groups.{group_of, is_inner, is_partial}
use Rattle.mz_partial.specs.Costs.{cost_of, costs}
use Rattle.mz_partial.specs.Told.{IsToldDefined}
use Rattle.mz_partial.specs.Totals.{IsTruth, IsWhole, AreParts}

-- the node of a kind over these children
pub record IsNode (es : List Entry) (id : ℕ) (k : NodeKind) (is : List ℕ) : Type 0 where
  pub there : Entry
  pub stands : slice_get es id ≡ Some there
  pub kind : there.node.kind ≡ k
  pub kids : children there.node ≡ is

-- an arena that goes on, with such a node
pub record Placed (old new : List Entry) (k : NodeKind) (is : List ℕ) (id : ℕ) : Type 0 where
  pub extends : Extends old new
  pub arena : IsArena new
  pub node : IsNode new id k is
  pub cost : costs new ≤ costs old + cost_of k

abbrev pub three : ℕ → ℕ → ℕ → List ℕ
three a b c = a ∷ b ∷ c ∷ []

-- a node, and children of the same bounds in place of its own
pub record MayRemake (es : List Entry) (id : ℕ) (n : Node) (js : List ℕ) : Type 0 where
  pub arena : IsArena es
  pub node : IsNode es id n.kind (children n)
  pub inner : is_inner n.kind ≡ true
  pub below : AllBelow (length es) js
  pub bounds : map (extent es) js ≡ map (extent es) (children n)

-- the node over those children: itself, where they are its own
pub record Remade (old new : List Entry) (id : ℕ) (n : Node) (is : List ℕ) (t : ℕ) : Type 0 where
  pub extends : Extends old new
  pub arena : IsArena new
  pub node : IsNode new t n.kind (take (arity n.kind) is)
  pub cost : costs new ≤ costs old + cost_of n.kind
  pub own : is ≡ three n.a n.b n.c → (t ≡ id) × (new ≡ old)

-- comparisons of integers
abbrev pub compares : NodeKind → Bool
compares Eq = true
compares Ne = true
compares Le = true
compares Lt = true
compares _ = false

-- a node of a partial kind that nothing tells to be defined
pub record IsPartialNode (es : List Entry) (id : ℕ) : Type 0 where
  pub there : Entry
  pub stands : slice_get es id ≡ Some there
  pub partial : is_partial there.node.kind ≡ true
  pub untold : IsToldDefined es id → ⊥

-- two integers or two Booleans
abbrev pub AreAlike : List Entry → ℕ → ℕ → Type 0
AreAlike es a b = (IsWhole es a × IsWhole es b) ⊎ (IsTruth es a × IsTruth es b)

-- a node of a group, where the parts of the ids before it are known
pub record Takes (es : List Entry) (memo : List Part) (id : ℕ) (n : Node) (g : Group) : Type 0 where
  pub arena : IsArena es
  pub parts : AreParts es memo
  pub reach : id ≤ length memo
  pub node : IsNode es id n.kind (children n)
  pub kind : group_of n.kind ≡ g
