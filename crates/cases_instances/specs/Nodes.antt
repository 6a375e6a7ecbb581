-- What is asked of a node of an arena, one at a time.
use Rattle.std.specs.Prelude.{◌≡◌, ℕ, List, true, false, Some, slice_get}
use Rattle.mz_arena.specs.declared.node.Node.{Node}
use Rattle.mz_arena.specs.declared.node.NodeKind.TheVariants.{Var, SetVar}
use Rattle.mz_arena.specs.Entries.{Entry, is_free, is_local}
use Rattle.mz_instance.specs.Parts.{Sort, Whole, Truth, Subset}
use Rattle.mz_instance.specs.Instance.{CanTake}

-- a variable of this sort
abbrev pub IsVariableNode : Node → Sort → Type 0
IsVariableNode n Whole = (n.kind ≡ Var) × (n.c ≡ 0)
IsVariableNode n Truth = (n.kind ≡ Var) × (n.c ≡ 1)
IsVariableNode n Subset = n.kind ≡ SetVar

-- a variable is that of its part, where these are the parts' ids; a choice has some value to take
pub record IsKept (es : List Entry) (ids : List ℕ) (id : ℕ) (e : Entry) : Type 0 where
  pub own : is_free e.node.kind ≡ true → is_local e.node.kind ≡ false → slice_get ids e.node.b ≡ Some id
  pub chosen : is_local e.node.kind ≡ true → CanTake es e

abbrev pub IsKeptAt : List Entry → List ℕ → ℕ → Type 0
IsKeptAt es ids id = (e : Entry) → slice_get es id ≡ Some e → IsKept es ids id e

abbrev pub AreKept : List Entry → List ℕ → Type 0
AreKept es ids = (id : ℕ) (e : Entry) → slice_get es id ≡ Some e → IsKept es ids id e
