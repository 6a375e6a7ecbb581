-- Nodes that have their arguments: a list has those of its elements.
use Rattle.std.specs.Prelude.{◌≡◌, ◌⊎◌, ℕ, List, [], ◌∷◌, true, Option, Some, None, IsSome as IsThere, slice_get, Bool, false}
use Rattle.std.specs.List.{AllByRecursion}
use Rattle.mz_arena.specs.declared.node.Node.{Node}
use Rattle.mz_arena.specs.declared.node.NodeKind.{NodeKind}
use Rattle.mz_arena.specs.declared.node.NodeKind.TheVariants as kinds
use Rattle.mz_arena.specs.Entries.{Entry, at, children}
use Rattle.fz_program.specs.Arguments.{Plain}
use Rattle.mz_partial.specs.Totals.{IsTotal}
use Rattle.flat_reif.specs.States.{State, Flattened}

-- this node is at the id
pub record IsNode (es : List Entry) (id : ℕ) (n : Node) : Type 0 where
  pub entry : Entry
  pub is : slice_get es id ≡ Some entry
  pub node : entry.node ≡ n

-- the arguments of a list's elements
pub data ListArgs (es : List Entry) (args : List (Option Plain)) : ℕ → List Plain → Type 0 where
  nil : {id : ℕ} (e : Entry) → slice_get es id ≡ Some e → e.node.kind ≡ kinds.Nil → ListArgs es args id []
  cons : {id : ℕ} {p : Plain} {ps : List Plain} (e : Entry) → slice_get es id ≡ Some e → e.node.kind ≡ kinds.Cons → at args e.node.a ≡ Some p → ListArgs es args e.node.b ps → ListArgs es args id (p ∷ ps)

pub record IsListed (s : State) (id : ℕ) : Type 0 where
  pub items : List Plain
  pub args : ListArgs s.es s.args id items

abbrev pub HasArg : State → ℕ → Type 0
HasArg s id = IsThere (at s.args id)

-- an argument, or those of a list's elements
abbrev pub IsGiven : State → ℕ → Type 0
IsGiven s id = HasArg s id ⊎ IsListed s id

-- ---- one node

-- a variable of the model
abbrev pub is_front : NodeKind → Bool
is_front kinds.Var = true
is_front kinds.SetVar = true
is_front _ = false

-- the variables of the model have their arguments
abbrev pub HasFront : State → Type 0
HasFront s = (id : ℕ) (e : Entry) → slice_get s.es id ≡ Some e → is_front e.node.kind ≡ true → HasArg s id

-- a node without an argument, which has a value, and whose children are given
pub record IsReady (s : State) (id : ℕ) (n : Node) : Type 0 where
  pub at_id : IsNode s.es id n
  pub none : at s.args id ≡ None
  pub total : IsTotal s.es id
  pub given : AllByRecursion (IsGiven s) (children n)

-- a step after which an id is given
pub record Gives (old new : State) (id : ℕ) : Type 0 where
  pub flattened : Flattened old new
  pub given : IsGiven new id
