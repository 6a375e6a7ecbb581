-- What declarations depend on, directly and through the functions that they call.
use Rattle.std.specs.Prelude.{◌≡◌, ℕ, ◌<◌, ◌≤◌, List, length}
use Rattle.mz_graph.specs.Graph.{Graph, heads, IsIn, Edge, Path, AreComponents}
use Rattle.mz_graph.specs.Order.{IsOrder, IsComplete, IsFirstLeft}

-- a function leads to what it mentions, and to what the functions that it calls lead to
pub data LeadsTo (calls mentions : Graph) : ℕ → ℕ → Type 0 where
  itself : {f e : ℕ} → Edge mentions f e → LeadsTo calls mentions f e
  through : {f h e : ℕ} → Edge calls f h → LeadsTo calls mentions h e → LeadsTo calls mentions f e

-- a declaration depends on what it mentions, and on what the functions that it calls lead to
pub data DependsOn (calls mentions decl_calls decl_mentions : Graph) (d e : ℕ) : Type 0 where
  directly : Edge decl_mentions d e → DependsOn calls mentions decl_calls decl_mentions d e
  by_call : (f : ℕ) → Edge decl_calls d f → LeadsTo calls mentions f e → DependsOn calls mentions decl_calls decl_mentions d e

-- each edge leads to a number below n
pub record AllBelow (g : Graph) (n : ℕ) : Type 0 where
  pub below : (x y : ℕ) → IsIn y (heads g x) → y < n

-- functions and declarations, which call functions and mention declarations
pub record AreUses (calls mentions decl_calls decl_mentions : Graph) : Type 0 where
  pub functions : length mentions ≡ length calls
  pub decls : length decl_calls ≡ length decl_mentions
  pub called : AllBelow calls (length calls)
  pub mentioned : AllBelow mentions (length decl_mentions)
  pub called_by_decls : AllBelow decl_calls (length calls)
  pub mentioned_by_decls : AllBelow decl_mentions (length decl_mentions)

-- an edge of the node leads back to it
pub record IsOnCycle (g : Graph) (x : ℕ) : Type 0 where
  pub next : ℕ
  pub edge : Edge g x next
  pub back : Path g next x

abbrev pub NoneOnCycle : Graph → ℕ → ℕ → Type 0
NoneOnCycle g from till = (x : ℕ) → from ≤ x → x < till → IsOnCycle g x → ⊥

-- the first node of a range that is on a cycle
pub record IsFirstOnCycle (g : Graph) (from till x : ℕ) : Type 0 where
  pub later : from ≤ x
  pub within : x < till
  pub cycle : IsOnCycle g x
  pub before : NoneOnCycle g from x

-- numbers of the components of a graph
pub record HaveComponents (g : Graph) : Type 0 where
  pub count : ℕ
  pub number : List ℕ
  pub are : AreComponents g count number

-- all have their turn, in this order
pub record IsWholeOrder (Needs : ℕ → ℕ → Type 0) (n : ℕ) (order : List ℕ) : Type 0 where
  pub is : IsOrder Needs n order
  pub complete : IsComplete n order

-- not all have their turn, and this is the first that never has it
pub record IsCyclicAt (Needs : ℕ → ℕ → Type 0) (n d : ℕ) : Type 0 where
  pub order : List ℕ
  pub is : IsOrder Needs n order
  pub first : IsFirstLeft n order d
