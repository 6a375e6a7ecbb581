-- Graphs, paths through them, and their strongly connected components.
use Rattle.std.specs.Prelude.{◌≡◌, ℕ, ◌<◌, ◌≤◌, List, [], ◌∷◌, ◌⊎◌, length, map, Vec, slice_index_or}

-- the number is one of the list
abbrev pub IsIn : ℕ → List ℕ → Type 0
IsIn x [] = ⊥
IsIn x (y ∷ ys) = (x ≡ y) ⊎ IsIn x ys

-- for each node, numbered from 0, the nodes that its edges lead to
abbrev pub Graph : Type 0
Graph = List (List ℕ)

-- where the edges of a node lead
abbrev pub heads : Graph → ℕ → List ℕ
heads g x = slice_index_or g x []

abbrev pub graph_of : {Z : Type 0} → List (Vec ℕ Z) → Graph
graph_of vs = map (λ v. v.items) vs

-- each edge leads to a node
abbrev pub IsGraph : Graph → Type 0
IsGraph g = (x y : ℕ) → IsIn y (heads g x) → y < length g

pub record Edge (g : Graph) (x y : ℕ) : Type 0 where
  pub listed : IsIn y (heads g x)

-- along any number of edges, none among them
pub data Path (g : Graph) : ℕ → ℕ → Type 0 where
  arrived : {x : ℕ} → Path g x x
  onward : {x y z : ℕ} → Edge g x y → Path g y z → Path g x z

-- the number of a node's component
abbrev pub number_of : List ℕ → ℕ → ℕ
number_of of x = slice_index_or of x 0

-- Nodes with the same number reach each other, and no edge leads to a higher number.
pub record AreComponents (g : Graph) (count : ℕ) (of : List ℕ) : Type 0 where
  pub sized : length of ≡ length g
  pub numbered : (x : ℕ) → x < length g → number_of of x < count
  pub falls : (x y : ℕ) → x < length g → Edge g x y → number_of of y ≤ number_of of x
  pub connected : (x y : ℕ) → x < length g → y < length g → number_of of x ≡ number_of of y → Path g x y
