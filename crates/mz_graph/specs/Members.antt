-- The members of components, or of other sets that numbers are sorted into.
use Rattle.std.specs.Prelude.{◌≡◌, ℕ, ◌<◌, List, length}
use Rattle.mz_graph.specs.Graph.{Graph, heads, IsIn, number_of}

-- one of the first `m`, in the set of this number
pub record IsMember (of : List ℕ) (m a f : ℕ) : Type 0 where
  pub counted : f < m
  pub is : number_of of f ≡ a

-- for each set those of the first `till` that are its members
pub record AreMembers (of : List ℕ) (count till : ℕ) (g : Graph) : Type 0 where
  pub sized : length g ≡ count
  pub up : (f : ℕ) → f < till → IsIn f (heads g (number_of of f))
  pub down : (a f : ℕ) → IsIn f (heads g a) → IsMember of till a f
