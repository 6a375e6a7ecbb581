-- The order of types, by the graph of types. Mirror of src/type_order.rt; private clauses only.
use Rattle.std.specs.Prelude.{◌≡◌, ℕ, ◌-◌, ◌<◌, List, [], ◌∷◌, nat_lt, length, if◌then◌else◌}
use Rattle.std.specs.List.{flat_map}
use Rattle.mz_graph.specs.Graph.{Graph, Edge, number_of}
use Rattle.mz_graph.specs.Order.{IsOrder}
use Rattle.mz_scope_order.specs.Subjects.{Subject, of_decl, of_function}

-- numbers below a count, none of them twice
pub record StandOnce (count : ℕ) (order : List ℕ) : Type 0 where
  pub within : (j : ℕ) → j < length order → number_of order j < count
  pub apart : (i j : ℕ) → i < length order → j < length order → number_of order i ≡ number_of order j → i ≡ j

-- for each number of the order its place there
pub record ArePlaces (count : ℕ) (order at : List ℕ) : Type 0 where
  pub sized : length at ≡ count
  pub is : (j : ℕ) → j < length order → number_of at (number_of order j) ≡ j

-- functions come first, then their names, and from `base` on declarations, whose numbers are turned to those in `at`
abbrev pub subject_at : ℕ → ℕ → List ℕ → ℕ → List Subject
subject_at functions base at x = if nat_lt x functions then of_function x ∷ [] else (if nat_lt x base then [] else of_decl (number_of at (x - base)) ∷ [])

abbrev pub subjects_in : ℕ → ℕ → List ℕ → List ℕ → List Subject
subjects_in functions base at xs = flat_map (subject_at functions base at) xs

-- the subjects of the nodes of a graph, in order; the declarations have the numbers of their places in another order
pub record AreSubjects (types : Graph) (functions base count : ℕ) (order : List ℕ) (all : List Subject) : Type 0 where
  pub nodes : List ℕ
  pub at : List ℕ
  pub is : IsOrder (Edge types) (length types) nodes
  pub places : ArePlaces count order at
  pub are : all ≡ subjects_in functions base at nodes
