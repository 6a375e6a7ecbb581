-- Functions, their components and the declarations as one graph. Mirror of src/cycle.rt, src/layers.rt and src/evaluation.rt; private clauses only.
use Rattle.std.specs.Prelude.{◌≡◌, ℕ, ◌+◌, ◌-◌, ◌<◌, List, [], ◌∷◌, ◌++◌, length, map, slice_index_or, if◌then◌else◌, nat_eq, nat_lt, Bool, true, false}
use Rattle.std.specs.List.{flat_map}
use Rattle.mz_graph.specs.Graph.{Graph, heads, IsIn, Edge, number_of}
use Rattle.mz_graph.specs.Members.{IsMember}

-- Where an edge of a function leads: to the component of a function that it calls, but its own, or to a declaration.
pub data FunctionEdge (calls mentions : Graph) (of : List ℕ) (first base f y : ℕ) : Type 0 where
  to_component : (h : ℕ) → Edge calls f h → (number_of of h ≡ number_of of f → ⊥) → y ≡ first + number_of of h → FunctionEdge calls mentions of first base f y
  to_decl : (e : ℕ) → Edge mentions f e → y ≡ base + e → FunctionEdge calls mentions of first base f y

pub data DeclEdge (decl_calls decl_mentions : Graph) (of : List ℕ) (first base d y : ℕ) : Type 0 where
  by_component : (f : ℕ) → Edge decl_calls d f → y ≡ first + number_of of f → DeclEdge decl_calls decl_mentions of first base d y
  by_decl : (e : ℕ) → Edge decl_mentions d e → y ≡ base + e → DeclEdge decl_calls decl_mentions of first base d y

-- functions first, then their components, then the declarations
pub record AreLayers (calls mentions decl_calls decl_mentions : Graph) (of : List ℕ) (m count n : ℕ) (all : Graph) : Type 0 where
  pub sized : length all ≡ (m + count) + n
  pub function_up : (f y : ℕ) → f < m → FunctionEdge calls mentions of m (m + count) f y → Edge all f y
  pub function_down : (f y : ℕ) → f < m → Edge all f y → FunctionEdge calls mentions of m (m + count) f y
  pub component_up : (f : ℕ) → f < m → Edge all (m + number_of of f) f
  pub component_down : (a f : ℕ) → a < count → Edge all (m + a) f → IsMember of m a f
  pub decl_up : (d y : ℕ) → d < n → DeclEdge decl_calls decl_mentions of m (m + count) d y → Edge all ((m + count) + d) y
  pub decl_down : (d y : ℕ) → d < n → Edge all ((m + count) + d) y → DeclEdge decl_calls decl_mentions of m (m + count) d y

-- the declarations of an order of all layers
abbrev pub decls_in : ℕ → List ℕ → List ℕ
decls_in base [] = []
decls_in base (x ∷ xs) = if nat_lt x base then decls_in base xs else (x - base) ∷ decls_in base xs

-- one of these nodes has this number
pub record LeadsWithin (hs of : List ℕ) (number : ℕ) : Type 0 where
  pub to : ℕ
  pub listed : IsIn to hs
  pub is : number_of of to ≡ number

-- the component of a function, numbered from `first` on, but for the component `own`
abbrev pub other : List ℕ → ℕ → ℕ → ℕ → List ℕ
other of own first h = if nat_eq (number_of of h) own then [] else (first + number_of of h) ∷ []

abbrev pub raised : ℕ → List ℕ → List ℕ
raised base es = map (λ e. base + e) es

-- where a function or a declaration leads that calls and mentions these
abbrev pub row_heads : List ℕ → List ℕ → List ℕ → ℕ → ℕ → ℕ → List ℕ
row_heads hs es of own first base = flat_map (other of own first) hs ++ raised base es

abbrev pub in_layers : Graph → Graph → List ℕ → List ℕ → ℕ → ℕ → ℕ → List ℕ
in_layers calls mentions of own first base x = row_heads (heads calls x) (heads mentions x) of (number_of own x) first base

-- a list for each number below `till`
pub record AreRows (row : ℕ → List ℕ) (till : ℕ) (g : Graph) : Type 0 where
  pub sized : length g ≡ till
  pub each : (x : ℕ) → x < till → heads g x ≡ row x

-- which of the first `n` numbers are in a list
pub record AreMarks (n : ℕ) (order : List ℕ) (marks : List Bool) : Type 0 where
  pub sized : length marks ≡ n
  pub up : (d : ℕ) → IsIn d order → slice_index_or marks d false ≡ true
  pub down : (d : ℕ) → slice_index_or marks d false ≡ true → IsIn d order
