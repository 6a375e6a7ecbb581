-- What graphs of dependencies hold of the uses that they are made from. Mirror of src/graphs.rt; private clauses only.
-- The functions are the first nodes; a later node of `calls` stands for a name of functions, and leads to all functions of that name.
use Rattle.std.specs.Prelude.{◌≡◌, ℕ, ◌+◌, ◌<◌, ◌≤◌, List, length}
use Rattle.mz_graph.specs.Graph.{Graph, Edge}
use Rattle.mz_scope_names.specs.declared.name_use.NameUse.{NameUse}
use Rattle.mz_scope_names.specs.Sketches.{Sketch, all_of}
use Rattle.mz_scope_order.specs.Dependencies.{sketch_at, RefersTo}

-- a node for a name, all of whose functions these uses mean
pub record IsName (functions : List Sketch) (calls : Graph) (us : List NameUse) (y : ℕ) : Type 0 where
  pub later : length functions ≤ y
  pub meant : (h : ℕ) → Edge calls y h → RefersTo us functions h

-- each name of functions has a node
pub record HaveNames (functions : List Sketch) (node : ℕ → ℕ) (calls : Graph) : Type 0 where
  pub leads : (h : ℕ) → h < length functions → Edge calls (node h) h

pub record AreFaithful (decls functions : List Sketch) (node : ℕ → ℕ) (calls mentions decl_calls decl_mentions : Graph) : Type 0 where
  pub names : HaveNames functions node calls
  pub blank : (y e : ℕ) → length functions ≤ y → Edge mentions y e → ⊥
  pub call_up : (f h : ℕ) → f < length functions → RefersTo (all_of (sketch_at functions f)) functions h → Edge calls f (node h)
  pub call_down : (f y : ℕ) → f < length functions → Edge calls f y → IsName functions calls (all_of (sketch_at functions f)) y
  pub mention_up : (f e : ℕ) → f < length functions → RefersTo (all_of (sketch_at functions f)) decls e → Edge mentions f e
  pub mention_down : (f e : ℕ) → f < length functions → Edge mentions f e → RefersTo (all_of (sketch_at functions f)) decls e
  pub decl_call_up : (d h : ℕ) → d < length decls → RefersTo (all_of (sketch_at decls d)) functions h → Edge decl_calls d (node h)
  pub decl_call_down : (d y : ℕ) → d < length decls → Edge decl_calls d y → IsName functions calls (all_of (sketch_at decls d)) y
  pub decl_mention_up : (d e : ℕ) → d < length decls → RefersTo (all_of (sketch_at decls d)) decls e → Edge decl_mentions d e
  pub decl_mention_down : (d e : ℕ) → d < length decls → Edge decl_mentions d e → RefersTo (all_of (sketch_at decls d)) decls e

-- a node of the graph of types, and what its types use
pub data HasTypes (decls functions : List Sketch) (base : ℕ) : ℕ → List NameUse → Type 0 where
  of_function : (f : ℕ) → f < length functions → HasTypes decls functions base f (sketch_at functions f).types
  of_decl : (d : ℕ) → d < length decls → HasTypes decls functions base (base + d) (sketch_at decls d).types

-- where an edge of such a node leads
pub data TypeEdge (decls functions : List Sketch) (base : ℕ) (types : Graph) (us : List NameUse) (y : ℕ) : Type 0 where
  to_name : y < base → IsName functions types us y → TypeEdge decls functions base types us y
  to_decl : (e : ℕ) → RefersTo us decls e → y ≡ base + e → TypeEdge decls functions base types us y

-- the graph of types: functions, names of functions, and then, from `base` on, declarations
pub record AreTypes (decls functions : List Sketch) (node : ℕ → ℕ) (base : ℕ) (types : Graph) : Type 0 where
  pub names : HaveNames functions node types
  pub later : length functions ≤ base
  pub up_name : (x h : ℕ) (us : List NameUse) → HasTypes decls functions base x us → RefersTo us functions h → Edge types x (node h)
  pub up_decl : (x e : ℕ) (us : List NameUse) → HasTypes decls functions base x us → RefersTo us decls e → Edge types x (base + e)
  pub down : (x y : ℕ) (us : List NameUse) → HasTypes decls functions base x us → Edge types x y → TypeEdge decls functions base types us y
