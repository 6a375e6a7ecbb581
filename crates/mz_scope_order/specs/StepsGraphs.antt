-- The graphs of dependencies. Mirror of src/graphs.rt; private clauses only.
-- Nodes: the functions, then the names of functions without parameters, then the names of functions with parameters, and in the
-- graph of types then the declarations.
use Rattle.std.specs.Prelude.{◌≡◌, ℕ, ◌+◌, List, [], ◌++◌, true, false, length, map, replicate}
use Rattle.mz_graph.specs.Graph.{Graph, number_of}
use Rattle.mz_graph.specs.Members.{AreMembers}
use Rattle.mz_scope_names.specs.declared.name_use.NameUse.{NameUse}
use Rattle.mz_scope_names.specs.Sketches.{Sketch, all_of}
use Rattle.mz_scope_order.specs.Dependencies.{meant_by}
use Rattle.mz_scope_order.specs.StepsPlaces.{names_in, callee, callees_in, mentions_in, or_zero}

-- how many names functions have, in both spaces
abbrev pub name_count : List Sketch → ℕ
name_count functions = length (names_in false [] functions) + length (names_in true [] functions)

abbrev pub base_of : List Sketch → ℕ
base_of functions = length functions + name_count functions

-- for each function the number of its name
abbrev pub numbers_of : List Sketch → List ℕ
numbers_of functions = map (λ s. or_zero (callee (names_in false [] functions) (names_in true [] functions) (meant_by s))) functions

-- the node of a function's name
abbrev pub node_of : List Sketch → ℕ → ℕ
node_of functions h = length functions + number_of (numbers_of functions) h

abbrev pub called_by : List Sketch → List NameUse → List ℕ
called_by functions us = callees_in (length functions) (names_in false [] functions) (names_in true [] functions) us

abbrev pub mentioned_by : List Sketch → ℕ → List NameUse → List ℕ
mentioned_by decls base us = mentions_in base (names_in false [] decls) us

abbrev pub types_by : List Sketch → List Sketch → List NameUse → List ℕ
types_by decls functions us = called_by functions us ++ mentioned_by decls (base_of functions) us

-- the numbers of functions' names, by the names of functions without and with parameters
abbrev pub numbers_by : List ℕ → List ℕ → List Sketch → List ℕ
numbers_by bare applied ss = map (λ s. or_zero (callee bare applied (meant_by s))) ss

abbrev pub call_rows : ℕ → List ℕ → List ℕ → List Sketch → Graph
call_rows first bare applied ss = map (λ s. callees_in first bare applied (all_of s)) ss

abbrev pub mention_rows : List ℕ → List Sketch → Graph
mention_rows named ss = map (λ s. mentions_in 0 named (all_of s)) ss

abbrev pub type_rows : ℕ → ℕ → List ℕ → List ℕ → List ℕ → List Sketch → Graph
type_rows first base bare applied named ss = map (λ s. callees_in first bare applied s.types ++ mentions_in base named s.types) ss

-- a graph that is followed by the members of the sets that numbers are sorted into
pub record HasMembers (front : Graph) (of : List ℕ) (count : ℕ) (g : Graph) : Type 0 where
  pub members : Graph
  pub sorted : AreMembers of count (length of) members
  pub is : g ≡ front ++ members

-- the same, with a graph after it
pub record HasMembersBetween (front : Graph) (of : List ℕ) (count : ℕ) (back g : Graph) : Type 0 where
  pub begins : Graph
  pub before : HasMembers front of count begins
  pub is : g ≡ begins ++ back

-- the names that uses are looked up in, and the number of each function's name
pub record AreTables (decls functions : List Sketch) (bare applied named of : List ℕ) : Type 0 where
  pub bare_are : bare ≡ names_in false [] functions
  pub applied_are : applied ≡ names_in true [] functions
  pub named_are : named ≡ names_in false [] decls
  pub numbers_are : of ≡ numbers_by bare applied functions

pub record AreGraphs (decls functions : List Sketch) (calls mentions decl_calls decl_mentions types : Graph) : Type 0 where
  pub members : Graph
  pub sorted : AreMembers (numbers_of functions) (name_count functions) (length functions) members
  pub again : Graph
  pub sorted_again : AreMembers (numbers_of functions) (name_count functions) (length functions) again
  pub calls_are : calls ≡ map (λ s. called_by functions (all_of s)) functions ++ members
  pub mentions_are : mentions ≡ map (λ s. mentioned_by decls 0 (all_of s)) functions ++ replicate (name_count functions) []
  pub decl_calls_are : decl_calls ≡ map (λ s. called_by functions (all_of s)) decls
  pub decl_mentions_are : decl_mentions ≡ map (λ s. mentioned_by decls 0 (all_of s)) decls
  pub types_are : types ≡ (map (λ s. types_by decls functions s.types) functions ++ again) ++ map (λ s. types_by decls functions s.types) decls
