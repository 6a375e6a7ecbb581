-- Walks along an array, and what their terms tell over integers that may be undefined; private clauses only.
use Rattle.std.specs.Prelude.{◌≡◌, ℕ, ◌+◌, ℤ, List, [], ◌∷◌, length, map, Option, Some, None, IsSome}
use Rattle.mz_value.specs.Ranges.{Range}
use Rattle.mz_arena.specs.Values.{Term, access_term, is_true}
use Rattle.mz_arena.specs.Values as terms
use Rattle.mz_operations.specs.Views.{◌>>=◌}
use Rattle.mz_globals.specs.Reading.{Placed}
use Rattle.mz_globals.specs.Graphs.{walk, is_circuit}
use Rattle.mz_symbol.specs.Runs.{Run}
use Rattle.mz_symbol.specs.Readings.{Reading, Reads, state_of}
use Rattle.mz_symbol.specs.Symbols.{list_term}
use Rattle.mz_symbol_access.specs.StepsAlone.{IsReached}
use Rattle.glob_nodes.specs.declared.arguments.Numbers.{Numbers}
use Rattle.glob_nodes.specs.Arguments.{all_numbers, elements}
use Rattle.glob_nodes.specs.Says.{num}

abbrev pub range_of : Numbers → Range
range_of x = (x.first, x.last)

abbrev pub with_items : Range → List ℤ → Placed ℤ
with_items range ns = record { indices = range; items = ns }

-- the list of these numbers as a term
abbrev pub values_list : List ℤ → Term
values_list [] = Some terms.empty
values_list (n ∷ ns) = Some (terms.numbers (n ∷ ns))

-- the walk from an index that may be undefined
abbrev pub from : Placed ℤ → ℕ → Option ℤ → Option (List ℤ × ℤ)
from x n None = None
from x n (Some i) = walk x n i

-- a walk with these indices before it
abbrev pub onto : List (Option ℤ) → Option (List ℤ × ℤ) → Option (List ℤ × ℤ)
onto [] w = w
onto (None ∷ os) w = None
onto (Some i ∷ os) w = onto os w >>= λ v. Some (i ∷ v.0, v.1)

-- of a walk of n steps from the first index the indices so far, and the one that so many steps more leave
pub record IsWalkOf (x : Placed ℤ) (n : ℕ) (os : List (Option ℤ)) (left : ℕ) (o : Option ℤ) : Type 0 where
  pub is : walk x n x.indices.0 ≡ onto os (from x left o)
  pub there : IsSome o → IsSome (all_numbers os)

-- the element of a list that an index leads to
pub record IsElement (r : Reading) (range : Range) (list p id : ℕ) : Type 0 where
  pub place : Term
  pub reached : IsReached (range ∷ []) (num r p ∷ []) place
  pub is : r.term id ≡ access_term place (r.term list)

pub record IsNext (old new : Run) (range : Range) (list p id : ℕ) : Type 0 where
  pub same : (r : Reading) → Reads r new → state_of r old ≡ state_of r new
  pub is : (r : Reading) → Reads r new → IsElement r range list p id

-- the nodes of a walk's indices so far, and of the next one
pub record IsWalked (old new : Run) (x : Numbers) (list : ℕ) (ps : List ℕ) (id : ℕ) : Type 0 where
  pub left : ℕ
  pub count : length ps + left ≡ length x.items.items
  pub same : (r : Reading) → Reads r new → state_of r old ≡ state_of r new
  pub walked : (r : Reading) → Reads r new → r.term list ≡ list_term r.term x.items.items → (ns : List ℤ) → elements r x ≡ map (λ n. Some n) ns → IsWalkOf (with_items (range_of x) ns) (length x.items.items) (map (num r) ps) left (num r id)

-- a node that tells whether an array whose elements are there is a circuit
pub record IsRound (old new : Run) (x : Numbers) (id : ℕ) : Type 0 where
  pub same : (r : Reading) → Reads r new → state_of r old ≡ state_of r new
  pub tells : (r : Reading) → Reads r new → (ns : List ℤ) → elements r x ≡ map (λ n. Some n) ns → is_true (r.term id) ≡ is_circuit (with_items (range_of x) ns)
