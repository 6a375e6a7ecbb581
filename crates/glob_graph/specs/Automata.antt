-- The steps of automata, and what their terms tell over integers that may be undefined; private clauses only.
use Rattle.std.specs.Prelude.{◌≡◌, refl, ℕ, ◌*◌, ◌≤◌, ℤ, pos, ◌+ℤ◌, ◌-ℤ◌, ◌*ℤ◌, Bool, true, false, ◌&&◌, List, [], ◌∷◌, drop, length, map, Option, Some, None, if◌then◌else◌}
use Rattle.std.specs.List.{list_all}
use Rattle.mz_value.specs.Ranges.{Range}
use Rattle.mz_operations.specs.Views.{◌>>=◌}
use Rattle.mz_arena.specs.Values.{as_set, element_at, is_member, is_true}
use Rattle.mz_globals.specs.Graphs.{is_up_to}
use Rattle.mz_globals.specs.Graphs as graphs
use Rattle.mz_symbol.specs.Runs.{Run}
use Rattle.mz_symbol.specs.Readings.{Reading, Reads, state_of}
use Rattle.mz_symbol.specs.Makes.{GoesOnBy}
use Rattle.glob_nodes.specs.declared.nodes.Compare.TheVariants.{AtMost}
use Rattle.glob_nodes.specs.Says.{num, compares}
use Rattle.glob_nodes.specs.Numbers.{plus}
use Rattle.glob_nodes.specs.Places.{lies_within}
use Rattle.glob_graph.specs.declared.automata.Automaton.{Automaton}
use Rattle.glob_graph.specs.Walks.{values_list}

-- the automaton of the definition, with the states that accept
abbrev pub machine : Automaton → List Range → graphs.Automaton
machine m f = record { states = m.states; letters = m.letters; steps = m.steps.cells.items; final = f }

abbrev pub accepts : Automaton → Option (List Range) → List ℤ → Bool
accepts m None ns = false
accepts m (Some f) ns = graphs.accepts (machine m f) m.start ns

-- a number as one of so many states, 0 where it is none
abbrev pub as_state : ℤ → ℤ → ℤ
as_state most n = if is_up_to most n then n else pos 0

abbrev pub steps_of : Automaton → List ℤ
steps_of m = map (as_state m.states) m.steps.cells.items

-- how many steps are before those of a state, of so many letters
abbrev pub row_of : ℤ → Option ℤ → Option ℤ
row_of letters None = None
row_of letters (Some q) = Some ((q -ℤ pos 1) *ℤ letters)

-- the step of a state at a letter, none where it has no place among the steps
abbrev pub step : ℤ → List ℤ → ℤ → ℤ → Option ℤ
step letters steps q n = element_at steps ((q -ℤ pos 1) *ℤ letters +ℤ n)

-- the state after these letters
abbrev pub after : ℤ → List ℤ → Option ℤ → List ℤ → Option ℤ
after letters steps o [] = o
after letters steps o (n ∷ ns) = after letters steps (o >>= λ q. step letters steps q n) ns

-- the first state
abbrev pub first_state : Automaton → Option ℤ
first_state m = Some (as_state m.states m.start)

abbrev pub is_letter : ℤ → Option ℤ → Bool
is_letter letters o = lies_within (pos 1, letters) o

-- a state that is there, and is among those that accept
abbrev pub is_final : Option (List Range) → Option ℤ → Bool
is_final f o = compares AtMost (Some (pos 1)) o && is_member o f

-- ---- nodes, where what they are made of are letters

-- a letter itself
pub record IsNear (old new : Run) (m : Automaton) (x id : ℕ) : Type 0 where
  pub same : (r : Reading) → Reads r new → state_of r old ≡ state_of r new
  pub is : (r : Reading) → Reads r new → (n : ℤ) → num r x ≡ Some n → is_up_to m.letters n ≡ true → num r id ≡ Some n

-- the place of a letter's step after so many others
pub record IsPlace (old new : Run) (m : Automaton) (row x id : ℕ) : Type 0 where
  pub same : (r : Reading) → Reads r new → state_of r old ≡ state_of r new
  pub is : (r : Reading) → Reads r new → (n : ℤ) → num r x ≡ Some n → is_up_to m.letters n ≡ true → num r id ≡ plus (num r row) (Some n)

-- the state after another and a letter
pub record IsNextState (old new : Run) (m : Automaton) (list q x id : ℕ) : Type 0 where
  pub same : (r : Reading) → Reads r new → state_of r old ≡ state_of r new
  pub is : (r : Reading) → Reads r new → r.term list ≡ values_list (steps_of m) → (n : ℤ) → num r x ≡ Some n → is_up_to m.letters n ≡ true → num r id ≡ (num r q >>= λ s. step m.letters (steps_of m) s n)

-- the state after all letters
pub record IsLastState (old new : Run) (m : Automaton) (list : ℕ) (ids : List ℕ) (id : ℕ) : Type 0 where
  pub same : (r : Reading) → Reads r new → state_of r old ≡ state_of r new
  pub is : (r : Reading) → Reads r new → r.term list ≡ values_list (steps_of m) → (ns : List ℤ) → map (num r) ids ≡ map (λ n. Some n) ns → list_all (is_up_to m.letters) ns ≡ true → num r id ≡ after m.letters (steps_of m) (first_state m) ns

-- the state so far, from which the letters from a place on lead to the last one
pub record IsStateSoFar (old new : Run) (m : Automaton) (list : ℕ) (ids : List ℕ) (k id : ℕ) : Type 0 where
  pub goes : GoesOnBy (88 * k) old new
  pub same : (r : Reading) → Reads r new → state_of r old ≡ state_of r new
  pub is : (r : Reading) → Reads r new → r.term list ≡ values_list (steps_of m) → (ns : List ℤ) → map (num r) ids ≡ map (λ n. Some n) ns → list_all (is_up_to m.letters) ns ≡ true → after m.letters (steps_of m) (num r id) (drop k ns) ≡ after m.letters (steps_of m) (first_state m) ns
  pub low : k ≤ length ids

-- a node that tells whether integers that are there are accepted
pub record IsAccepted (old new : Run) (m : Automaton) (ids : List ℕ) (id : ℕ) : Type 0 where
  pub same : (r : Reading) → Reads r new → state_of r old ≡ state_of r new
  pub tells : (r : Reading) → Reads r new → (ns : List ℤ) → map (num r) ids ≡ map (λ n. Some n) ns → is_true (r.term id) ≡ accepts m (as_set (r.term m.accepting)) ns

-- ---- examples: of the states 1 and 2 and the letters 1 and 2, where 1 stays at 1 and goes to 2 at 2, and 2 stays at 1 and has no step at 2

record Led : Type 0 where
  stays : after (pos 2) (pos 1 ∷ pos 2 ∷ pos 2 ∷ pos 0 ∷ []) (Some (pos 1)) (pos 1 ∷ pos 2 ∷ pos 1 ∷ []) ≡ Some (pos 2)
  no_step : after (pos 2) (pos 1 ∷ pos 2 ∷ pos 2 ∷ pos 0 ∷ []) (Some (pos 1)) (pos 2 ∷ pos 2 ∷ []) ≡ Some (pos 0)
  no_step_after : after (pos 2) (pos 1 ∷ pos 2 ∷ pos 2 ∷ pos 0 ∷ []) (Some (pos 1)) (pos 2 ∷ pos 2 ∷ pos 1 ∷ []) ≡ None
  third_state : as_state (pos 2) (pos 3) ≡ pos 0
  second_state : as_state (pos 2) (pos 2) ≡ pos 2

led : Led
led = record { stays = refl; no_step = refl; no_step_after = refl; third_state = refl; second_state = refl }
