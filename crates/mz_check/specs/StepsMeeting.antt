-- Faults as they are met, the first of which counts. Mirror of src/faults.rt, src/testing.rt and src/kept.rt; private clauses only.
use Rattle.std.specs.Prelude.{◌≡◌, List, [], ◌∷◌, ◌++◌, Option, Some, None, Result, Ok, Err, if◌then◌else◌}
use Rattle.std.specs.List.{flat_map}
use Rattle.mz_base.specs.declared.fault.Span.{Span}
use Rattle.mz_base.specs.declared.stop.Stop.{Stop}
use Rattle.mz_base.specs.declared.stop.Stop.TheVariants.{Refused, Memory}
use Rattle.mz_core.specs.declared.program.CoreGoal.{CoreGoal}
use Rattle.mz_core.specs.Program.{Goal}
use Rattle.mz_tree.specs.Items.{GoalTree}
use Rattle.mz_check_meaning.specs.Tests.{Test, each}
use Rattle.mz_check_meaning.specs.Models.{Model}
use Rattle.mz_check_meaning.specs.Items.{goal}
use Rattle.mz_check_meaning.specs.Checks.{Met, met, stands_before, goal_place}
use Rattle.mz_check.specs.declared.faults.Met.{Met as Noted}

abbrev pub met_of : Noted → Met
met_of m = (m.at, m.fault)

abbrev pub sooner : Option Met → Met → Met
sooner None y = y
sooner (Some x) y = if stands_before y.0 x.0 then y else x

-- the fault that is met first, after these
unfoldable pub after : Option Met → List Met → Option Met
after first [] = first
after first (y ∷ ys) = after (Some (sooner first y)) ys

abbrev pub IsNoted : Span → Stop → Option Met → Option Met → Type 0
IsNoted at (Refused f) old new = new ≡ Some (sooner old (at, f))
IsNoted at Memory old new = ⊥

-- a refusal is noted, and what is typed changes nothing
abbrev pub IsTested : {A : Type 0} → Result A Stop → Span → Option Met → Option Met → Type 0
IsTested (Ok x) at first next = next ≡ first
IsTested (Err s) at first next = IsNoted at s first next

abbrev pub test_of : Option Met → Test (Unit {0})
test_of None = Ok tt
test_of (Some m) = Err m.1

-- what is typed goes last, and a refusal is noted
abbrev pub IsKept : {A : Type 0} → Result A Stop → Span → List A → List A → Option Met → Option Met → Type 0
IsKept (Ok x) at old new first next = (new ≡ old ++ x ∷ []) × (next ≡ first)
IsKept (Err s) at old new first next = IsNoted at s first next

-- what one test is met with, at its place
abbrev pub met_by : {X B : Type 0} → (X → Span) → (X → Test B) → X → List Met
met_by place go x = met (place x) (go x)

-- all of these are tested: what is met first, and what they are typed to, where nothing is met
pub record AreTested {X B : Type 0} (place : X → Span) (go : X → Test B) (xs : List X) (first next : Option Met) (all : List B) : Type 0 where
  pub met : next ≡ after first (flat_map (met_by place go) xs)
  pub typed : next ≡ None → each go xs ≡ Ok all

abbrev pub places : Option Span → List Span
places None = []
places (Some at) = at ∷ []

abbrev pub IsGoalKept : Result CoreGoal Stop → Span → CoreGoal → Option Met → Option Met → Type 0
IsGoalKept (Ok x) at g first next = (g ≡ x) × (next ≡ first)
IsGoalKept (Err s) at g first next = IsNoted at s first next

-- the same of the objective, which has a place where there is one
pub record IsGoalTested (m : Model) (g : GoalTree) (first next : Option Met) (typed : Goal) : Type 0 where
  pub met : next ≡ after first (flat_map (λ at. met at (goal m g)) (goal_place g))
  pub is : next ≡ None → goal m g ≡ Ok typed
