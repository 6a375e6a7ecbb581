-- How a walk ends: with the instance of the model, or where each walk stops.
use Rattle.std.specs.Prelude.{ℕ, List, [], drop, map, Option, Some, None, Result}
use Rattle.mz_base.specs.declared.fault.Fault.{Fault}
use Rattle.mz_base.specs.declared.stop.Stop.{Stop}
use Rattle.mz_base.specs.declared.stop.Stop.TheVariants.{Refused, Memory}
use Rattle.mz_core.specs.Program.{PlainProgram}
use Rattle.mz_arena.specs.declared.instance.Instance.{Instance}
use Rattle.mz_arena.specs.declared.instance.InstanceGoal.{InstanceGoal}
use Rattle.mz_arena.specs.Instances.{instance}
use Rattle.mz_meaning.specs.Walk.{Limits}
use Rattle.mz_model_meaning.specs.Modeled.{HasGoalOf, Modeled}
use Rattle.mz_model_meaning.specs.Refusals.{StopsOnce}
use Rattle.mz_symbol.specs.Runs.{Run}
use Rattle.mz_model_state.specs.Hands as hands
use Rattle.mz_model_state.specs.Hands.{View, IsAimed, SlotsFrom, WalkStops}
use Rattle.mz_model_state.specs.Loops.{IsObjective, IsObjectiveFault}
use Rattle.mz_model_state.specs.Progress.{IsAmong}
use Rattle.mz_model_names.specs.declared.types.HeldName.{HeldName}
use Rattle.mz_model_names.specs.Named.{held_name}
use Rattle.mz_model.specs.declared.types.Task.{Task}
use Rattle.mz_model.specs.declared.types.HeldConstraint.{HeldConstraint}
use Rattle.mz_model.specs.declared.types.Names.{Names}
use Rattle.mz_model.specs.Walks.{AreReadable, limits_of, names_of, program_of, held_constraint, Ends}

-- the instance is the model's; or some walk over the model stops at this fault
abbrev pub ModelEnds : Limits → PlainProgram → Result Instance Stop → Type 0
ModelEnds l p x = Ends x (λ inst. Modeled l p (instance inst)) (StopsOnce l p)

-- of a fault, and nothing where memory ran out
abbrev pub IfRefused : (Fault → Type 0) → Stop → Type 0
IfRefused P (Refused f) = P f
IfRefused P Memory = Unit {0}

-- under each reading the walk stops
abbrev pub WalkHalts : Task → Run → List hands.HeldName → Stop → Type 0
WalkHalts t s ns x = IfRefused (λ f. WalkStops (limits_of t) (program_of t) f s ns) x

abbrev pub StopHalts : Task → Stop → Type 0
StopHalts t x = IfRefused (StopsOnce (limits_of t) (program_of t)) x

-- ---- the objective

-- what is in hand when the objective is evaluated
abbrev pub hand_of : Run → List hands.HeldName → List HeldConstraint → Option View → hands.Hand
hand_of s ns cs o = record { run = s; names = ns; constraints = map held_constraint cs; objective = o }

-- the node of an objective's cell
abbrev pub IsAimOf : Run → Option View → ℕ → Type 0
IsAimOf s None id = ⊥
IsAimOf s (Some v) id = hands.IsAim s v id

-- the objective's cell and node, after these names and constraints
pub record IsAim (t : Task) (old new : Run) (ns : List hands.HeldName) (g : InstanceGoal) : Type 0 where
  pub view : Option View
  pub goal : HasGoalOf (program_of t).goal g
  pub aimed : IsAimed new view g
  pub evaluated : (cs : List HeldConstraint) → IsObjective (limits_of t) (program_of t) old (hand_of new ns cs view)

abbrev pub AimEnds : Task → Run → Run → List hands.HeldName → Result InstanceGoal Stop → Type 0
AimEnds t old new ns x = Ends x (IsAim t old new ns) (IsObjectiveFault (limits_of t) (program_of t) old new ns)

-- ---- the end

-- all is in hand in this run
pub record IsInHand (t : Task) (s : Run) (ns : List hands.HeldName) (cs : List HeldConstraint) (goal : InstanceGoal) : Type 0 where
  pub before : Run
  pub among : IsAmong (limits_of t) (program_of t) before ns (map held_constraint cs) []
  pub aim : IsAim t before s ns goal

-- all constraints are in hand
pub record EndsFrom (t : Task) (s : Run) (names : Names) (cs : List HeldConstraint) : Type 0 where
  pub readable : AreReadable names
  pub among : IsAmong (limits_of t) (program_of t) s (names_of names) (map held_constraint cs) []

-- where the names from this place on have their places as slots, all have
pub record AreNumberedFrom (all : List HeldName) (i : ℕ) : Type 0 where
  pub by : SlotsFrom i (map held_name (drop i all)) → SlotsFrom 0 (map held_name all)
