-- What is left when an instance has been flattened, from which its program's faithfulness follows.
use Rattle.std.specs.Prelude.{◌≡◌, ℕ, List, true, Some}
use Rattle.mz_arena.specs.declared.instance.InstanceGoal.{InstanceGoal}
use Rattle.mz_arena.specs.declared.instance.InstanceGoal.TheVariants as instance_goal
use Rattle.mz_arena.specs.Entries.{Entry}
use Rattle.mz_arena.specs.Instances.{Instance}
use Rattle.mz_arena.specs.Values as terms
use Rattle.mz_arena.specs.Terms.{term}
use Rattle.mz_arena.specs.InBounds.{AreInDomains}
use Rattle.mz_arena.specs.Arenas.{Extends}
use Rattle.fz_program.specs.declared.program.FzGoal.{FzGoal}
use Rattle.fz_program.specs.declared.program.FzGoal.TheVariants.{Satisfy, Minimize, Maximize}
use Rattle.fz_program.specs.declared.row_name.Kind.TheVariants.{Int}
use Rattle.fz_program.specs.Names.{Name}
use Rattle.fz_program.specs.Arguments.{var}
use Rattle.fz_program.specs.Values.{Values}
use Rattle.fz_program.specs.Flat.{FlatSolves, is_plain, plain_value}
use Rattle.flat_reif_rows.specs.Standing.{seen}
use Rattle.flat_reif.specs.States.{State, Meets}
use Rattle.flat_root.specs.Keeps.{Keeps, IsReadyState, AllTrue, HasChoices}
use Rattle.flat_root.specs.Objectives.{IsWholeRoot, HasValueAt}
use Rattle.flat.specs.Fronts.{IsFronted}
use Rattle.flat.specs.Absent.{AreDefaultRoots}
use Rattle.flat.specs.Cleared.{HaveSome}

-- the objective has a value
abbrev pub HasGoal : List Entry → InstanceGoal → terms.Values → Type 0
HasGoal es instance_goal.Satisfy v = Unit {0}
HasGoal es (instance_goal.Minimize id) v = HasValueAt es id v
HasGoal es (instance_goal.Maximize id) v = HasValueAt es id v

-- the variable at a place is this integer in each solution
pub record IsGoalAt (es : List Entry) (t : State) (id k : ℕ) : Type 0 where
  pub sort : is_plain t.prog.vars Int (var k) ≡ true
  pub value : (v : terms.Values) (f : Values) → AreInDomains t.es v → Meets t v f → term v es id ≡ Some (seen (plain_value f (var k)))

abbrev pub GoalStands : List Entry → State → InstanceGoal → FzGoal → Type 0
GoalStands es t instance_goal.Satisfy Satisfy = Unit {0}
GoalStands es t (instance_goal.Minimize id) (Minimize k) = IsGoalAt es t id k
GoalStands es t (instance_goal.Maximize id) (Maximize k) = IsGoalAt es t id k
GoalStands es t _ _ = ⊥

-- what is minimized or maximized is an integer node
abbrev pub IsGoalRoot : List Entry → InstanceGoal → Type 0
IsGoalRoot es instance_goal.Satisfy = Unit {0}
IsGoalRoot es (instance_goal.Minimize id) = IsWholeRoot es id
IsGoalRoot es (instance_goal.Maximize id) = IsWholeRoot es id

-- the objective has a value, which is that of a variable
pub record IsAimed (old new : State) (goal : InstanceGoal) (q : FzGoal) : Type 0 where
  pub keeps : Keeps old new (HasGoal old.es goal)
  pub ready : IsReadyState new
  pub choices : HasChoices new
  pub aimed : GoalStands old.es new goal q

-- the roots hold, absent options have their defaults, and the objective has a value
pub record IsHeld (es : List Entry) (defaults roots : List ℕ) (goal : InstanceGoal) (v : terms.Values) : Type 0 where
  pub absent : AllTrue es defaults v
  pub held : AllTrue es roots v
  pub aimed : HasGoal es goal v

-- `s` has the front, and `t` the whole program
pub record IsFlattened (inst : Instance) (table : List Name) (b s t : State) (defaults : List ℕ) (goal : FzGoal) : Type 0 where
  pub extends : Extends inst.arena s.es
  pub front : IsFronted b s table inst.vars
  pub absent : AreDefaultRoots s.es inst.vars defaults
  pub keeps : Keeps s t (IsHeld s.es defaults inst.roots inst.goal)
  pub ready : IsReadyState t
  pub choices : HasChoices t
  pub some : (f : Values) → FlatSolves t.prog f → HaveSome inst.vars
  pub aimed : GoalStands s.es t inst.goal goal
