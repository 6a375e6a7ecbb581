-- WHAT IS TESTED AT THE END of the walk over a model, and that it makes an instance.
use Rattle.std.specs.Prelude.{◌≡◌, ℕ, Bool, true, false, List, map, Some, slice_get}
use Rattle.mz_arena.specs.declared.instance.InstanceGoal.{InstanceGoal}
use Rattle.mz_arena.specs.declared.node.Node.{Node}
use Rattle.mz_arena.specs.Entries.{Entry, is_free, is_local}
use Rattle.mz_arena.specs.Instances.{ModelVar, Instance}
use Rattle.mz_arena.specs.Numbering.{local_ids}
use Rattle.mz_instance.specs.Parts.{ids}
use Rattle.mz_instance.specs.Instance.{IsInstance, AreModelVars, AreTruths, IsObjective}
use Rattle.mz_model_meaning.specs.Decoded.{AreShaped}
use Rattle.mz_symbol.specs.Symbols.{domain_of, free_ids}
use Rattle.mz_symbol.specs.Runs.{Run, IsRun}
use Rattle.mz_model_state.specs.Hands.{HeldName, AreVars, all_places}
use Rattle.mz_model_state.specs.Variables.{AreMadeOf}

-- a variable is at the place of its number, and so is a choice
pub record IsNumbered (vars choices : List ℕ) (id : ℕ) (n : Node) : Type 0 where
  pub var : is_free n.kind ≡ true → is_local n.kind ≡ false → slice_get vars n.b ≡ Some id
  pub choice : is_local n.kind ≡ true → slice_get choices n.b ≡ Some id

abbrev pub AllNumbered : List Entry → List ℕ → List ℕ → Type 0
AllNumbered es vars choices = (id : ℕ) (e : Entry) → slice_get es id ≡ Some e → IsNumbered vars choices id e.node

-- each variable is a part of these and each choice one of the run's, roots are Booleans, and the objective is an integer
pub record IsTested (s : Run) (vars : List ModelVar) (roots : List ℕ) (goal : InstanceGoal) : Type 0 where
  pub nodes : AllNumbered s.arena (ids vars) (free_ids s.choices)
  pub truths : AreTruths s.arena roots
  pub objective : IsObjective s.arena goal

-- what is made of the names in hand, and is tested, is an instance, and its choices are the run's
pub record IsWhole (s : Run) (inst : Instance) : Type 0 where
  pub instance : IsInstance inst
  pub choices : local_ids s.arena ≡ free_ids s.choices

abbrev pub TestedMakes : Type 0
TestedMakes = (s : Run) (ns : List HeldName) (inst : Instance) → IsRun s → inst.arena ≡ s.arena → AreMadeOf ns inst.vars → AreVars s ns → AreShaped (map domain_of (all_places ns)) → AreModelVars inst.vars → IsTested s inst.vars inst.roots inst.goal → IsWhole s inst
