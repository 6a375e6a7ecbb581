-- THE INSTANCE that is made of what is in hand is an instance: what the code of the walk is to ensure of it besides.
use Rattle.std.specs.Prelude.{◌≡◌, ℕ, true, false, List, map, Some, slice_get}
use Rattle.mz_arena.specs.Entries.{Entry, is_free, is_local}
use Rattle.mz_arena.specs.Instances.{Instance}
use Rattle.mz_instance.specs.Instance.{IsInstance, AreModelVars, AreTruths, IsObjective}
use Rattle.mz_model_meaning.specs.Decoded.{AreShaped}
use Rattle.mz_symbol.specs.Symbols.{domain_of, free_ids}
use Rattle.mz_symbol.specs.Runs.{Run, IsRun}
use Rattle.mz_model_state.specs.Hands.{HeldName, all_places, AreVars}
use Rattle.mz_model_state.specs.Variables.{AreMadeOf, AllNoted}

-- each node of a variable is that of the part with its number: one pass over the arena tests it at the end
abbrev pub AllPlaced : Run → List HeldName → Type 0
AllPlaced s ns = (id : ℕ) (e : Entry) → slice_get s.arena id ≡ Some e → is_free e.node.kind ≡ true → is_local e.node.kind ≡ false → slice_get (free_ids (all_places ns)) e.node.b ≡ Some id

pub record IsMade (s : Run) (ns : List HeldName) (inst : Instance) : Type 0 where
  pub run : IsRun s
  pub arena : inst.arena ≡ s.arena
  -- its variables are the names' places, which have their nodes and domains
  pub made : AreMadeOf ns inst.vars
  pub nodes : AreVars s ns
  pub shaped : AreShaped (map domain_of (all_places ns))
  pub vars : AreModelVars inst.vars
  -- no node of a variable or a choice is left over
  pub placed : AllPlaced s ns
  pub noted : AllNoted s
  -- roots are Booleans, and the objective is an integer
  pub roots : AreTruths inst.arena inst.roots
  pub goal : IsObjective inst.arena inst.goal

-- it has what is asked of each instance: a choice can be taken, since none was taken from an empty domain
abbrev pub InstanceMade : Type 0
InstanceMade = (s : Run) (ns : List HeldName) (inst : Instance) → IsMade s ns inst → IsInstance inst
