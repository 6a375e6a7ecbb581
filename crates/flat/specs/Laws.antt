-- That the program that is left is faithful.
use Rattle.std.specs.Prelude.{ℕ, List}
use Rattle.mz_arena.specs.Instances.{Instance}
use Rattle.mz_instance.specs.Instance.{IsInstance}
use Rattle.fz_program.specs.declared.program.FzGoal.{FzGoal}
use Rattle.fz_program.specs.Names.{Name}
use Rattle.fz_program.specs.Flat.{WellFormed}
use Rattle.fz_build.specs.Build.{with_goal}
use Rattle.flat_meaning.specs.Faithful.{Faithful}
use Rattle.flat_reif.specs.States.{State}
use Rattle.flat.specs.Flattening.{IsFlattened}

abbrev pub FlatteningIsFaithful : Type 0
FlatteningIsFaithful = (inst : Instance) (table : List Name) (b s t : State) (defaults : List ℕ) (goal : FzGoal) → IsInstance inst → IsFlattened inst table b s t defaults goal → WellFormed (with_goal t.prog goal) → Faithful inst table (with_goal t.prog goal)
