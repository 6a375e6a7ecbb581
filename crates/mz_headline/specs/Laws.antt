-- What the two boundaries give together.
use Rattle.std.specs.Prelude.{List}
use Rattle.mz_core.specs.Program.{PlainProgram}
use Rattle.mz_arena.specs.Instances.{Instance}
use Rattle.mz_meaning.specs.Walk.{Limits, ordered}
use Rattle.mz_model_meaning.specs.Modeled.{Modeled}
use Rattle.fz_program.specs.Names.{Name}
use Rattle.fz_program.specs.Flat.{Program}
use Rattle.flat_meaning.specs.Faithful.{Faithful}
use Rattle.mz_headline.specs.Keeping.{AreNumbered, KeepsSolutions}

-- a program that is faithful to an instance keeps the solutions of the model that the instance is made of
abbrev pub BoundariesJoin : Type 0
BoundariesJoin = (l : Limits) (table : List Name) (p : PlainProgram) (inst : Instance) (flat : Program) → AreNumbered (ordered p.decls p.order) → Modeled l p inst → Faithful inst table flat → KeepsSolutions l table p flat
