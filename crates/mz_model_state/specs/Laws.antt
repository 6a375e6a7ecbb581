-- What the walk has in hand gives the boundary of the walk.
use Rattle.std.specs.Prelude.{ℕ, List, map}
use Rattle.mz_base.specs.declared.fault.Fault.{Fault}
use Rattle.mz_value.specs.Contents.{Content}
use Rattle.mz_core.specs.Program.{PlainProgram}
use Rattle.mz_arena.specs.Instances.{Instance}
use Rattle.mz_arena.specs.Numbering.{by_id}
use Rattle.mz_arena.specs.Values.{Values}
use Rattle.mz_meaning.specs.Walk.{Limits, Assignment, ordered}
use Rattle.mz_instance.specs.Instance.{IsInstance}
use Rattle.mz_model_meaning.specs.Decoded.{Tells}
use Rattle.mz_model_meaning.specs.Modeled.{AreVarsOf, Modeled}
use Rattle.mz_model_meaning.specs.Refusals.{StopsOnce}
use Rattle.mz_symbol.specs.Runs.{Run, IsRun}
use Rattle.mz_symbol.specs.Readings.{reading}
use Rattle.mz_model_state.specs.Hands.{HeldName, Hand, IsHeld, IsStopped, AreVars, AllAssigned, named_as}

-- an assignment that has the values of the parts has those of the places
abbrev pub TellsAssigned : Type 0
TellsAssigned = (s : Run) (ns : List HeldName) (c : ℕ → Content) (a : Assignment) (x y : Values) → IsRun s → AreVars s ns → Tells (map named_as ns) 0 x a → AllAssigned (reading c (by_id s.arena x y) s).term a ns

-- THE INSTANCE THAT IS MADE OF WHAT IS IN HAND IS THE MODEL'S
abbrev pub HandModels : Type 0
HandModels = (l : Limits) (p : PlainProgram) (inst : Instance) (h : Hand) → IsInstance inst → AreVarsOf (ordered p.decls p.order) inst.vars → IsHeld l p inst h → Modeled l p inst

-- AND WHERE THE WALK STOPS UNDER EACH READING, SOME WALK STOPS
abbrev pub HandStops : Type 0
HandStops = (l : Limits) (p : PlainProgram) (f : Fault) (s : Run) (ns : List HeldName) → IsStopped l p f s ns → StopsOnce l p f
