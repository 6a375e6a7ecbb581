-- WHAT THE FLATZINC PROGRAM OF A MODEL IS, and where there is none.
use Rattle.std.specs.Prelude.{◌≡◌, ℕ, List, map, length, ◌++◌, Result, Ok, Err}
use Rattle.mz_base.specs.declared.stop.Stop.{Stop}
use Rattle.mz_base.specs.declared.stop.Stop.TheVariants.{Refused, Memory}
use Rattle.mz_value.specs.Contents.{Content}
use Rattle.mz_core.specs.Program.{PlainProgram}
use Rattle.mz_core.specs.Tree.{Decl}
use Rattle.mz_arena.specs.Instances.{ModelVar}
use Rattle.mz_meaning.specs.Runs.{Answer, Out, Stopped, start}
use Rattle.mz_meaning.specs.Cells.{Given}
use Rattle.mz_meaning.specs.Contexts.{Positive}
use Rattle.mz_meaning.specs.Walk.{Limits, Assignment, Walked, ordered, walk}
use Rattle.mz_model_meaning.specs.Decoded.{named, all_parts}
use Rattle.mz_model_meaning.specs.Modeled.{AreVarsOf, names_of}
use Rattle.mz_model_meaning.specs.Refusals.{Stops}
use Rattle.fz_program.specs.Names.{Name}
use Rattle.fz_program.specs.declared.program.FzProgram.{FzProgram}
use Rattle.fz_program.specs.Flat.{Program, Variable, WellFormed, program}
use Rattle.flat_meaning.specs.Front.{front_variables, front_arrays}
use Rattle.flat_meaning.specs.Defined.{DefinedOnce}
use Rattle.flat_meaning.specs.Faithful.{AreIntroduced}
use Rattle.mz_headline.specs.Keeping.{KeepsSolutions}

-- a walk goes through, and finds these domains of the declared names, and choices of so many parts
abbrev pub HasFound : List Decl → List ModelVar → ℕ → Answer Walked → Type 0
HasFound ds vars choices (Out out end) = (map named out.names ≡ names_of ds vars) × (length (all_parts end.taken) ≡ choices)
HasFound ds vars choices (Stopped f) = ⊥

-- each walk over the model does, whatever values its variables have and whatever is chosen
pub record Finds (l : Limits) (p : PlainProgram) (vars : List ModelVar) (choices : ℕ) : Type 0 where
  pub each : (a : Assignment) (c : ℕ → Content) → HasFound (ordered p.decls p.order) vars choices (walk Positive l (Given c) a p start)

-- THE VARIABLES AND ARRAYS ARE THE MODEL'S, in the order of evaluation, with the domains that each walk finds; and then variables that are introduced, each defined by one row, but for those of choices
pub record HasFront (l : Limits) (table : List Name) (p : PlainProgram) (flat : Program) : Type 0 where
  pub vars : List ModelVar
  pub declared : AreVarsOf (ordered p.decls p.order) vars
  pub choices : ℕ
  pub found : Finds l p vars choices
  pub introduced : List Variable
  pub variables : flat.vars ≡ front_variables table vars ++ introduced
  pub numbered : AreIntroduced 0 introduced
  pub arrays : flat.arrays ≡ front_arrays table 0 vars
  pub once : DefinedOnce flat introduced choices

-- A PROGRAM IS COMPILED FROM A MODEL
pub record IsCompiled (l : Limits) (table : List Name) (p : PlainProgram) (flat : Program) : Type 0 where
  pub keeps : KeepsSolutions l table p flat
  pub formed : WellFormed flat
  pub front : HasFront l table p flat

-- the program is compiled from the model; or each walk over the model stops at this fault, and nothing solves the model
abbrev pub CompileEnds : Limits → List Name → PlainProgram → Result FzProgram Stop → Type 0
CompileEnds l table p (Ok flat) = IsCompiled l table p (program flat)
CompileEnds l table p (Err (Refused f)) = Stops l p f
CompileEnds l table p (Err Memory) = Unit {0}
