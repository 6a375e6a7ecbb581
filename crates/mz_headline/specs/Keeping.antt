-- WHAT A FLATZINC PROGRAM IS TO THE MODEL THAT IT WAS WRITTEN FOR: its solutions, read off by names, are the model's, with the same objective.
use Rattle.std.specs.Prelude.{◌≡◌, ◌<◌, ℕ, ℤ, Bool, true, false, List, [], length, Option, Some, slice_index_or, IsSome}
use Rattle.mz_base.specs.Names.{text_of}
use Rattle.mz_value.specs.Contents.{Content}
use Rattle.mz_core.specs.Program.{PlainProgram, Goal, satisfy, minimize, maximize}
use Rattle.mz_core.specs.Tree.{Decl}
use Rattle.mz_meaning.specs.Runs.{State, Out, start}
use Rattle.mz_meaning.specs.Cells.{Given}
use Rattle.mz_meaning.specs.Contexts.{Positive}
use Rattle.mz_meaning.specs.Walk.{Limits, Assignment, Walked, ordered, walk}
use Rattle.mz_meaning.specs.Solutions.{Each, SolvesWith}
use Rattle.fz_program.specs.Names.{Name}
use Rattle.fz_program.specs.Values.{Values}
use Rattle.fz_program.specs.declared.program.FzGoal.{FzGoal}
use Rattle.fz_program.specs.declared.program.FzGoal.TheVariants.{Satisfy}
use Rattle.fz_program.specs.Flat.{Program, FlatSolves}
use Rattle.flat_meaning.specs.Reading.{layout, read_content, HasDefaults}
use Rattle.flat_meaning.specs.Goals.{objective_of, IsMinimum, IsMaximum}

-- the declarations, in the order of evaluation, have their places as slots
abbrev pub AreNumbered : List Decl → Type 0
AreNumbered ds = (k : ℕ) (d : Decl) → k < length ds → (slice_index_or ds k d).slot ≡ k

-- ---- a declared name; nothing is asked of a par name

-- its variables are there, marked for output and of its kind
abbrev pub IsThereBy : Bool → List Name → Program → Decl → Type 0
IsThereBy false table flat d = Unit {0}
IsThereBy true table flat d = IsSome (layout d.ty.ty flat (text_of table d.name))

abbrev pub IsThere : List Name → Program → Decl → Type 0
IsThere table flat d = IsThereBy d.ty.ty.var table flat d

-- it has the value that is read off by its name
pub record IsRead (table : List Name) (flat : Program) (f : Values) (a : Assignment) (d : Decl) : Type 0 where
  pub content : Content
  pub read : read_content d.ty.ty flat f (text_of table d.name) ≡ Some content
  pub assigned : a d.slot ≡ Some content

abbrev pub ReadsBy : Bool → List Name → Program → Values → Assignment → Decl → Type 0
ReadsBy false table flat f a d = Unit {0}
ReadsBy true table flat f a d = IsRead table flat f a d

abbrev pub Reads : List Name → Program → Values → Assignment → Decl → Type 0
Reads table flat f a d = ReadsBy d.ty.ty.var table flat f a d

-- where it is an option that isn't there, its value's variable has the least number of its domain
abbrev pub DefaultsBy : Bool → List Name → Program → Values → Decl → Type 0
DefaultsBy false table flat f d = Unit {0}
DefaultsBy true table flat f d = HasDefaults d.ty.ty flat f (text_of table d.name)

abbrev pub HasDefault : List Name → Program → Values → Decl → Type 0
HasDefault table flat f d = DefaultsBy d.ty.ty.var table flat f d

-- ---- solutions

-- AN ASSIGNMENT IS READ OFF, by names, from the values of a program's variables
abbrev pub ReadsOff : List Name → PlainProgram → Program → Values → Assignment → Type 0
ReadsOff table p flat f a = Each (Reads table flat f a) (ordered p.decls p.order)

pub record Readable (table : List Name) (p : PlainProgram) (flat : Program) (f : Values) : Type 0 where
  pub assignment : Assignment
  pub reads : ReadsOff table p flat f assignment

-- some solution of the program, from which an assignment is read off, with this objective
pub record IsReadFrom (table : List Name) (p : PlainProgram) (flat : Program) (a : Assignment) (n : Option ℤ) : Type 0 where
  pub values : Values
  pub solves : FlatSolves flat values
  pub reads : ReadsOff table p flat values a
  pub objective : objective_of flat.goal values ≡ n

-- some walk over the model goes through and takes no choice; then none takes one
pub record TakesNone (l : Limits) (p : PlainProgram) : Type 0 where
  pub assignment : Assignment
  pub choices : ℕ → Content
  pub out : Walked
  pub end : State
  pub goes : walk Positive l (Given choices) assignment p start ≡ Out out end
  pub none : end.taken ≡ []

-- a program minimizes where its model does, and maximizes where it does
abbrev pub IsGoalFor : Goal → FzGoal → Type 0
IsGoalFor satisfy g = g ≡ Satisfy
IsGoalFor (minimize e) g = IsMinimum g
IsGoalFor (maximize e) g = IsMaximum g

pub record KeepsSolutions (l : Limits) (table : List Name) (p : PlainProgram) (flat : Program) : Type 0 where
  pub goal : IsGoalFor p.goal flat.goal
  -- each variable of the model is there by its name
  pub names : Each (IsThere table flat) (ordered p.decls p.order)
  -- an assignment can be read off from any values
  pub readable : (f : Values) → Readable table p flat f
  -- no solution is invented: what is read off from a solution of the program solves the model
  pub none_invented : (f : Values) (a : Assignment) → FlatSolves flat f → ReadsOff table p flat f a → SolvesWith l p a (objective_of flat.goal f)
  -- and none is lost: what solves the model is read off from a solution of the program
  pub none_lost : (a : Assignment) (n : Option ℤ) → SolvesWith l p a n → IsReadFrom table p flat a n
  -- in each solution, the value of an option that isn't there is the least of its domain
  pub defaults : (f : Values) → FlatSolves flat f → Each (HasDefault table flat f) (ordered p.decls p.order)
  -- from one alone, where no choice is taken
  pub one : TakesNone l p → (a : Assignment) (f g : Values) → FlatSolves flat f → FlatSolves flat g → ReadsOff table p flat f a → ReadsOff table p flat g a → f ≡ g
