-- The front of a program: the variables and the arrays of a model, and the nodes whose arguments they are.
use Rattle.std.specs.Prelude.{◌≡◌, ℕ, List, [], true, false, Some, slice_get}
use Rattle.mz_arena.specs.Entries.{Entry, at, is_free, is_local}
use Rattle.mz_arena.specs.Instances.{ModelVar}
use Rattle.mz_instance.specs.Instance.{AreModelVars, AreParts}
use Rattle.mz_instance.specs.Parts.{AreNodes, ids, parts}
use Rattle.fz_program.specs.declared.program.FzGoal.TheVariants.{Satisfy}
use Rattle.fz_program.specs.Names.{Name}
use Rattle.fz_program.specs.Arguments.{Plain, var}
use Rattle.fz_program.specs.Flat.{Program}
use Rattle.flat_meaning.specs.Front.{front_variables, front_arrays, AreNamed}
use Rattle.flat_reif.specs.States.{State, IsState}
use Rattle.flat_reif.specs.Lists.{HasFront}
use Rattle.flat_reif.specs.Roots.{begun}

-- each part of the variables has a node of its own, and no other node is a variable
pub record AreFrontOf (es : List Entry) (table : List Name) (ms : List ModelVar) : Type 0 where
  pub vars : AreModelVars ms
  pub suited : AreParts (parts ms)
  pub named : AreNamed table ms
  pub nodes : AreNodes es false 0 (ids ms) (parts ms)
  pub no_more : (id : ℕ) (e : Entry) → slice_get es id ≡ Some e → is_free e.node.kind ≡ true → is_local e.node.kind ≡ false → slice_get (ids ms) e.node.b ≡ Some id

-- a flattening that began, of the terms of these variables
pub record MayHaveFront (s : State) (table : List Name) (ms : List ModelVar) : Type 0 where
  pub begins : s ≡ begun s.es
  pub state : IsState s
  pub front : AreFrontOf s.es table ms

abbrev pub front_program : List Name → List ModelVar → Program
front_program table ms = record { vars = front_variables table ms; arrays = front_arrays table 0 ms; rows = []; goal = Satisfy }

-- the part of a node with an argument, which is the variable at the part's number
pub record IsOfPart (ms : List ModelVar) (i : ℕ) (p : Plain) : Type 0 where
  pub number : ℕ
  pub part : slice_get (ids ms) number ≡ Some i
  pub is : p ≡ var number

-- The program is the front. The variable at the number of a part is the argument of the part's node, and no other node has an argument.
pub record IsFronted (old new : State) (table : List Name) (ms : List ModelVar) : Type 0 where
  pub same : new.es ≡ old.es
  pub prog : new.prog ≡ front_program table ms
  pub args : (k i : ℕ) → slice_get (ids ms) k ≡ Some i → at new.args i ≡ Some (var k)
  pub only : (i : ℕ) (p : Plain) → at new.args i ≡ Some p → IsOfPart ms i p
  pub state : IsState new
  pub front : HasFront new
