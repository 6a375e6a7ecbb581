-- What the steps of posting roots keep, while the terms go on.
use Rattle.std.specs.Prelude.{◌≡◌, ℕ, ◌≤◌, List, [], ◌∷◌, length, take, true, Some, slice_get}
use Rattle.std.specs.List.{AllByRecursion}
use Rattle.mz_arena.specs.Entries.{Entry, at, is_local}
use Rattle.mz_arena.specs.Values as terms
use Rattle.mz_arena.specs.Arenas.{Extends}
use Rattle.mz_arena.specs.InBounds.{AreInDomains}
use Rattle.fz_program.specs.Arguments.{Plain}
use Rattle.fz_program.specs.Values.{Values}
use Rattle.fz_program.specs.Flat.{Program}
use Rattle.fz_build.specs.History.{Made}
use Rattle.flat_reif.specs.States.{State, IsState, Meets, MeetsOn, Flattened, given_choices}
use Rattle.flat_reif.specs.Lists.{HasFront, HasArg, IsGiven}
use Rattle.flat_reif.specs.Roots.{IsTrueAt}

-- The terms go on with no further variable or choice. The solutions of the new state are the old ones in which a condition holds, each extended, under all values of the choices, in one way alone.
pub record Keeps (old new : State) (Cond : terms.Values → Type 0) : Type 0 where
  pub extends : Extends old.es new.es
  pub longer : length old.prog.vars ≤ length new.prog.vars
  pub keeps : (id : ℕ) (p : Plain) → at old.args id ≡ Some p → at new.args id ≡ Some p
  pub down : (v : terms.Values) (f : Values) → Meets new v f → Meets old v (take (length old.prog.vars) f)
  pub holds : (v : terms.Values) (f : Values) → AreInDomains new.es v → Meets new v f → Cond v
  pub up : (v : terms.Values) (f : Values) → AreInDomains new.es v → Cond v → Meets old v f → MeetsOn new v f
  pub one : (v : terms.Values) (f g : Values) → Meets new v f → Meets new v g → take (length old.prog.vars) f ≡ take (length old.prog.vars) g → f ≡ g
  pub made : (front : Program) → Made front old.prog (given_choices old.es old.args) → Made front new.prog (given_choices new.es new.args)

-- a state in which the model's variables have arguments
pub record IsReadyState (s : State) : Type 0 where
  pub state : IsState s
  pub front : HasFront s

-- such a state again
pub record Leads (old new : State) (Cond : terms.Values → Type 0) : Type 0 where
  pub keeps : Keeps old new Cond
  pub ready : IsReadyState new

-- all these nodes are true
abbrev pub AllTrue : List Entry → List ℕ → terms.Values → Type 0
AllTrue es [] v = Unit {0}
AllTrue es (id ∷ ids) v = IsTrueAt es id v × AllTrue es ids v

-- each choice has a variable
abbrev pub HasChoices : State → Type 0
HasChoices s = (id : ℕ) (e : Entry) → slice_get s.es id ≡ Some e → is_local e.node.kind ≡ true → HasArg s id

-- these ids are given, and each choice has a variable
pub record FlattenedFor (old new : State) (ids : List ℕ) : Type 0 where
  pub flattened : Flattened old new
  pub given : AllByRecursion (IsGiven new) ids
  pub choices : HasChoices new
