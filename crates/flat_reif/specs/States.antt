-- The state of a flattening: the arguments that stand for the nodes of an arena, in a program that is being built.
use Rattle.std.specs.Prelude.{◌≡◌, ℕ, zero, suc, ◌+◌, ◌≤◌, pos, List, [], ◌∷◌, ◌++◌, length, map, take, Bool, true, false, Option, Some, None, slice_get}
use Rattle.std.specs.Option.{option_map}
use Rattle.mz_value.specs.Ranges.{Range}
use Rattle.mz_arena.specs.declared.node.Node.{Node}
use Rattle.mz_arena.specs.declared.node.NodeKind.{NodeKind}
use Rattle.mz_arena.specs.declared.node.NodeKind.TheVariants as kinds
use Rattle.mz_arena.specs.Entries.{Entry, at, is_free, is_local}
use Rattle.mz_arena.specs.Values as terms
use Rattle.mz_arena.specs.Terms.{term, own_id}
use Rattle.mz_arena.specs.Extents.{extent}
use Rattle.mz_arena.specs.Arenas.{IsArena}
use Rattle.mz_arena.specs.InBounds.{AreInDomains}
use Rattle.fz_program.specs.declared.program.Arg.{Arg}
use Rattle.fz_program.specs.declared.program.Domain.{Domain}
use Rattle.fz_program.specs.declared.program.Domain.TheVariants.{Bool as Truths, Ints as Integers, SetOf}
use Rattle.fz_program.specs.Arguments.{Plain, plain}
use Rattle.fz_program.specs.Values as values
use Rattle.fz_program.specs.Values.{Value, Values}
use Rattle.fz_program.specs.Flat.{Program, FlatSolves, IsInDomain, plain_value}
use Rattle.fz_build.specs.Build.{IsOver}
use Rattle.fz_build.specs.History.{Made}
use Rattle.flat_reif_rows.specs.Standing.{seen, Suits}
use Rattle.flat_reif.specs.declared.flat.Flat.{Flat}

-- the nodes, the program so far, and the argument of each id that has one
pub record State : Type 0 where
  pub es : List Entry
  pub prog : Program
  pub args : List (Option Plain)

-- the code's arguments
abbrev pub plain_args : List (Option Arg) → List (Option Plain)
plain_args args = map (option_map plain) args

abbrev pub state : Flat → State
state s = record { es = s.arena; prog = s.build; args = plain_args s.args.items }

-- the arguments with one more
abbrev pub put_at : List (Option Plain) → ℕ → Plain → List (Option Plain)
put_at [] zero p = Some p ∷ []
put_at [] (suc id) p = None ∷ put_at [] id p
put_at (a ∷ args) zero p = Some p ∷ args
put_at (a ∷ args) (suc id) p = a ∷ put_at args id p

-- ---- variables and choices

-- the value of a variable or a choice
abbrev pub own_value : terms.Values → Node → NodeKind → Value
own_value v n kinds.SetVar = values.set (v.set (own_id n))
own_value v n kinds.SetLocal = values.set (v.set (own_id n))
own_value v n _ = values.number (v.number (own_id n))

-- the domain as it is written: an empty one has 0
abbrev pub written : List Range → List Range
written [] = (pos 0, pos 0) ∷ []
written (r ∷ rs) = r ∷ rs

-- Boolean where the mark is 1
abbrev pub number_domain : ℕ → List Range → Domain
number_domain zero u = Integers (written u)
number_domain (suc mark) u = Truths

-- the domain of the variable that is a variable or a choice of the arena
abbrev pub free_domain : NodeKind → ℕ → List Range → Domain
free_domain kinds.SetVar mark u = SetOf u
free_domain kinds.SetLocal mark u = SetOf u
free_domain _ mark u = number_domain mark u

-- how many choices have a variable
abbrev pub one_choice : Bool → Option Plain → ℕ
one_choice true (Some p) = 1
one_choice true None = 0
one_choice false a = 0

abbrev pub given_choices : List Entry → List (Option Plain) → ℕ
given_choices [] args = 0
given_choices (e ∷ es) [] = 0
given_choices (e ∷ es) (a ∷ args) = one_choice (is_local e.node.kind) a + given_choices es args

-- ---- what a solution says of the arena's values

-- a solution from which these values are read off, where the variables and the choices have arguments
pub record Meets (s : State) (v : terms.Values) (f : Values) : Type 0 where
  pub solves : FlatSolves s.prog f
  pub linked : (id : ℕ) (e : Entry) (p : Plain) → slice_get s.es id ≡ Some e → is_free e.node.kind ≡ true → at s.args id ≡ Some p → own_value v e.node e.node.kind ≡ plain_value f p

-- what holds of a state at all times
pub record IsState (s : State) : Type 0 where
  pub arena : IsArena s.es
  -- each argument is of the variables, of its node's sort, and within its node's bounds
  pub places : (id : ℕ) (p : Plain) → at s.args id ≡ Some p → IsOver (length s.prog.vars) p
  pub suits : (id : ℕ) (p : Plain) → at s.args id ≡ Some p → Suits s.prog.vars p (extent s.es id)
  -- a variable or a choice has a value of its domain in each solution
  pub ranged : (v : terms.Values) (f : Values) → Meets s v f → (id : ℕ) (e d : Entry) (p : Plain) → slice_get s.es id ≡ Some e → is_free e.node.kind ≡ true → slice_get s.es e.node.a ≡ Some d → at s.args id ≡ Some p → IsInDomain (free_domain e.node.kind e.node.c d.set) (own_value v e.node e.node.kind)
  -- each argument equals its node's term
  pub right : (v : terms.Values) (f : Values) → AreInDomains s.es v → Meets s v f → (id : ℕ) (p : Plain) → at s.args id ≡ Some p → term v s.es id ≡ Some (seen (plain_value f p))

-- ---- steps

-- the old values, and more
pub record MeetsOn (new : State) (v : terms.Values) (f : Values) : Type 0 where
  pub rest : Values
  pub meets : Meets new v (f ++ rest)

-- Further variables, rows and arguments: the solutions of the new state are the old ones in which a condition holds, each extended, under all values of the choices, in one way alone.
pub record Spreads (old new : State) (Cond : terms.Values → Type 0) : Type 0 where
  pub same : new.es ≡ old.es
  pub longer : length old.prog.vars ≤ length new.prog.vars
  pub keeps : (id : ℕ) (p : Plain) → at old.args id ≡ Some p → at new.args id ≡ Some p
  pub down : (v : terms.Values) (f : Values) → Meets new v f → Meets old v (take (length old.prog.vars) f)
  pub holds : (v : terms.Values) (f : Values) → AreInDomains new.es v → Meets new v f → Cond v
  pub up : (v : terms.Values) (f : Values) → AreInDomains new.es v → Cond v → Meets old v f → MeetsOn new v f
  pub one : (v : terms.Values) (f g : Values) → Meets new v f → Meets new v g → take (length old.prog.vars) f ≡ take (length old.prog.vars) g → f ≡ g
  -- of the introduced variables only the choices have no row that defines them
  pub made : (front : Program) → Made front old.prog (given_choices old.es old.args) → Made front new.prog (given_choices new.es new.args)

abbrev pub Always : terms.Values → Type 0
Always v = Unit {0}

-- a step that asks nothing of the values
pub record Flattened (old new : State) : Type 0 where
  pub spreads : Spreads old new Always
  pub state : IsState new

abbrev pub FlattenedBoth : Type 0
FlattenedBoth = (p q r : State) → Flattened p q → Flattened q r → Flattened p r
