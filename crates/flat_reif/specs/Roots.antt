-- What posting leaves of the solutions, and states with more total terms.
use Rattle.std.specs.Prelude.{◌≡◌, ℕ, List, [], length, true, Some, None, IsSome, slice_get}
use Rattle.mz_arena.specs.declared.node.Node.{Node}
use Rattle.mz_arena.specs.Entries.{Entry, at}
use Rattle.mz_arena.specs.Extents.{as_truth, as_whole, extent}
use Rattle.mz_arena.specs.Arenas.{Extends}
use Rattle.mz_arena.specs.InBounds.{AreInDomains}
use Rattle.mz_arena.specs.Terms.{term}
use Rattle.mz_arena.specs.Values as terms
use Rattle.mz_arena.specs.Values.{is_true}
use Rattle.mz_partial.specs.declared.memo.Pair.{Pair}
use Rattle.mz_partial.specs.Totals.{IsPair}
use Rattle.fz_program.specs.declared.program.Domain.{Domain}
use Rattle.fz_program.specs.Arguments.{var}
use Rattle.fz_program.specs.declared.row_name.RowName.{RowName}
use Rattle.fz_program.specs.declared.row_name.Kind.TheVariants.{Int}
use Rattle.fz_program.specs.Values.{Values}
use Rattle.fz_program.specs.Flat.{Variable, Program, FlatSolves, is_plain, plain_value}
use Rattle.fz_build.specs.Build.{empty, with_variable}
use Rattle.flat_reif.specs.States.{State, Meets, Spreads, Flattened, IsState, put_at, free_domain}
use Rattle.flat_reif_rows.specs.Standing.{seen}
use Rattle.flat_reif_rows.specs.RootRows.{test_of}
use Rattle.flat_reif.specs.Lists.{IsNode, HasArg, is_front}

-- ---- states

-- with no variable, no row and no argument
abbrev pub begun : List Entry → State
begun es = record { es = es; prog = empty; args = [] }

abbrev pub with_prog : State → Program → State
with_prog s p = record { es = s.es; prog = p; args = s.args }

-- ---- posting

-- a step that keeps the solutions in which a condition holds
pub record Posted (old new : State) (Cond : terms.Values → Type 0) : Type 0 where
  pub spreads : Spreads old new Cond
  pub state : IsState new

-- a Boolean node is true
abbrev pub IsTrueAt : List Entry → ℕ → terms.Values → Type 0
IsTrueAt es id v = is_true (term v es id) ≡ true

abbrev pub Never : terms.Values → Type 0
Never v = ⊥

-- nothing solves the program, whatever the domains are
abbrev pub HasNoSolution : State → Type 0
HasNoSolution s = (f : Values) → FlatSolves s.prog f → ⊥

abbrev pub IsTruthNode : List Entry → ℕ → Type 0
IsTruthNode es id = IsSome (as_truth (extent es id))

-- a node of a kind that one row tests, and whose children have arguments
pub record HasTest (s : State) (id : ℕ) (name : RowName) : Type 0 where
  pub node : Node
  pub at_id : IsNode s.es id node
  pub row : test_of node.kind ≡ Some name
  pub first : HasArg s node.a
  pub second : HasArg s node.b

-- ---- total terms

-- the terms go on with no further variable or choice; the program and the arguments are the same
pub record Grown (old new : State) : Type 0 where
  pub extends : Extends old.es new.es
  pub prog : new.prog ≡ old.prog
  pub args : new.args ≡ old.args
  pub state : IsState new

-- and there is a total term of an id, with where the id has a value
pub record GrownTo (old new : State) (id : ℕ) (p : Pair) : Type 0 where
  pub grown : Grown old new
  pub pair : IsPair new.es id p

-- ---- the model's variables

-- a node without an argument that may stand for a variable of this domain
pub record MayStand (s : State) (id : ℕ) (domain : Domain) : Type 0 where
  pub entry : Entry
  pub is : slice_get s.es id ≡ Some entry
  pub front : is_front entry.node.kind ≡ true
  pub const : Entry
  pub over : slice_get s.es entry.node.a ≡ Some const
  pub written : domain ≡ free_domain entry.node.kind entry.node.c const.set
  pub none : at s.args id ≡ None

-- the variable stands last, and is the node's argument
pub record IsDeclared (old new : State) (id : ℕ) (v : Variable) : Type 0 where
  pub same : new.es ≡ old.es
  pub prog : new.prog ≡ with_variable old.prog v
  pub args : new.args ≡ put_at old.args id (var (length old.prog.vars))
  pub state : IsState new

-- ---- the objective

abbrev pub IsWholeNode : List Entry → ℕ → Type 0
IsWholeNode es id = IsSome (as_whole (extent es id))

-- a variable at a place that is this integer in each solution
pub record IsVariableFor (old new : State) (id k : ℕ) : Type 0 where
  pub flattened : Flattened old new
  pub sort : is_plain new.prog.vars Int (var k) ≡ true
  pub value : (v : terms.Values) (f : Values) → AreInDomains new.es v → Meets new v f → term v new.es id ≡ Some (seen (plain_value f (var k)))
