-- Variables that are declared one after the other, each as the argument of a node.
use Rattle.std.specs.Prelude.{◌≡◌, ℕ, List, [], ◌∷◌, length, is_none}
use Rattle.mz_arena.specs.Instances.{VarCell, ModelVar}
use Rattle.std.specs.List.{flat_map}
use Rattle.mz_instance.specs.Parts.{occurrence, value_part, cell_ids, ids}
use Rattle.fz_program.specs.Names.{Name}
use Rattle.fz_program.specs.Arguments.{var}
use Rattle.fz_program.specs.Flat.{Variable}
use Rattle.fz_build.specs.Build.{MayDeclare, with_variable}
use Rattle.flat_meaning.specs.Front.{front_variable, front_variables, occurrence_label, value_label, cell_variables, variables_from}
use Rattle.flat_reif.specs.States.{State, IsState, put_at}
use Rattle.flat_reif.specs.Roots.{MayStand}

-- the variable stands last, and is the argument of the node
abbrev pub declared : State → ℕ → Variable → State
declared s i v = record { es = s.es; prog = with_variable s.prog v; args = put_at s.args i (var (length s.prog.vars)) }

-- one for each node
abbrev pub all_declared : State → List ℕ → List Variable → State
all_declared s [] vs = s
all_declared s (i ∷ is) [] = s
all_declared s (i ∷ is) (v ∷ vs) = all_declared (declared s i v) is vs

-- each may be declared after those before it
abbrev pub MayDeclareAll : State → List ℕ → List Variable → Type 0
MayDeclareAll s [] [] = Unit {0}
MayDeclareAll s [] (v ∷ vs) = ⊥
MayDeclareAll s (i ∷ is) [] = ⊥
MayDeclareAll s (i ∷ is) (v ∷ vs) = MayDeclare s.prog v × MayStand s i v.domain × MayDeclareAll (declared s i v) is vs

pub record AreDeclared (old new : State) (is : List ℕ) (vs : List Variable) : Type 0 where
  pub same : new ≡ all_declared old is vs
  pub state : IsState new

-- ---- the variables of a cell, at the place k of a variable with the name x

abbrev pub occurrence_variable : ModelVar → Name → ℕ → Variable
occurrence_variable m x k = front_variable (is_none m.index) (occurrence_label (is_none m.index) k x) occurrence

abbrev pub value_variable : ModelVar → Name → ℕ → VarCell → Variable
value_variable m x k c = front_variable (is_none m.index) (value_label (is_none m.index) m.opt k x) (value_part m c)

abbrev pub MayDeclareOne : State → ℕ → Variable → Type 0
MayDeclareOne s i v = MayDeclareAll s (i ∷ []) (v ∷ [])

abbrev pub IsOneDeclared : State → State → ℕ → Variable → Type 0
IsOneDeclared old new i v = AreDeclared old new (i ∷ []) (v ∷ [])

abbrev pub variables_at : ModelVar → Name → ℕ → VarCell → List Variable
variables_at m x k c = cell_variables (is_none m.index) m.opt k x (value_part m c)

abbrev pub MayDeclareCell : State → ModelVar → Name → ℕ → VarCell → Type 0
MayDeclareCell s m x k c = MayDeclareAll s (cell_ids c) (variables_at m x k c)

abbrev pub IsCellDeclared : State → State → ModelVar → Name → ℕ → VarCell → Type 0
IsCellDeclared old new m x k c = AreDeclared old new (cell_ids c) (variables_at m x k c)

-- ---- of several cells, from the first place on

abbrev pub MayDeclareCells : State → ModelVar → Name → List VarCell → Type 0
MayDeclareCells s m x cs = MayDeclareAll s (flat_map cell_ids cs) (variables_from m 1 x cs)

abbrev pub AreCellsDeclared : State → State → ModelVar → Name → List VarCell → Type 0
AreCellsDeclared old new m x cs = AreDeclared old new (flat_map cell_ids cs) (variables_from m 1 x cs)

-- ---- of several variables

abbrev pub MayDeclareVars : State → List Name → List ModelVar → Type 0
MayDeclareVars s table ms = MayDeclareAll s (ids ms) (front_variables table ms)

abbrev pub AreVarsDeclared : State → State → List Name → List ModelVar → Type 0
AreVarsDeclared old new table ms = AreDeclared old new (ids ms) (front_variables table ms)
