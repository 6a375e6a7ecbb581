-- THE LOOPS OF THE WALK, over the declarations and over the constraints: what each keeps, a step of it, and where it stops.
use Rattle.std.specs.Prelude.{◌≡◌, pos, List, [], ◌∷◌, ◌++◌, Option, Some, None}
use Rattle.mz_base.specs.declared.fault.Fault.{Fault}
use Rattle.mz_base.specs.declared.fault.Span.{Span}
use Rattle.mz_base.specs.declared.kind.Kind.TheVariants.{UnboundedSet}
use Rattle.mz_core.specs.Program.{PlainProgram}
use Rattle.mz_core.specs.Tree.{Tree, Decl}
use Rattle.mz_meaning.specs.Cells.{Cell}
use Rattle.mz_meaning.specs.Contexts.{Positive}
use Rattle.mz_meaning.specs.Evaluation.{eval}
use Rattle.mz_meaning.specs.Forms.{World}
use Rattle.mz_meaning.specs.Runs as runs
use Rattle.mz_meaning.specs.Runs.{State, Answer, Out, Stopped, then_do, loop, fault, start}
use Rattle.mz_meaning.specs.Unbounded.{first_unbounded}
use Rattle.mz_meaning.specs.Walk.{Limits, Assignment, Declared, Walked, levels, ordered, names_env, world_at, declare_in, declare, constrain, aim, walk}
use Rattle.mz_symbol.specs.Runs.{Run}
use Rattle.mz_symbol.specs.Readings.{Reading, Reads, state_of}
use Rattle.mz_model_state.specs.Hands.{HeldName, HeldConstraint, Hand, cell_at, name_at, names_at, cells_at, walked_at, Assigned, WalkStops}

-- what reads a run reads an earlier one
abbrev pub ReadBack : Run → Run → Type 0
ReadBack old new = (r : Reading) → Reads r new → Reads r old

-- ---- the parts of a walk, under a reading

-- the world of an expression, after these names
abbrev pub world_after : Limits → PlainProgram → Reading → List HeldName → World
world_after l p r ns = world_at l r.mode p (names_env (names_at r ns))

-- the next declaration
abbrev pub name_run : Limits → PlainProgram → Reading → Assignment → List HeldName → Decl → runs.Run Declared
name_run l p r a ns d = declare_in (world_after l p r ns) (eval (world_after l p r ns) levels) Positive a d (names_env (names_at r ns))

-- a constraint
abbrev pub constraint_run : Limits → PlainProgram → Reading → List HeldName → Tree → runs.Run Cell
constraint_run l p r ns e = eval (world_after l p r ns) levels Positive e (names_env (names_at r ns))

-- the objective, if there is one
abbrev pub objective_run : Limits → PlainProgram → Reading → List HeldName → runs.Run (Option Cell)
objective_run l p r ns = aim (world_after l p r ns) Positive p.goal

-- what is left to do when these names are declared, and when the constraints have these cells too
abbrev pub after_constraints : Limits → PlainProgram → Reading → List Declared → List Cell → State → Answer Walked
after_constraints l p r xs cs s = then_do (aim (world_at l r.mode p (names_env xs)) Positive p.goal s) (λ o s. Out (record { names = xs; constraints = cs; objective = o }) s)

abbrev pub after_names : Limits → PlainProgram → Reading → List Declared → State → Answer Walked
after_names l p r xs s = then_do (loop (constrain (world_at l r.mode p (names_env xs)) Positive) [] p.constraints s) (after_constraints l p r xs)

-- ---- declarations

-- WHAT THE LOOP OVER DECLARATIONS KEEPS: the whole walk is what is left to do from here. An assignment is asked for the names so far
pub record IsDeclared (l : Limits) (p : PlainProgram) (s : Run) (ns : List HeldName) (rest : List Decl) : Type 0 where
  pub so_far : (r : Reading) (a : Assignment) → Reads r s → Assigned r a ns → walk Positive l r.mode a p start ≡ then_do (loop (declare Positive l r.mode a p) (names_at r ns) rest (state_of r s)) (after_names l p r)

-- a declaration gives this name
pub record IsNextName (l : Limits) (p : PlainProgram) (old new : Run) (ns : List HeldName) (d : Decl) (n : HeldName) : Type 0 where
  pub back : ReadBack old new
  pub means : (r : Reading) (a : Assignment) → Reads r new → Assigned r a (ns ++ n ∷ []) → name_run l p r a ns d (state_of r old) ≡ Out (name_at r n) (state_of r new)

-- a declaration stops
pub record IsNameFault (l : Limits) (p : PlainProgram) (old new : Run) (ns : List HeldName) (d : Decl) (f : Fault) : Type 0 where
  pub back : ReadBack old new
  pub stops : (r : Reading) (a : Assignment) → Reads r new → Assigned r a ns → name_run l p r a ns d (state_of r old) ≡ Stopped f

-- at the start nothing is made, and no declaration lacks a bound
abbrev pub Started : Type 0
Started = (l : Limits) (p : PlainProgram) (s : Run) → s.work ≡ 0 → s.weight ≡ 0 → s.choices ≡ [] → first_unbounded p ≡ None → IsDeclared l p s [] (ordered p.decls p.order)

-- a declaration without a bound stops the walk
abbrev pub UnboundedStops : Type 0
UnboundedStops = (l : Limits) (p : PlainProgram) (s : Run) (at : Span) → first_unbounded p ≡ Some at → WalkStops l p (fault UnboundedSet at (pos 0)) s []

abbrev pub OneMoreDeclared : Type 0
OneMoreDeclared = (l : Limits) (p : PlainProgram) (old new : Run) (ns : List HeldName) (d : Decl) (rest : List Decl) (n : HeldName) → IsDeclared l p old ns (d ∷ rest) → IsNextName l p old new ns d n → IsDeclared l p new (ns ++ n ∷ []) rest

abbrev pub OneStops : Type 0
OneStops = (l : Limits) (p : PlainProgram) (old new : Run) (ns : List HeldName) (d : Decl) (rest : List Decl) (f : Fault) → IsDeclared l p old ns (d ∷ rest) → IsNameFault l p old new ns d f → WalkStops l p f new ns

-- ---- constraints

-- WHAT THE LOOP OVER CONSTRAINTS KEEPS, when all names are declared
pub record IsConstrained (l : Limits) (p : PlainProgram) (s : Run) (ns : List HeldName) (cs : List HeldConstraint) (rest : List Tree) : Type 0 where
  pub so_far : (r : Reading) (a : Assignment) → Reads r s → Assigned r a ns → walk Positive l r.mode a p start ≡ then_do (loop (constrain (world_after l p r ns) Positive) (cells_at r cs) rest (state_of r s)) (after_constraints l p r (names_at r ns))

-- a constraint has this cell
pub record IsNextConstraint (l : Limits) (p : PlainProgram) (old new : Run) (ns : List HeldName) (e : Tree) (c : HeldConstraint) : Type 0 where
  pub back : ReadBack old new
  pub means : (r : Reading) → Reads r new → constraint_run l p r ns e (state_of r old) ≡ Out (c.cell r) (state_of r new)

-- a constraint stops
pub record IsConstraintFault (l : Limits) (p : PlainProgram) (old new : Run) (ns : List HeldName) (e : Tree) (f : Fault) : Type 0 where
  pub back : ReadBack old new
  pub stops : (r : Reading) → Reads r new → constraint_run l p r ns e (state_of r old) ≡ Stopped f

-- all names are declared
abbrev pub AllDeclared : Type 0
AllDeclared = (l : Limits) (p : PlainProgram) (s : Run) (ns : List HeldName) → IsDeclared l p s ns [] → IsConstrained l p s ns [] p.constraints

abbrev pub OneMoreConstrained : Type 0
OneMoreConstrained = (l : Limits) (p : PlainProgram) (old new : Run) (ns : List HeldName) (cs : List HeldConstraint) (e : Tree) (rest : List Tree) (c : HeldConstraint) → IsConstrained l p old ns cs (e ∷ rest) → IsNextConstraint l p old new ns e c → IsConstrained l p new ns (cs ++ c ∷ []) rest

abbrev pub ConstraintStops : Type 0
ConstraintStops = (l : Limits) (p : PlainProgram) (old new : Run) (ns : List HeldName) (cs : List HeldConstraint) (e : Tree) (rest : List Tree) (f : Fault) → IsConstrained l p old ns cs (e ∷ rest) → IsConstraintFault l p old new ns e f → WalkStops l p f new ns

-- ---- the objective, and the end

-- the objective, if there is one, has this cell, and with it all is in hand
pub record IsObjective (l : Limits) (p : PlainProgram) (old : Run) (h : Hand) : Type 0 where
  pub back : ReadBack old h.run
  pub means : (r : Reading) → Reads r h.run → objective_run l p r h.names (state_of r old) ≡ Out (cell_at r h.objective) (state_of r h.run)

-- it stops
pub record IsObjectiveFault (l : Limits) (p : PlainProgram) (old new : Run) (ns : List HeldName) (f : Fault) : Type 0 where
  pub back : ReadBack old new
  pub stops : (r : Reading) → Reads r new → objective_run l p r ns (state_of r old) ≡ Stopped f

abbrev pub ObjectiveStops : Type 0
ObjectiveStops = (l : Limits) (p : PlainProgram) (old new : Run) (ns : List HeldName) (cs : List HeldConstraint) (f : Fault) → IsConstrained l p old ns cs [] → IsObjectiveFault l p old new ns f → WalkStops l p f new ns

abbrev pub WholeWalk : Type 0
WholeWalk = (l : Limits) (p : PlainProgram) (old : Run) (h : Hand) → IsConstrained l p old h.names h.constraints [] → IsObjective l p old h → (r : Reading) (a : Assignment) → Reads r h.run → Assigned r a h.names → walk Positive l r.mode a p start ≡ Out (walked_at r h) (state_of r h.run)
