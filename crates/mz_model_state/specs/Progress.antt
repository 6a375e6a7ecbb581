-- HOW FAR THE WALK IS: what is in hand between two declarations, between two constraints, and at the end.
use Rattle.std.specs.Prelude.{◌≡◌, ℕ, List, [], ◌∷◌, ◌++◌, length, map, None}
use Rattle.mz_base.specs.declared.fault.Fault.{Fault}
use Rattle.mz_core.specs.Program.{PlainProgram}
use Rattle.mz_core.specs.Tree.{Tree, Decl}
use Rattle.mz_arena.specs.Instances.{ModelVar, Instance}
use Rattle.mz_instance.specs.Instance.{AreModelVars}
use Rattle.mz_meaning.specs.Unbounded.{first_unbounded}
use Rattle.mz_meaning.specs.Walk.{Limits, ordered}
use Rattle.mz_model_meaning.specs.Decoded.{AreShaped}
use Rattle.mz_model_meaning.specs.Modeled.{AreVarsOf, par_values, HasGoalOf, Modeled}
use Rattle.mz_model_meaning.specs.Refusals.{StopsOnce}
use Rattle.mz_symbol.specs.Symbols.{domain_of}
use Rattle.mz_symbol.specs.Runs.{Run, IsRun}
use Rattle.mz_symbol.specs.Readings.{Reading}
use Rattle.mz_model_state.specs.Hands.{HeldName, HeldConstraint, Hand, kind_places, all_places, names_at, AreVars, IsRootedName, IsRooted, AreRootedNames, AreRooted, IsAimed, name_roots, constraint_roots, SlotsFrom, WalkStops}
use Rattle.mz_model_state.specs.Loops.{IsDeclared, IsNextName, IsNameFault, IsConstrained, IsNextConstraint, IsConstraintFault, IsObjective, IsObjectiveFault}
use Rattle.mz_model_state.specs.Variables.{AreMadeOf, IsNameOf, AreNamesOf}
use Rattle.mz_model_state.specs.Tested.{IsTested}

-- ---- declarations

-- THESE NAMES ARE DECLARED, those of the first declarations, and the rest are still to come
pub record IsBetween (l : Limits) (p : PlainProgram) (s : Run) (first rest : List Decl) (ns : List HeldName) : Type 0 where
  pub whole : first ++ rest ≡ ordered p.decls p.order
  pub walk : IsDeclared l p s ns rest
  pub rooted : AreRootedNames s ns ns
  pub names : AreNamesOf first ns
  pub slots : SlotsFrom 0 ns
  pub shaped : AreShaped (map domain_of (all_places ns))

-- nothing is declared
abbrev pub Begins : Type 0
Begins = (l : Limits) (p : PlainProgram) (s : Run) → s.work ≡ 0 → s.weight ≡ 0 → s.choices ≡ [] → first_unbounded p ≡ None → IsBetween l p s [] (ordered p.decls p.order) []

-- what is asked of the next name
pub record IsNext (l : Limits) (p : PlainProgram) (old new : Run) (ns : List HeldName) (d : Decl) (n : HeldName) : Type 0 where
  pub name : IsNextName l p old new ns d n
  pub rooted : IsRootedName new (ns ++ n ∷ []) n
  pub is : IsNameOf d n
  pub slot : n.slot ≡ length ns
  pub shaped : AreShaped (map domain_of (kind_places n.kind))

abbrev pub OneMoreName : Type 0
OneMoreName = (l : Limits) (p : PlainProgram) (old new : Run) (first rest : List Decl) (ns : List HeldName) (d : Decl) (n : HeldName) → IsBetween l p old first (d ∷ rest) ns → IsNext l p old new ns d n → IsBetween l p new (first ++ d ∷ []) rest (ns ++ n ∷ [])

-- ---- constraints

-- ALL NAMES ARE DECLARED, and the first constraints have these cells
pub record IsAmong (l : Limits) (p : PlainProgram) (s : Run) (ns : List HeldName) (cs : List HeldConstraint) (rest : List Tree) : Type 0 where
  pub walk : IsConstrained l p s ns cs rest
  pub rooted : AreRootedNames s ns ns
  pub met : AreRooted s cs
  pub names : AreNamesOf (ordered p.decls p.order) ns
  pub slots : SlotsFrom 0 ns
  pub shaped : AreShaped (map domain_of (all_places ns))

abbrev pub AllNames : Type 0
AllNames = (l : Limits) (p : PlainProgram) (s : Run) (first : List Decl) (ns : List HeldName) → IsBetween l p s first [] ns → IsAmong l p s ns [] p.constraints

abbrev pub OneMoreConstraint : Type 0
OneMoreConstraint = (l : Limits) (p : PlainProgram) (old new : Run) (ns : List HeldName) (cs : List HeldConstraint) (e : Tree) (rest : List Tree) (c : HeldConstraint) → IsAmong l p old ns cs (e ∷ rest) → IsNextConstraint l p old new ns e c → IsRooted new c → IsAmong l p new ns (cs ++ c ∷ []) rest

-- ---- where it stops

-- the parts of the names have their nodes, and the slots are in order
pub record IsHalted (s : Run) (ns : List HeldName) : Type 0 where
  pub run : IsRun s
  pub vars : AreVars s ns
  pub slots : SlotsFrom 0 ns

abbrev pub DeclarationHalts : Type 0
DeclarationHalts = (l : Limits) (p : PlainProgram) (old new : Run) (first rest : List Decl) (ns : List HeldName) (d : Decl) (f : Fault) → IsBetween l p old first (d ∷ rest) ns → IsNameFault l p old new ns d f → WalkStops l p f new ns

abbrev pub ConstraintHalts : Type 0
ConstraintHalts = (l : Limits) (p : PlainProgram) (old new : Run) (ns : List HeldName) (cs : List HeldConstraint) (e : Tree) (rest : List Tree) (f : Fault) → IsAmong l p old ns cs (e ∷ rest) → IsConstraintFault l p old new ns e f → WalkStops l p f new ns

abbrev pub ObjectiveHalts : Type 0
ObjectiveHalts = (l : Limits) (p : PlainProgram) (old new : Run) (ns : List HeldName) (cs : List HeldConstraint) (f : Fault) → IsAmong l p old ns cs [] → IsObjectiveFault l p old new ns f → WalkStops l p f new ns

abbrev pub HaltedStops : Type 0
HaltedStops = (l : Limits) (p : PlainProgram) (f : Fault) (s : Run) (ns : List HeldName) → IsHalted s ns → WalkStops l p f s ns → StopsOnce l p f

-- ---- the end

-- ALL IS IN HAND, and the instance that is made of it has passed the test
pub record IsClosed (l : Limits) (p : PlainProgram) (old : Run) (h : Hand) (inst : Instance) : Type 0 where
  pub walk : IsAmong l p old h.names h.constraints []
  pub objective : IsObjective l p old h
  pub run : IsRun h.run
  pub vars : AreVars h.run h.names
  pub goal : HasGoalOf p.goal inst.goal
  pub aimed : IsAimed h.run h.objective inst.goal
  pub arena : inst.arena ≡ h.run.arena
  pub roots : inst.roots ≡ name_roots h.names ++ constraint_roots h.constraints
  pub pars : (r : Reading) → par_values (names_at r h.names) ≡ inst.pars
  pub made : AreMadeOf h.names inst.vars
  pub counted : AreModelVars inst.vars
  pub declared : AreVarsOf (ordered p.decls p.order) inst.vars
  pub tested : IsTested h.run inst.vars inst.roots inst.goal

-- THE INSTANCE IS THE MODEL'S
abbrev pub ClosedModels : Type 0
ClosedModels = (l : Limits) (p : PlainProgram) (old : Run) (h : Hand) (inst : Instance) → IsClosed l p old h inst → Modeled l p inst
