-- WHAT IS MADE OF WHAT IS IN HAND at the end of a walk: variables, roots, and the values of par names.
use Rattle.std.specs.Prelude.{◌≡◌, ℕ, List, [], ◌∷◌, ◌++◌, map, take, Vec}
use Rattle.std.specs.Global.{Global}
use Rattle.mz_arena.specs.declared.instance.Instance.{Instance}
use Rattle.mz_arena.specs.declared.instance.InstanceGoal.{InstanceGoal}
use Rattle.mz_arena.specs.declared.instance.ModelVar.{ModelVar as CodeVar}
use Rattle.mz_arena.specs.declared.instance.ParValue.{ParValue as CodePar}
use Rattle.mz_arena.specs.Instances.{ModelVar, ParValue, model_var, par_value, instance}
use Rattle.mz_instance.specs.Instance.{IsModelVar, AreModelVars}
use Rattle.mz_model_meaning.specs.Modeled.{par_of, par_values}
use Rattle.mz_symbol.specs.Runs.{Run, IsRun}
use Rattle.mz_symbol.specs.Readings.{Reading}
use Rattle.mz_eval_cells.specs.declared.types.Known.{Known}
use Rattle.mz_eval_cells.specs.Views.{seen}
use Rattle.mz_model_state.specs.Hands as hands
use Rattle.mz_model_state.specs.Hands.{NameKind, kind_domains, names_at, name_roots, AreVars}
use Rattle.mz_model_state.specs.Variables.{IsMadeOf, AreMadeOf, part_count}
use Rattle.mz_model_state.specs.Tested.{IsTested}
use Rattle.mz_model_names.specs.declared.types.HeldName.{HeldName}
use Rattle.mz_model_names.specs.declared.types.Kind.{Kind}
use Rattle.mz_model_names.specs.declared.types.Label.{Label}
use Rattle.mz_model_names.specs.Named.{name_kind, held_name}
use Rattle.mz_model_names.specs.declared.close.types.Taken.{Taken}

-- the variable of a name with these places
pub record IsVarFor (k : NameKind) (m : ModelVar) : Type 0 where
  pub made : IsMadeOf k m
  pub counted : IsModelVar m

-- MADE OF THESE NAMES, in order: variables, roots, and the values of par names
pub record AreTaken (ns : List hands.HeldName) (vs : List ModelVar) (rs : List ℕ) (ps : List ParValue) : Type 0 where
  pub made : AreMadeOf ns vs
  pub counted : AreModelVars vs
  pub roots : rs ≡ name_roots ns
  pub pars : (r : Reading) → par_values (names_at r ns) ≡ ps

abbrev pub AreTakenOf : List hands.HeldName → Taken → Type 0
AreTakenOf ns t = AreTaken ns (map model_var t.vars.items) t.roots.items (map par_value t.pars.items)

-- what is made of one name more stands behind what was made before
pub record OneMoreTaken (n : hands.HeldName) (t u : Taken) : Type 0 where
  pub by : (ns : List hands.HeldName) → AreTakenOf ns t → AreTakenOf (ns ++ n ∷ []) u

-- of a name of this kind and cell, but for its roots
pub record IsNextTaken (l : Label) (k : Kind) (c : Known) (vs : Vec CodeVar Global) (ps : Vec CodePar Global) (p : Vec CodeVar Global × Vec CodePar Global) : Type 0 where
  pub own : List ModelVar
  pub vars : map model_var p.0.items ≡ map model_var vs.items ++ own
  pub made : (n : hands.HeldName) → n.kind ≡ name_kind k → AreMadeOf (n ∷ []) own
  pub counted : AreModelVars own
  pub pars : (r : Reading) → map par_value p.1.items ≡ map par_value ps.items ++ par_of (kind_domains (name_kind k)) l.slot (seen r c)

-- AN INSTANCE OF WHAT IS IN HAND: a run, names, the constraints' roots and the objective
pub record IsClosing (s : Run) (names : List HeldName) (constraints : List ℕ) (g : InstanceGoal) (inst : Instance) : Type 0 where
  pub run : IsRun s
  pub vars : AreVars s (map held_name names)
  pub made : AreMadeOf (map held_name names) (instance inst).vars
  pub counted : AreModelVars (instance inst).vars
  pub pars : (r : Reading) → par_values (names_at r (map held_name names)) ≡ (instance inst).pars
  pub arena : (instance inst).arena ≡ s.arena
  pub roots : (instance inst).roots ≡ name_roots (map held_name names) ++ constraints
  pub goal : (instance inst).goal ≡ g
  pub tested : IsTested s (instance inst).vars (instance inst).roots g

-- some of these names are taken, and the rest is still to come
pub record AreTakenSoFar (all rest : List hands.HeldName) (t : Taken) : Type 0 where
  pub first : List hands.HeldName
  pub whole : first ++ rest ≡ all
  pub taken : AreTakenOf first t

-- the parts of the first names have their nodes, and this is the next number
pub record ArePlacedUpTo (s : Run) (all : List HeldName) (i n : ℕ) : Type 0 where
  pub vars : AreVars s (map held_name (take i all))
  pub number : n ≡ part_count (map held_name (take i all))
