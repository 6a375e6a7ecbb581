-- THE BOUNDARY OF THE WALK: what the instance that is made of a model says of the model.
use Rattle.std.specs.Prelude.{◌≡◌, ℕ, ℤ, List, [], ◌∷◌, ◌++◌, map, Bool, true, false, Option, Some, None, is_none}
use Rattle.mz_value.specs.Ranges.{Range}
use Rattle.mz_value.specs.Contents.{Content}
use Rattle.mz_core.specs.Order.{no_dims}
use Rattle.mz_core.specs.Program.{PlainProgram, Goal, satisfy, minimize, maximize}
use Rattle.mz_core.specs.Tree.{Decl}
use Rattle.mz_arena.specs.declared.instance.InstanceGoal.{InstanceGoal}
use Rattle.mz_arena.specs.declared.instance.InstanceGoal.TheVariants.{Satisfy, Minimize, Maximize}
use Rattle.mz_arena.specs.Values.{Values}
use Rattle.mz_arena.specs.Numbering.{by_id, local_ids}
use Rattle.mz_arena.specs.Instances.{VarCell, ModelVar, ParValue, Instance}
use Rattle.mz_meaning.specs.Runs.{State, Out, start}
use Rattle.mz_meaning.specs.Cells.{Cell, Par, Var, Unshaped, Given}
use Rattle.mz_meaning.specs.Contexts.{Positive}
use Rattle.mz_meaning.specs.Domains.{Domain, Domains, Fixed, Scalar, Places}
use Rattle.mz_meaning.specs.Walk.{Limits, Assignment, Declared, Walked, ordered, walk}
use Rattle.mz_meaning.specs.Solutions.{Each, MatchesValue, IsMet, Aims}
use Rattle.mz_instance.specs.Parts.{base_of, AreNodes}
use Rattle.mz_instance.specs.Instance.{IsInstance}
use Rattle.mz_instance.specs.Solved.{Holds}
use Rattle.mz_model_meaning.specs.Decoded.{Named, named, AreShaped, model_domains, all_parts, Tells, Chooses, Fit}

-- ---- the instance's variables are those of the declarations, in the order of evaluation

abbrev pub cell_domain : ModelVar → VarCell → Domain
cell_domain m c = record { base = base_of m.base; opt = m.opt; set = c.domain }

abbrev pub domains_by : Option (List Range) → List Domain → Domains
domains_by None [] = Fixed
domains_by None (d ∷ ds) = Scalar d
domains_by (Some ix) ds = Places ix ds

abbrev pub domains_of : ModelVar → Domains
domains_of m = domains_by m.index (map (cell_domain m) m.cells)

pub record IsVarOf (d : Decl) (m : ModelVar) : Type 0 where
  pub name : m.name ≡ d.name
  pub base : base_of m.base ≡ d.ty.ty.base
  pub opt : m.opt ≡ d.ty.ty.opt
  pub index : is_none m.index ≡ no_dims d.ty.ty.dims

-- the domains of a declared name, which are those of the next variable where the name is var
abbrev pub var_head : Bool → List ModelVar → Domains
var_head false ms = Fixed
var_head true [] = Fixed
var_head true (m ∷ ms) = domains_of m

-- the variables that are left after it
abbrev pub var_tail : Bool → List ModelVar → List ModelVar
var_tail false ms = ms
var_tail true [] = []
var_tail true (m ∷ ms) = ms

-- the declared names, with the domains that the variables have
abbrev pub names_of : List Decl → List ModelVar → List Named
names_of [] ms = []
names_of (d ∷ ds) ms = record { slot = d.slot; domains = var_head d.ty.ty.var ms } ∷ names_of ds (var_tail d.ty.ty.var ms)

abbrev pub IsHead : Bool → Decl → List ModelVar → Type 0
IsHead false d ms = Unit {0}
IsHead true d [] = ⊥
IsHead true d (m ∷ ms) = IsVarOf d m

abbrev pub AreVarsOf : List Decl → List ModelVar → Type 0
AreVarsOf [] [] = Unit {0}
AreVarsOf [] (m ∷ ms) = ⊥
AreVarsOf (d ∷ ds) ms = IsHead d.ty.ty.var d ms × AreVarsOf ds (var_tail d.ty.ty.var ms)

abbrev pub names_in : PlainProgram → Instance → List Named
names_in p inst = names_of (ordered p.decls p.order) inst.vars

-- an instance minimizes where its model does, and maximizes where it does
abbrev pub HasGoalOf : Goal → InstanceGoal → Type 0
HasGoalOf satisfy g = g ≡ Satisfy
HasGoalOf (minimize e) g = (id : ℕ) × (g ≡ Minimize id)
HasGoalOf (maximize e) g = (id : ℕ) × (g ≡ Maximize id)

-- ---- par names

abbrev pub cell_par : ℕ → Cell → List ParValue
cell_par slot (Par None) = []
cell_par slot (Par (Some v)) = record { slot = slot; value = v } ∷ []
cell_par slot (Var b v) = []
cell_par slot (Unshaped d) = []

abbrev pub par_of : Domains → ℕ → Cell → List ParValue
par_of Fixed slot c = cell_par slot c
par_of (Scalar d) slot c = []
par_of (Places ix ds) slot c = []

-- the values of the par names, in the order of evaluation
abbrev pub par_values : List Declared → List ParValue
par_values [] = []
par_values (x ∷ xs) = par_of x.domains x.slot x.cell ++ par_values xs

-- ---- what a walk gives

-- all that a solution meets, but that its values lie in their domains
pub record IsSatisfied (a : Assignment) (out : Walked) (n : Option ℤ) : Type 0 where
  pub declared : Each (MatchesValue a) out.names
  pub constraints : Each IsMet out.constraints
  pub objective : Aims out.objective n

-- one walk over the model, under an assignment and choices that have the values `x` and `y`: within their domains, these make the roots true, with this objective, exactly where a solution's conditions are met
pub record IsWalked (l : Limits) (p : PlainProgram) (inst : Instance) (taken : List Domain) (a : Assignment) (c : ℕ → Content) (x y : Values) : Type 0 where
  pub out : Walked
  pub end : State
  pub runs : walk Positive l (Given c) a p start ≡ Out out end
  pub names : map named out.names ≡ names_in p inst
  pub pars : par_values out.names ≡ inst.pars
  pub takes : end.taken ≡ taken
  pub sound : (n : Option ℤ) → Fit (model_domains (names_in p inst)) x → Fit taken y → Holds inst (by_id inst.arena x y) n → IsSatisfied a out n
  pub complete : (n : Option ℤ) → Fit (model_domains (names_in p inst)) x → Fit taken y → IsSatisfied a out n → Holds inst (by_id inst.arena x y) n

-- AN INSTANCE IS MADE OF A MODEL
pub record Modeled (l : Limits) (p : PlainProgram) (inst : Instance) : Type 0 where
  pub sound : IsInstance inst
  pub vars : AreVarsOf (ordered p.decls p.order) inst.vars
  pub goal : HasGoalOf p.goal inst.goal
  -- the domains of the choices that each walk takes, and the nodes of their parts
  pub taken : List Domain
  pub shaped : AreShaped taken
  pub locals : AreNodes inst.arena true 0 (local_ids inst.arena) (all_parts taken)
  -- under every assignment and all choices
  pub walks : (a : Assignment) (c : ℕ → Content) (x y : Values) → Tells (names_in p inst) 0 x a → Chooses taken 0 0 y c → IsWalked l p inst taken a c x y
