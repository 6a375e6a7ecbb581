-- WHAT A FLATZINC PROGRAM IS TO THE INSTANCE THAT IT IS MADE OF: the instance's variables and arrays, and solutions that are the same in both directions.
use Rattle.std.specs.Prelude.{◌≡◌, ℕ, suc, ℤ, List, [], ◌∷◌, ◌++◌, length, true, false, Option}
use Rattle.mz_value.specs.Ranges.{Range}
use Rattle.mz_arena.specs.Instances.{Instance}
use Rattle.mz_arena.specs.Numbering.{local_ids}
use Rattle.mz_arena.specs.Values as terms
use Rattle.mz_instance.specs.Parts.{Sort, Subset, Part, ids, parts}
use Rattle.mz_instance.specs.Solved.{FitsArena, Holds, Defaults}
use Rattle.fz_program.specs.Names.{Name}
use Rattle.fz_program.specs.Values.{Value, Values, number, set}
use Rattle.fz_program.specs.Flat.{Program, Variable, WellFormed, FlatSolves}
use Rattle.flat_meaning.specs.Front.{introduced_name, front_variables, front_arrays}
use Rattle.flat_meaning.specs.Defined.{DefinedOnce}
use Rattle.flat_meaning.specs.Goals.{IsGoalOf, objective_of}

-- ---- introduced variables, whose names are numbered

pub record IsIntroduced (k : ℕ) (v : Variable) : Type 0 where
  pub label : v.label ≡ introduced_name k
  pub introduced : v.introduced ≡ true
  pub output : v.output ≡ false

abbrev pub AreIntroduced : ℕ → List Variable → Type 0
AreIntroduced k [] = Unit {0}
AreIntroduced k (v ∷ vs) = IsIntroduced k v × AreIntroduced (suc k) vs

-- ---- the values of the front's variables, by the values of the instance's nodes

abbrev pub value_by : Sort → ℤ → List Range → Value
value_by Subset n s = set s
value_by sort n s = number n

abbrev pub front_values : List Part → List ℕ → terms.Values → Values
front_values [] is v = []
front_values (p ∷ ps) [] v = []
front_values (p ∷ ps) (i ∷ is) v = value_by p.sort (v.number i) (v.set i) ∷ front_values ps is v

abbrev pub front_of : Instance → terms.Values → Values
front_of inst v = front_values (parts inst.vars) (ids inst.vars) v

-- ---- both directions

-- values of the instance that a solution of the program stands for
pub record IsReading (inst : Instance) (p : Program) (f : Values) : Type 0 where
  pub values : terms.Values
  pub fits : FitsArena inst.arena values
  pub defaults : Defaults inst.vars values
  pub rest : Values
  pub front : f ≡ front_of inst values ++ rest
  pub holds : Holds inst values (objective_of p.goal f)

-- a solution of the program that stands for these values, with this objective
pub record IsMet (inst : Instance) (p : Program) (v : terms.Values) (n : Option ℤ) : Type 0 where
  pub rest : Values
  pub solves : FlatSolves p (front_of inst v ++ rest)
  pub objective : objective_of p.goal (front_of inst v ++ rest) ≡ n

-- A PROGRAM IS FAITHFUL TO AN INSTANCE
pub record Faithful (inst : Instance) (table : List Name) (p : Program) : Type 0 where
  pub formed : WellFormed p
  pub goal : IsGoalOf inst.goal p.goal
  -- the instance's variables, and then those that are introduced; and its arrays
  pub introduced : List Variable
  pub vars : p.vars ≡ front_variables table inst.vars ++ introduced
  pub are : AreIntroduced 0 introduced
  pub arrays : p.arrays ≡ front_arrays table 0 inst.vars
  -- each introduced variable but a choice's is defined by one row
  pub once : DefinedOnce p introduced (length (local_ids inst.arena))
  -- each solution stands for values that make the roots true, and has their objective
  pub read : (f : Values) → FlatSolves p f → IsReading inst p f
  -- and for all such values some solution stands
  pub met : (v : terms.Values) (n : Option ℤ) → FitsArena inst.arena v → Defaults inst.vars v → Holds inst v n → IsMet inst p v n
  -- one alone, where there is no choice
  pub one : local_ids inst.arena ≡ [] → (v : terms.Values) (r q : Values) → FlatSolves p (front_of inst v ++ r) → FlatSolves p (front_of inst v ++ q) → r ≡ q
