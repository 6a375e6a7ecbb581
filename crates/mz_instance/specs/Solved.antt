-- WHAT VALUES OF AN INSTANCE'S VARIABLES AND CHOICES DO, by ids: which they may be, and what they make of the roots and the objective.
use Rattle.std.specs.Prelude.{◌≡◌, ℕ, ℤ, List, [], ◌∷◌, Bool, true, false, Option, Some, None, slice_get}
use Rattle.mz_operations.specs.declared.row.Side.TheVariants.{Least}
use Rattle.mz_operations.specs.Sets.{end_of}
use Rattle.mz_arena.specs.declared.instance.InstanceGoal.{InstanceGoal}
use Rattle.mz_arena.specs.declared.instance.InstanceGoal.TheVariants.{Satisfy, Minimize, Maximize}
use Rattle.mz_arena.specs.Entries.{Entry, is_free}
use Rattle.mz_arena.specs.FreeNodes.{is_set_kind}
use Rattle.mz_arena.specs.Instances.{VarCell, ModelVar, Instance}
use Rattle.mz_arena.specs.Terms.{term}
use Rattle.mz_arena.specs.Values.{Values, Term, number, is_true}
use Rattle.mz_instance.specs.Contents.{is_one}
use Rattle.mz_instance.specs.Parts.{Sort, Whole, Subset, FitsSort}

abbrev pub subset_or_whole : Bool → Sort
subset_or_whole true = Subset
subset_or_whole false = Whole

-- the value of a variable or a choice lies in its node's own set
pub record FitsNode (es : List Entry) (v : Values) (id : ℕ) (e : Entry) : Type 0 where
  pub over : Entry
  pub domain : slice_get es e.node.a ≡ Some over
  pub fits : FitsSort (subset_or_whole (is_set_kind e.node.kind)) over.set (v.number id) (v.set id)

abbrev pub FitsArena : List Entry → Values → Type 0
FitsArena es v = (id : ℕ) (e : Entry) → slice_get es id ≡ Some e → is_free e.node.kind ≡ true → FitsNode es v id e

abbrev pub AreTrue : List Entry → List ℕ → Values → Type 0
AreTrue es [] v = Unit {0}
AreTrue es (r ∷ rs) v = (is_true (term v es r) ≡ true) × AreTrue es rs v

-- a term has this integer for its value, where one is given
abbrev pub IsNumber : Term → Option ℤ → Type 0
IsNumber t None = ⊥
IsNumber t (Some n) = t ≡ Some (number n)

-- the objective has this value, and where there is none, none
abbrev pub GoalAt : List Entry → InstanceGoal → Values → Option ℤ → Type 0
GoalAt es Satisfy v n = n ≡ None
GoalAt es (Minimize id) v n = IsNumber (term v es id) n
GoalAt es (Maximize id) v n = IsNumber (term v es id) n

-- all roots are true, and the objective has this value
pub record Holds (inst : Instance) (v : Values) (n : Option ℤ) : Type 0 where
  pub roots : AreTrue inst.arena inst.roots v
  pub goal : GoalAt inst.arena inst.goal v n

-- ---- the values of absent options: the least of their domains

abbrev pub IsDefault : Option ℕ → VarCell → Values → Type 0
IsDefault None c v = Unit {0}
IsDefault (Some o) c v = is_one (v.number o) ≡ false → end_of Least c.domain ≡ Some (v.number c.term)

abbrev pub AreDefaults : List VarCell → Values → Type 0
AreDefaults [] v = Unit {0}
AreDefaults (c ∷ cs) v = IsDefault c.occurs c v × AreDefaults cs v

abbrev pub Defaults : List ModelVar → Values → Type 0
Defaults [] v = Unit {0}
Defaults (m ∷ ms) v = AreDefaults m.cells v × Defaults ms v
