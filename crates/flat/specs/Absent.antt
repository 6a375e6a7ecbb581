-- Roots that fix the values of absent options: the least of their domains.
use Rattle.std.specs.Prelude.{◌≡◌, ℕ, ℤ, pos, List, [], ◌∷◌, ◌++◌, Bool, true, false, Option, Some, None}
use Rattle.std.specs.Ordering.{int_eq}
use Rattle.mz_interval.specs.Ends.{is_number}
use Rattle.mz_value.specs.declared.value.ShapeBase.{ShapeBase}
use Rattle.mz_value.specs.declared.value.ShapeBase.TheVariants as shape
use Rattle.mz_arena.specs.Entries.{Entry}
use Rattle.mz_arena.specs.Values as terms
use Rattle.mz_arena.specs.Values.{is_true, number}
use Rattle.mz_arena.specs.Terms.{term}
use Rattle.mz_arena.specs.Arenas.{Extends, IsArena}
use Rattle.mz_arena.specs.InBounds.{AreInDomains}
use Rattle.mz_arena.specs.Instances.{VarCell, ModelVar}
use Rattle.mz_instance.specs.Parts.{Part, occurrence, value_part, is_subset_sort, IsNode}
use Rattle.mz_instance.specs.Instance.{IsTruthOver}
use Rattle.mz_instance.specs.Solved.{AreDefaults, Defaults}
use Rattle.mz_partial.specs.Totals.{IsTruth, IsWhole}
use Rattle.flat_root.specs.Keeps.{AllTrue}
use Rattle.flat_root.specs.Totals.{IsRoot, AreRoots}

-- ---- one value

abbrev pub has_truths : ShapeBase → Bool
has_truths shape.Bool = true
has_truths _ = false

-- a Boolean, of which the least is false, or an integer with a number of the limit
abbrev pub IsValueNode : List Entry → Bool → ℕ → ℤ → Type 0
IsValueNode es true id l = IsTruth es id × (l ≡ pos 0)
IsValueNode es false id l = IsWhole es id × (is_number l ≡ true)

abbrev pub IsBitWhere : Bool → ℤ → Type 0
IsBitWhere true n = int_eq n (pos 0) ≡ false → n ≡ pos 1
IsBitWhere false n = Unit {0}

-- a Boolean node that tells whether a value is this number
pub record IsLeastNode (old new : List Entry) (truth : Bool) (id : ℕ) (l : ℤ) (t : ℕ) : Type 0 where
  pub extends : Extends old new
  pub arena : IsArena new
  pub is_truth : IsTruth new t
  pub means : (v : terms.Values) (n : ℤ) → AreInDomains new v → term v new id ≡ Some (number n) → IsBitWhere truth n → is_true (term v new t) ≡ int_eq n l

-- ---- one option

-- the nodes of a variable's option
pub record IsOption (es : List Entry) (m : ModelVar) (o : ℕ) (c : VarCell) : Type 0 where
  pub numbers : is_subset_sort (value_part m c).sort ≡ false
  pub first_ : ℕ
  pub first : IsNode es false first_ occurrence o
  pub second_ : ℕ
  pub second : IsNode es false second_ (value_part m c) c.term
  pub over : IsTruthOver (value_part m c).sort c.domain

abbrev pub IsOptionWhere : List Entry → ModelVar → Option ℕ → VarCell → Type 0
IsOptionWhere es m None c = Unit {0}
IsOptionWhere es m (Some o) c = IsOption es m o c

abbrev pub AreOptions : List Entry → ModelVar → List VarCell → Type 0
AreOptions es m [] = Unit {0}
AreOptions es m (c ∷ cs) = IsOptionWhere es m c.occurs c × AreOptions es m cs

abbrev pub AreAllOptions : List Entry → List ModelVar → Type 0
AreAllOptions es [] = Unit {0}
AreAllOptions es (m ∷ ms) = AreOptions es m m.cells × AreAllOptions es ms

-- ---- the roots

-- these are true exactly where each absent option of the cells has its default
pub record AreCellRoots (es : List Entry) (cs : List VarCell) (roots : List ℕ) : Type 0 where
  pub each : AreRoots es roots
  pub to : (v : terms.Values) → AreInDomains es v → AreDefaults cs v → AllTrue es roots v
  pub from : (v : terms.Values) → AreInDomains es v → AllTrue es roots v → AreDefaults cs v

-- the terms go on with no further variable or choice, and the list with such roots
pub record AddsCellRoots (old new : List Entry) (cs : List VarCell) (before after : List ℕ) : Type 0 where
  pub extends : Extends old new
  pub arena : IsArena new
  pub added : List ℕ
  pub items : after ≡ before ++ added
  pub roots : AreCellRoots new cs added

abbrev pub all_cells : List ModelVar → List VarCell
all_cells [] = []
all_cells (m ∷ ms) = m.cells ++ all_cells ms

pub record AreDefaultRoots (es : List Entry) (ms : List ModelVar) (roots : List ℕ) : Type 0 where
  pub each : AreRoots es roots
  pub to : (v : terms.Values) → AreInDomains es v → Defaults ms v → AllTrue es roots v
  pub from : (v : terms.Values) → AreInDomains es v → AllTrue es roots v → Defaults ms v
