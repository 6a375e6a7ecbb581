-- PARTS: what the variables and the choices of an instance are made of. A cell has one part, its value. An option's cell has two, its occurrence and then its value. Parts are numbered from 0 in the order of evaluation, place by place. The number of a variable's part is the `b` of its node, and the place of its variable in the program that is written. The parts of choices are numbered by themselves.
use Rattle.std.specs.Prelude.{◌≡◌, ◌≢◌, ℕ, suc, ℤ, pos, List, [], ◌∷◌, Bool, true, false, Option, Some, None, slice_get}
use Rattle.std.specs.List.{flat_map}
use Rattle.mz_value.specs.Ranges.{Range, AreCanonical, Has}
use Rattle.mz_value.specs.declared.value.ShapeBase.{ShapeBase}
use Rattle.mz_value.specs.declared.value.ShapeBase.TheVariants as shape
use Rattle.mz_core.specs.declared.types.Base.{Base}
use Rattle.mz_core.specs.declared.types.Base.TheVariants as base
use Rattle.mz_arena.specs.Entries.{Entry, is_free, is_local}
use Rattle.mz_arena.specs.FreeNodes.{is_set_kind}
use Rattle.mz_arena.specs.Instances.{VarCell, ModelVar}
use Rattle.mz_arena.specs.Terms.{own_id}
use Rattle.mz_arena.specs.Values.{Values}

-- an integer or a case of an enum; a truth value as 0 or 1; a set
pub data Sort : Type 0 where
  Whole : Sort
  Truth : Sort
  Subset : Sort

-- what a part is, and the numbers that it may be, or that its set may have
pub record Part : Type 0 where
  pub sort : Sort
  pub set : List Range

abbrev pub is_subset_sort : Sort → Bool
is_subset_sort Subset = true
is_subset_sort sort = false

abbrev pub sort_of : Base → Sort
sort_of base.Bool = Truth
sort_of base.SetInt = Subset
sort_of (base.SetEnum e) = Subset
sort_of b = Whole

-- the base of a variable's values, as types have it
abbrev pub base_of : ShapeBase → Base
base_of shape.Bool = base.Bool
base_of shape.Int = base.Int
base_of (shape.Enum e) = base.Enum e
base_of shape.SetInt = base.SetInt
base_of (shape.SetEnum e) = base.SetEnum e

-- false and true
abbrev pub truths : List Range
truths = (pos 0, pos 1) ∷ []

-- whether an option is there
abbrev pub occurrence : Part
occurrence = record { sort = Truth; set = truths }

-- the parts of a cell whose value is this part: an option's, or not
abbrev pub parts_of : Bool → Part → List Part
parts_of true p = occurrence ∷ p ∷ []
parts_of false p = p ∷ []

-- the number of the first part after such a cell's, whose own first part has this number
abbrev pub next : Bool → ℕ → ℕ
next true k = suc (suc k)
next false k = suc k

-- ---- of an instance's variables

abbrev pub value_part : ModelVar → VarCell → Part
value_part m c = record { sort = sort_of (base_of m.base); set = c.domain }

abbrev pub var_parts : ModelVar → List Part
var_parts m = flat_map (λ c. parts_of m.opt (value_part m c)) m.cells

-- all parts of these variables, in order
abbrev pub parts : List ModelVar → List Part
parts ms = flat_map var_parts ms

abbrev pub after_occurrence : Option ℕ → ℕ → List ℕ
after_occurrence None i = i ∷ []
after_occurrence (Some o) i = o ∷ i ∷ []

abbrev pub cell_ids : VarCell → List ℕ
cell_ids c = after_occurrence c.occurs c.term

abbrev pub var_ids : ModelVar → List ℕ
var_ids m = flat_map cell_ids m.cells

-- the ids of their nodes, in the same order
abbrev pub ids : List ModelVar → List ℕ
ids ms = flat_map var_ids ms

-- the number of the first part after those of these cells
abbrev pub after_cells : Bool → List VarCell → ℕ → ℕ
after_cells opt [] k = k
after_cells opt (c ∷ cs) k = after_cells opt cs (next opt k)

-- ---- nodes of parts

-- 1 for a truth value
abbrev pub truth_mark : Sort → ℕ
truth_mark Truth = 1
truth_mark sort = 0

-- A PART HAS THIS NODE: a variable's, or a choice's, of the part's sort and over its set, with the part's number
pub record IsNode (es : List Entry) (choice : Bool) (k : ℕ) (p : Part) (id : ℕ) : Type 0 where
  pub there : Entry
  pub stands : slice_get es id ≡ Some there
  pub free : is_free there.node.kind ≡ true
  pub local : is_local there.node.kind ≡ choice
  pub sort : is_set_kind there.node.kind ≡ is_subset_sort p.sort
  pub mark : p.sort ≢ Subset → there.node.c ≡ truth_mark p.sort
  pub own : own_id there.node ≡ id
  pub number : there.node.b ≡ k
  pub over : Entry
  pub domain : slice_get es there.node.a ≡ Some over
  pub set : over.set ≡ p.set

-- each part has its node, where the first part has the number k
abbrev pub AreNodes : List Entry → Bool → ℕ → List ℕ → List Part → Type 0
AreNodes es choice k [] [] = Unit {0}
AreNodes es choice k [] (p ∷ ps) = ⊥
AreNodes es choice k (i ∷ is) [] = ⊥
AreNodes es choice k (i ∷ is) (p ∷ ps) = IsNode es choice k p i × AreNodes es choice (suc k) is ps

-- ---- values of parts

-- a number is one of the set's, and a set is a part of it
abbrev pub FitsSort : Sort → List Range → ℤ → List Range → Type 0
FitsSort Subset u n s = AreCanonical s × ((x : ℤ) → Has s x → Has u x)
FitsSort sort u n s = Has u n

abbrev pub Fits : Part → ℤ → List Range → Type 0
Fits p n s = FitsSort p.sort p.set n s

-- the values by number fit, where the first part has the number k
abbrev pub AllFit : List Part → ℕ → Values → Type 0
AllFit [] k x = Unit {0}
AllFit (p ∷ ps) k x = Fits p (x.number k) (x.set k) × AllFit ps (suc k) x

-- the values by ids fit, where the parts have these nodes
abbrev pub AllFitAt : List Part → List ℕ → Values → Type 0
AllFitAt [] is v = Unit {0}
AllFitAt (p ∷ ps) [] v = ⊥
AllFitAt (p ∷ ps) (i ∷ is) v = Fits p (v.number i) (v.set i) × AllFitAt ps is v
