-- Values of their shapes' forms, in their domains.
use Rattle.std.specs.Prelude.{◌≡◌, ◌⊎◌, ℕ, List, [], ◌∷◌, Bool, true, length, Option, Some, None}
use Rattle.mz_value.specs.Ranges.{Range}
use Rattle.mz_value.specs.Contents.{Content, bool, int, case, set, absent}
use Rattle.mz_value.specs.declared.value.ShapeBase.{ShapeBase}
use Rattle.mz_value.specs.declared.value.ShapeBase.TheVariants as base
use Rattle.fz_items.specs.Forms.{Form}
use Rattle.fz_items.specs.Items.{Elements, has, truth_number, is_within, first_domain}
use Rattle.soln_reader.specs.Blocks.{Given, Block, whole}
use Rattle.soln_reader.specs.Stream.{Event, block, mark}
use Rattle.soln_reader.specs.Reader.{State, start, fed, GivesEvent, Needs}

-- elements

abbrev pub IsTruth : List Range → Content → Type 0
IsTruth d (bool b) = has d (truth_number b) ≡ true
IsTruth d _ = ⊥

abbrev pub IsNumber : List Range → Content → Type 0
IsNumber d (int x) = has d x ≡ true
IsNumber d _ = ⊥

-- the number of a case of this enum
abbrev pub IsCase : ℕ → List Range → Content → Type 0
IsCase e d (case f x) = (f ≡ e) × (has d x ≡ true)
IsCase e d _ = ⊥

-- a set, of an enum's cases or of integers
abbrev pub IsSetOf : Option ℕ → List Range → Content → Type 0
IsSetOf o d (set p s) = (p ≡ o) × (is_within s d ≡ true)
IsSetOf o d _ = ⊥

-- a value of a base in a domain
abbrev pub IsBased : ShapeBase → List Range → Content → Type 0
IsBased base.Bool d x = IsTruth d x
IsBased base.Int d x = IsNumber d x
IsBased (base.Enum e) d x = IsCase e d x
IsBased base.SetInt d x = IsSetOf None d x
IsBased (base.SetEnum e) d x = IsSetOf (Some e) d x

-- an element of a shape; one may be absent where they are options
abbrev pub IsElement : Form → List Range → Content → Type 0
IsElement f d x = IsBased f.base d x ⊎ ((f.opt ≡ true) × (x ≡ absent))

-- there is one for each domain
pub data OneEach (P : List Range → Content → Type 0) : List (List Range) → List Content → Type 0 where
  none_each : OneEach P [] []
  one_each : {d : List Range} {x : Content} {ds : List (List Range)} {xs : List Content} → P d x → OneEach P ds xs → OneEach P (d ∷ ds) (x ∷ xs)

-- values

-- the domains of the elements: of what is no array, the first
abbrev pub domains_by : Option (List Range) → List (List Range) → List (List Range)
domains_by None ds = first_domain ds ∷ []
domains_by (Some index) ds = ds

abbrev pub domains_of : Form → List (List Range)
domains_of f = domains_by f.index f.domains

-- A VALUE OF A FORM, each element in its domain
pub record IsValue (f : Form) (x : Content) : Type 0 where
  pub elements : List Content
  pub fit : OneEach (IsElement f) (domains_of f) elements
  pub is : whole f.index elements ≡ Some x

-- one for each form
pub data AreValues : List Form → List Content → Type 0 where
  no_values : AreValues [] []
  values : {f : Form} {x : Content} {fs : List Form} {xs : List Content} → IsValue f x → AreValues fs xs → AreValues (f ∷ fs) (x ∷ xs)

abbrev pub HasValues : List Form → Event → Type 0
HasValues fs (block xs) = AreValues fs xs
HasValues fs (mark m) = Unit {0}

-- what stands in an open block

abbrev pub ValueFits : Form → Option Elements → Type 0
ValueFits f None = Unit {0}
ValueFits f (Some v) = (v.index ≡ f.index) × OneEach (IsBased f.base) (domains_of f) v.items

-- an occurrence for each element
abbrev pub OccurrenceFits : Form → Option Elements → Type 0
OccurrenceFits f None = Unit {0}
OccurrenceFits f (Some o) = length o.items ≡ length (domains_of f)

pub record GivenFits (f : Form) (g : Given) : Type 0 where
  pub occurs : OccurrenceFits f g.occurs
  pub value : ValueFits f g.value

pub data AllFit : List Form → List Given → Type 0 where
  none_fit : AllFit [] []
  all_fit : {f : Form} {g : Given} {fs : List Form} {gs : List Given} → GivenFits f g → AllFit fs gs → AllFit (f ∷ fs) (g ∷ gs)

abbrev pub BlockFits : List Form → Block → Type 0
BlockFits fs None = Unit {0}
BlockFits fs (Some gs) = AllFit fs gs

-- what a reader holds of an open block
abbrev pub StateFits : State → Type 0
StateFits s = BlockFits s.forms s.block

-- laws: what a reader holds fits, and so do the values that it gives

abbrev pub BeginsFit : Type 0
BeginsFit = (fs : List Form) → StateFits (start fs)

abbrev pub StaysFitAsFed : Type 0
StaysFitAsFed = (s : State) (piece : List ℕ) → StateFits s → StateFits (fed s piece)

abbrev pub GivesValues : Type 0
GivesValues = (ended : Bool) (s u : State) (e : Event) → StateFits s → GivesEvent ended s e u → HasValues s.forms e × StateFits u

abbrev pub StaysFitAsNeeded : Type 0
StaysFitAsNeeded = (ended : Bool) (s u : State) → StateFits s → Needs ended s u → StateFits u
