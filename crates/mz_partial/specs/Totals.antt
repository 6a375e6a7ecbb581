-- What is kept of each id: a total term, and where the id has a value.
use Rattle.std.specs.Prelude.{◌≡◌, ℕ, ◌+◌, ◌<◌, ◌≤◌, List, length, take, Bool, true, false, Option, Some, None, IsSome, slice_get}
use Rattle.mz_interval.specs.Ends.{Ends}
use Rattle.mz_operations.specs.Bounds as bounds
use Rattle.mz_arena.specs.Entries.{Entry, children}
use Rattle.mz_arena.specs.Values.{Val, numbers, sets, empty, Term, Values, bit}
use Rattle.mz_arena.specs.Terms.{term}
use Rattle.mz_arena.specs.Extents.{Known, whole, truth, wholes, truths, subsets, empty as no_element, extent}
use Rattle.mz_arena.specs.Arenas.{Extends, IsArena}
use Rattle.mz_arena.specs.Charges.{charge_of, charges}
use Rattle.mz_arena.specs.InBounds.{AreInBounds}
use Rattle.mz_partial.specs.declared.part.Part.{Part}
use Rattle.mz_partial.specs.declared.memo.Pair.{Pair}
use Rattle.mz_partial.specs.Costs.{costs}
use Rattle.mz_partial.specs.Told.{HasElements, IsToldDefined}

-- a value where a condition holds, else none
abbrev pub only : Bool → Val → Term
only true w = Some w
only false w = None

-- a node that has a value wherever the variables lie in their bounds, as each node below it has
pub data IsTotal (es : List Entry) : ℕ → Type 0 where
  is_total : (id : ℕ) (e : Entry) → slice_get es id ≡ Some e → ((v : Values) → AreInBounds es v → IsSome (term v es id)) → ((k i : ℕ) → slice_get (children e.node) k ≡ Some i → IsTotal es i) → IsTotal es id

-- a Boolean node
pub record IsTruth (es : List Entry) (id : ℕ) : Type 0 where
  pub ends : Ends
  pub is : extent es id ≡ Some (truth ends)

-- an integer node
pub record IsWhole (es : List Entry) (id : ℕ) : Type 0 where
  pub ends : Ends
  pub is : extent es id ≡ Some (whole ends)

-- ---- the promise: a pair that splits an id

-- a term is a value where `defined` is true, and has none elsewhere; the value is the total term's
pub record Splits (defined total old : Term) : Type 0 where
  pub holds : Bool
  pub value : Val
  pub is_defined : defined ≡ bit holds
  pub has_value : total ≡ Some value
  pub is_old : old ≡ only holds value

-- a total term of an id, in the id's bounds, and a total Boolean that is true exactly where the id has a value
pub record IsPair (es : List Entry) (id : ℕ) (p : Pair) : Type 0 where
  pub truth : IsTruth es p.defined
  pub defined : IsTotal es p.defined
  pub total : IsTotal es p.term
  pub bounds : extent es p.term ≡ extent es id
  pub splits : (v : Values) → AreInBounds es v → Splits (term v es p.defined) (term v es p.term) (term v es id)
  pub own : IsToldDefined es id → p.term ≡ id

-- ---- what is kept of an id: no flag where it always has a value

-- a total Boolean node that is true where a condition on the values holds
pub record SaysAt (es : List Entry) (d : ℕ) (g : Values → Bool) : Type 0 where
  pub truth : IsTruth es d
  pub total : IsTotal es d
  pub is : (v : Values) → AreInBounds es v → term v es d ≡ bit (g v)

abbrev pub Says : List Entry → Option ℕ → (Values → Bool) → Type 0
Says es None g = (v : Values) → AreInBounds es v → g v ≡ true
Says es (Some d) g = SaysAt es d g

-- a total node with these bounds and values
pub record Has (es : List Entry) (id : ℕ) (x : Known) (w : Values → Val) : Type 0 where
  pub total : IsTotal es id
  pub bounds : extent es id ≡ x
  pub is : (v : Values) → AreInBounds es v → term v es id ≡ Some (w v)

-- bounds of a Boolean that may be false and may be true; of what is no Boolean nothing is asked
abbrev pub IsOpen : Known → Type 0
IsOpen (Some (truth e)) = e ≡ bounds.truth
IsOpen _ = Unit {0}

-- how many elements the bounds tell, and a value has
abbrev pub Tells : Known → ℕ → Type 0
Tells (Some (wholes es)) n = length es ≡ n
Tells (Some truths) n = 0 < n
Tells (Some (subsets us)) n = length us ≡ n
Tells (Some no_element) n = n ≡ 0
Tells _ n = Unit {0}

abbrev pub Counts : Val → ℕ → Type 0
Counts (numbers ns) n = length ns ≡ n
Counts (sets ss) n = length ss ≡ n
Counts empty n = n ≡ 0
Counts _ n = Unit {0}

-- nothing was made
abbrev pub IsItself : ℕ → Part → Type 0
IsItself id p = (p.flag ≡ None) × (p.term ≡ id)

pub record IsPart (es : List Entry) (id : ℕ) (p : Part) : Type 0 where
  pub holds : Values → Bool
  pub value : Values → Val
  pub flag : Says es p.flag holds
  pub kept : Has es p.term (extent es id) value
  pub is : (v : Values) → AreInBounds es v → term v es id ≡ only (holds v) (value v)
  -- a Boolean that may have no value has the bounds 0..1
  pub open_ : (d : ℕ) → p.flag ≡ Some d → IsOpen (extent es id)
  pub told : Tells (extent es id) p.len
  pub counts : (v : Values) → AreInBounds es v → Counts (value v) p.len
  pub elements : (n : ℕ) → HasElements es id n → p.len ≡ n
  pub own : IsToldDefined es id → IsItself id p

-- parts of the first ids
abbrev pub AreParts : List Entry → List Part → Type 0
AreParts es memo = (i : ℕ) (p : Part) → slice_get memo i ≡ Some p → IsPart es i p

-- the part of an id, in an arena that goes on. Of what is told to be defined nothing is made
pub record Parted (old new : List Entry) (id : ℕ) (p : Part) : Type 0 where
  pub extends : Extends old new
  pub arena : IsArena new
  pub same : IsToldDefined old id → new ≡ old
  pub cost : (e : Entry) → slice_get old id ≡ Some e → costs new ≤ costs old + charge_of e.node.kind
  pub part : IsPart new id p

-- what is made while the first m ids are looked at, of which n were before, costs at most what the arena charges for the others
abbrev pub CostsWithin : List Entry → List Entry → ℕ → ℕ → Type 0
CostsWithin old new n m = costs new + charges (take n old) ≤ costs old + charges (take m new)

-- the pair that a part gives
pub record Paired (old new : List Entry) (id : ℕ) (p : Pair) : Type 0 where
  pub extends : Extends old new
  pub pair : IsPair new id p
  pub cost : costs new ≤ costs old

-- the pair of an id, in an arena that goes on with no further variable or choice
pub record Totaled (old new : List Entry) (id : ℕ) (p : Pair) : Type 0 where
  pub extends : Extends old new
  pub pair : IsPair new id p

-- the parts of the first ids, in an arena that goes on
pub record Filled (old new : List Entry) (n : ℕ) (memo : List Part) : Type 0 where
  pub extends : Extends old new
  pub arena : IsArena new
  pub cost : CostsWithin old new n (length memo)
  pub parts : AreParts new memo
