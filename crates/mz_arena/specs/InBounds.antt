-- Terms that lie in the bounds of their nodes.
use Rattle.std.specs.Prelude.{◌≡◌, ℕ, ℤ, pos, List, [], ◌∷◌, slice_get, true, Some, None}
use Rattle.mz_value.specs.Ranges.{Range, Has}
use Rattle.mz_interval.specs.Ends.{Ends, Encloses}
use Rattle.mz_operations.specs.Laws.{IsSet, IsPart, AreSets}
use Rattle.mz_arena.specs.declared.node.Node.{Node}
use Rattle.mz_arena.specs.declared.node.NodeKind.{NodeKind}
use Rattle.mz_arena.specs.declared.node.NodeKind.TheVariants.{Var, Local, SetVar, SetLocal}
use Rattle.mz_arena.specs.Entries.{Entry, is_free}
use Rattle.mz_arena.specs.Values.{Val, number, set, numbers, sets, empty, Term, Values}
use Rattle.mz_arena.specs.Terms.{term, own_id}
use Rattle.mz_arena.specs.Extents.{Extent, Known, whole, truth, subset, wholes, truths, subsets, empty as no_element, is_bit, extent}
use Rattle.mz_arena.specs.Arenas.{IsArena}

-- ---- a value in bounds

-- 0 or 1, between the ends
pub record IsBitIn (e : Ends) (n : ℤ) : Type 0 where
  pub bit : is_bit n ≡ true
  pub inside : Encloses e n

-- a set of which u has all
pub record IsSetIn (u s : List Range) : Type 0 where
  pub set : IsSet s
  pub part : IsPart s u

-- element by element
abbrev pub AllEnclose : List Ends → List ℤ → Type 0
AllEnclose [] [] = Unit {0}
AllEnclose (e ∷ es) (n ∷ ns) = Encloses e n × AllEnclose es ns
AllEnclose [] (n ∷ ns) = ⊥
AllEnclose (e ∷ es) [] = ⊥

abbrev pub AreBits : List ℤ → Type 0
AreBits [] = Unit {0}
AreBits (n ∷ ns) = (is_bit n ≡ true) × AreBits ns

abbrev pub AreSetsIn : List (List Range) → List (List Range) → Type 0
AreSetsIn [] [] = Unit {0}
AreSetsIn (u ∷ us) (s ∷ ss) = IsSetIn u s × AreSetsIn us ss
AreSetsIn [] (s ∷ ss) = ⊥
AreSetsIn (u ∷ us) [] = ⊥

-- a value of the sort that the bounds tell, in these bounds
abbrev pub LiesIn : Extent → Val → Type 0
LiesIn (whole e) (number n) = Encloses e n
LiesIn (truth e) (number n) = IsBitIn e n
LiesIn (subset u) (set s) = IsSetIn u s
LiesIn (wholes es) (numbers ns) = AllEnclose es ns
LiesIn truths (numbers ns) = AreBits ns
LiesIn (subsets us) (sets ss) = AreSetsIn us ss
LiesIn no_element empty = Unit {0}
LiesIn _ _ = ⊥

-- an undefined Boolean counts as false, so its bounds have 0
abbrev pub MayBeUndefined : Extent → Type 0
MayBeUndefined (truth e) = Encloses e (pos 0)
MayBeUndefined _ = Unit {0}

-- a term in a node's bounds: its value, where it has one. Where there are no bounds, nothing is asked
abbrev pub Lies : Known → Term → Type 0
Lies None t = Unit {0}
Lies (Some x) None = MayBeUndefined x
Lies (Some x) (Some w) = LiesIn x w

-- ---- values of the variables and the choices

-- each in its bounds
abbrev pub AreInBounds : List Entry → Values → Type 0
AreInBounds es v = (id : ℕ) (e : Entry) → slice_get es id ≡ Some e → is_free e.node.kind ≡ true → Lies (extent es id) (term v es id)

-- a number of the domain, or a set of which the domain has all
abbrev pub IsOfDomain : Values → Node → NodeKind → List Range → Type 0
IsOfDomain v n Var u = Has u (v.number (own_id n))
IsOfDomain v n Local u = Has u (v.number (own_id n))
IsOfDomain v n SetVar u = IsSetIn u (v.set (own_id n))
IsOfDomain v n SetLocal u = IsSetIn u (v.set (own_id n))
IsOfDomain v n _ u = Unit {0}

-- each in its domain
abbrev pub AreInDomains : List Entry → Values → Type 0
AreInDomains es v = (id : ℕ) (e d : Entry) → slice_get es id ≡ Some e → slice_get es e.node.a ≡ Some d → IsOfDomain v e.node e.node.kind d.set

-- ---- the laws

-- where the values lie in their bounds, each term does
abbrev pub TermsLie : Type 0
TermsLie = (es : List Entry) → IsArena es → (v : Values) → AreInBounds es v → (id : ℕ) → Lies (extent es id) (term v es id)

-- values in their domains lie in their bounds
abbrev pub DomainsLie : Type 0
DomainsLie = (es : List Entry) → IsArena es → (v : Values) → AreInDomains es v → AreInBounds es v

-- the greatest sets of bounds are sets
abbrev pub HasSets : Known → Type 0
HasSets (Some (subset u)) = IsSet u
HasSets (Some (subsets us)) = AreSets us
HasSets _ = Unit {0}

abbrev pub BoundsAreSets : Type 0
BoundsAreSets = (es : List Entry) → IsArena es → (id : ℕ) → HasSets (extent es id)
