-- The best overload: which candidates accept, and which of them is the least.
use Rattle.std.specs.Prelude.{◌≡◌, ℕ, Bool, true, false, not, ◌&&◌, ◌||◌, List, [], ◌∷◌, Option, Some, None, slice_get}
use Rattle.std.specs.List.{list_any, list_all, position_from}
use Rattle.mz_core.specs.Types.{PlainType, PlainSignature}
use Rattle.mz_core.specs.Order.{below}
use Rattle.mz_overload.specs.declared.resolution.Resolution.{Resolution}
use Rattle.mz_overload.specs.declared.resolution.Resolution.TheVariants.{One, NoneFits, Ambiguous}

-- as many of the one as of the other, each below its own
unfoldable pub all_below : List PlainType → List PlainType → Bool
all_below [] [] = true
all_below [] (u ∷ us) = false
all_below (t ∷ ts) [] = false
all_below (t ∷ ts) (u ∷ us) = below t u && all_below ts us

-- the candidate accepts arguments of these types
abbrev pub accepts : List PlainType → PlainSignature → Bool
accepts args c = all_below args c.params

-- the candidate's parameters are below those of every one that accepts
unfoldable pub is_least : List PlainSignature → List PlainType → PlainSignature → Bool
is_least cands args c = list_all (λ d. not (accepts args d) || all_below c.params d.params) cands

abbrev pub is_best : List PlainSignature → List PlainType → PlainSignature → Bool
is_best cands args c = accepts args c && is_least cands args c

abbrev pub resolution_of : Option ℕ → Bool → Resolution
resolution_of (Some k) b = One k
resolution_of None true = Ambiguous
resolution_of None false = NoneFits

-- the first best candidate, or why there is none
unfoldable pub resolution : List PlainSignature → List PlainType → Resolution
resolution cands args = resolution_of (position_from (is_best cands args) 0 cands) (list_any (accepts args) cands)

-- the candidate at a place accepts
pub record IsAccepting (cands : List PlainSignature) (args : List PlainType) (k : ℕ) (c : PlainSignature) : Type 0 where
  pub at : slice_get cands k ≡ Some c
  pub accepting : accepts args c ≡ true

-- the candidate at a place accepts, and its parameters are below those of every one that accepts
pub record IsBest (cands : List PlainSignature) (args : List PlainType) (k : ℕ) (c : PlainSignature) : Type 0 where
  pub accepted : IsAccepting cands args k c
  pub least : (j : ℕ) (d : PlainSignature) → IsAccepting cands args j d → all_below c.params d.params ≡ true

-- what an answer means: the place of a best candidate; none accepts; some accept, and none is best
abbrev pub IsResolution : List PlainSignature → List PlainType → Resolution → Type 0
IsResolution cands args (One k) = (c : PlainSignature) × IsBest cands args k c
IsResolution cands args NoneFits = (j : ℕ) (d : PlainSignature) → IsAccepting cands args j d → ⊥
IsResolution cands args Ambiguous = ((j : ℕ) × ((d : PlainSignature) × IsAccepting cands args j d)) × ((k : ℕ) (c : PlainSignature) → IsBest cands args k c → ⊥)
