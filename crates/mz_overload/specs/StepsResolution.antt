-- Mirror of src/resolution.rt; private clauses only.
use Rattle.std.specs.Prelude.{ℕ, ◌+◌, not, ◌&&◌, List, [], ◌∷◌, if◌then◌else◌}
use Rattle.mz_core.specs.Types.{PlainType, PlainSignature}
use Rattle.mz_overload.specs.declared.resolution.Resolution.{Resolution}
use Rattle.mz_overload.specs.declared.resolution.Resolution.TheVariants.{One, NoneFits, Ambiguous}
use Rattle.mz_overload.specs.Best.{all_below, accepts, is_least}

-- the candidates from the i-th on are yet to be looked at, and c, at the place k, is the least so far
unfoldable pub resolution_from : List PlainSignature → List PlainType → ℕ → PlainSignature → ℕ → List PlainSignature → Resolution
resolution_from cands args k c i [] = if is_least cands args c then One k else Ambiguous
resolution_from cands args k c i (d ∷ ds) =
    if accepts args d && not (all_below c.params d.params)
    then resolution_from cands args i d (i + 1) ds
    else resolution_from cands args k c (i + 1) ds

unfoldable pub first_accepting : List PlainSignature → List PlainType → ℕ → List PlainSignature → Resolution
first_accepting cands args i [] = NoneFits
first_accepting cands args i (c ∷ cs) =
    if accepts args c then resolution_from cands args i c (i + 1) cs else first_accepting cands args (i + 1) cs
