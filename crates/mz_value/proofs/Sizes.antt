-- How many integers canonical lists have.
use Rattle.std.proofs.Common.{◌≡◌, ℕ, zero, suc, ◌+◌, ◌^◌, ◌<◌, ◌≤◌, List, [], ◌∷◌, length, drop, get_or, refl, add-one, drop-cons, arith}
use Rattle.std.proofs.lemmas.Int.{ints}
use Rattle.std.specs.Prelude.{ℤ, pos, ◌+ℤ◌, ◌-ℤ◌, ◌≤ℤ◌}
use Rattle.mz_value.specs.Ranges.{Range, AreCanonical, AreInLimit, IsInLimit, greatest, least, size, cardinality}
use Rattle.mz_value.proofs.Members.{Begins, begins_behind}
use Rattle.mz_value.proofs.Gaps.{begins_least}

pub size_is : (r : Range) → r.0 ≤ℤ r.1 → pos (size r) ≡ (r.1 -ℤ r.0) +ℤ pos 1
size_is r fits = grind (arith, ints)

pub cardinality_bound : (lo : ℤ) (rs : List Range) → AreCanonical rs → AreInLimit rs → Begins lo rs → lo ≤ℤ (greatest +ℤ pos 1) → (lo +ℤ pos (cardinality rs)) ≤ℤ (greatest +ℤ pos 1)
cardinality_bound lo [] c all b low = omega (arith, ints)
cardinality_bound lo (r ∷ rs) c all b low =
    let rest = cardinality_bound (r.1 +ℤ pos 1) rs c.2 all.2 (begins_behind (r.1 +ℤ pos 1) r rs (omega (arith, ints)) c.1) (omega (arith, ints)) in
    let first = size_is r c.0 in
    omega (arith, ints)

pub cardinality_fits : (rs : List Range) → AreCanonical rs → AreInLimit rs → cardinality rs ≤ 2 ^ 62 + 1
cardinality_fits rs c all = let bound = cardinality_bound least rs c all (begins_least rs all) (omega (arith, ints)) in omega (arith, ints)

pub canonical_at : (rs : List Range) (i : ℕ) (d : Range) → AreCanonical rs → i < length rs → (get_or rs i d).0 ≤ℤ (get_or rs i d).1
canonical_at [] i d c l = absurd (omega arith)
canonical_at (r ∷ rs) zero d c l = c.0
canonical_at (r ∷ rs) (suc i) d c l = canonical_at rs i d c.2 (omega arith)

pub limit_at : (rs : List Range) (i : ℕ) (d : Range) → AreInLimit rs → i < length rs → IsInLimit (get_or rs i d).0 × IsInLimit (get_or rs i d).1
limit_at [] i d all l = absurd (omega arith)
limit_at (r ∷ rs) zero d all l = (all.0, all.1)
limit_at (r ∷ rs) (suc i) d all l = limit_at rs i d all.2 (omega arith)

pub cardinality_more : (rs : List Range) (i : ℕ) (d : Range) → i < length rs → cardinality (drop i rs) ≡ size (get_or rs i d) + cardinality (drop (i + 1) rs)
cardinality_more rs i d l = rw (add-one, drop-cons rs i d) refl
