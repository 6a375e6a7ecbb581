-- A set has no more elements than a set that has all of them.
use Rattle.std.proofs.Common.{◌≤◌, ℤ, pos, ◌+ℤ◌, ◌≤ℤ◌, ◌<ℤ◌, List, [], ◌∷◌, inl, inr, ⊎_elim, arith}
use Rattle.std.proofs.lemmas.Int.{ints, by_lt_z}
use Rattle.mz_value.specs.Ranges.{Range, IsApart, AreCanonical, Has, cardinality}
use Rattle.mz_value.proofs.Members.{has_begins, has_behind, begins_behind}
use Rattle.mz_value.proofs.Sizes.{size_is}
use Rattle.mz_operations.specs.Laws.{IsPart, CardEncloses}

apart_same : (r s : Range) (ts : List Range) → r.1 ≤ℤ s.1 → IsApart s ts → IsApart r ts
apart_same r s [] e a = tt
apart_same r s (t ∷ ts) e a = omega (arith, ints)

-- what lies above a range lies in those after it
after : (t : Range) (ts : List Range) (x : ℤ) → t.1 <ℤ x → Has (t ∷ ts) x → Has ts x
after t ts x l h = ⊎_elim (λ p. absurd (omega (arith, ints))) (λ k. k) h

-- the integer after a range is missing
missing : (t : Range) (ts : List Range) → AreCanonical (t ∷ ts) → Has (t ∷ ts) (t.1 +ℤ pos 1) → ⊥
missing t ts c (inl p) = omega (arith, ints)
missing t ts c (inr h) =
    let l = has_begins (t.1 +ℤ pos 2) ts (t.1 +ℤ pos 1) c.2 (begins_behind (t.1 +ℤ pos 2) t ts (omega (arith, ints)) c.1) h in
    omega (arith, ints)

-- one range of the set, which lies in the first range of the other
module _ (r : Range) (rs : List Range) (c : AreCanonical (r ∷ rs)) (t : Range) (ts : List Range) (d : AreCanonical (t ∷ ts)) (p : IsPart (r ∷ rs) (t ∷ ts)) (low : r.0 ≤ℤ t.1) (ih : (u : List Range) → AreCanonical u → IsPart rs u → cardinality rs ≤ cardinality u) where
  starts : t.0 ≤ℤ r.0
  starts =
      ⊎_elim
      (λ q. q.0)
      (λ h. let l = has_behind t ts r.0 d h in absurd (omega (arith, ints)))
      (p.inside r.0 (inl (omega (arith, ints), c.0)))

  ends : r.1 ≤ℤ t.1
  ends = by_lt_z t.1 r.1 (λ l. absurd (missing t ts d (p.inside (t.1 +ℤ pos 1) (inl (omega (arith, ints), omega (arith, ints)))))) (λ l. l)

  abbrev cut : List Range
  cut = (r.1 +ℤ pos 1, t.1) ∷ ts

  in_cut : (x : ℤ) → Has rs x → Has cut x
  in_cut x h =
      let above = has_behind r rs x c h in
      ⊎_elim (λ q. inl (omega (arith, ints), q.1)) (λ k. inr k) (p.inside x (inr h))

  in_first : cardinality (r ∷ rs) ≤ cardinality (t ∷ ts)
  in_first =
      let s = starts in
      let e = ends in
      let size_r = size_is r c.0 in
      let size_t = size_is t d.0 in
      by_lt_z r.1 t.1
      (λ l.
      let ordered : (r.1 +ℤ pos 1) ≤ℤ t.1 = omega (arith, ints) in
      let rest = ih cut (ordered, apart_same (r.1 +ℤ pos 1, t.1) t ts (omega (arith, ints)) d.1, d.2) (record { inside = in_cut }) in
      let size_c = size_is (r.1 +ℤ pos 1, t.1) ordered in
      omega (arith, ints))
      (λ l.
      let rest = ih ts d.2 (record { inside = λ x h. let above = has_behind r rs x c h in after t ts x (omega (arith, ints)) (p.inside x (inr h)) }) in
      omega (arith, ints))

first_range : (r : Range) (rs : List Range) → AreCanonical (r ∷ rs) → ((u : List Range) → AreCanonical u → IsPart rs u → cardinality rs ≤ cardinality u) → (u : List Range) → AreCanonical u → IsPart (r ∷ rs) u → cardinality (r ∷ rs) ≤ cardinality u
first_range r rs c ih [] d p = absurd (p.inside r.0 (inl (omega (arith, ints), c.0)))
first_range r rs c ih (t ∷ ts) d p =
    let skipped = first_range r rs c ih ts d.2 in
    by_lt_z t.1 r.0
    (λ l.
    let rest = skipped (record { inside = λ x h. let low = has_begins r.0 (r ∷ rs) x c (omega (arith, ints)) h in after t ts x (omega (arith, ints)) (p.inside x h) }) in
    omega arith)
    (λ l. in_first r rs c t ts d p l ih)

pub cardinality-le : (s : List Range) → AreCanonical s → (u : List Range) → AreCanonical u → IsPart s u → cardinality s ≤ cardinality u
cardinality-le [] c u d p = omega arith
cardinality-le (r ∷ rs) c u d p = first_range r rs c (cardinality-le rs c.2) u d p

pub card_encloses : CardEncloses
card_encloses s u c d p = let most = cardinality-le s c u d p in record { from = omega (arith, ints); to = omega (arith, ints) }
