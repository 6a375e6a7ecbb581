-- A set has one canonical list of ranges.
use Rattle.std.proofs.Common.{◌≡◌, List, [], ◌∷◌, refl, sym, ap, ◌∙◌, inl, inr, ⊎_elim, arith}
use Rattle.std.proofs.lemmas.Int.{ints, by_lt_z}
use Rattle.std.specs.Prelude.{ℤ, pos, ◌+ℤ◌, ◌≤ℤ◌, ◌↔◌}
use Rattle.mz_value.specs.Ranges.{Range, AreCanonical, Has, AreDetermined}
use Rattle.mz_value.proofs.Members.{Begins, has_begins, has_behind, begins_behind}

-- the least element of a canonical list's first range is the list's least
first_least : (r : Range) (rs : List Range) (x : ℤ) → AreCanonical (r ∷ rs) → Has (r ∷ rs) x → r.0 ≤ℤ x
first_least r rs x c h = let b : Begins r.0 (r ∷ rs) = omega (arith, ints) in has_begins r.0 (r ∷ rs) x c b h

has_first : (r : Range) (rs : List Range) → AreCanonical (r ∷ rs) → Has (r ∷ rs) r.0
has_first r rs c = inl (omega (arith, ints), c.0)

-- the integer above a range is missing
gap_missing : (r : Range) (rs : List Range) → AreCanonical (r ∷ rs) → Has (r ∷ rs) (r.1 +ℤ pos 1) → ⊥
gap_missing r rs c (inl p) = omega (arith, ints)
gap_missing r rs c (inr h) =
    let l = has_begins (r.1 +ℤ pos 2) rs (r.1 +ℤ pos 1) c.2 (begins_behind (r.1 +ℤ pos 2) r rs (omega (arith, ints)) c.1) h in
    omega (arith, ints)

same_low : (r s : Range) (rs ss : List Range) → AreCanonical (r ∷ rs) → AreCanonical (s ∷ ss) → ((x : ℤ) → Has (r ∷ rs) x ↔ Has (s ∷ ss) x) → r.0 ≡ s.0
same_low r s rs ss c d same =
    let below = first_least s ss r.0 d ((same r.0).0 (has_first r rs c)) in
    let above = first_least r rs s.0 c ((same s.0).1 (has_first s ss d)) in
    omega (arith, ints)

-- no greater end: the integer above the smaller one would be missing here and there
not_longer : (r s : Range) (rs ss : List Range) → AreCanonical (r ∷ rs) → AreCanonical (s ∷ ss) → r.0 ≡ s.0 → ((x : ℤ) → Has (s ∷ ss) x → Has (r ∷ rs) x) → s.1 ≤ℤ r.1
not_longer r s rs ss c d low there =
    by_lt_z r.1 s.1
    (λ l. absurd (gap_missing r rs c (there (r.1 +ℤ pos 1) (inl (omega (arith, ints), omega (arith, ints))))))
    (λ l. l)

same_high : (r s : Range) (rs ss : List Range) → AreCanonical (r ∷ rs) → AreCanonical (s ∷ ss) → r.0 ≡ s.0 → ((x : ℤ) → Has (r ∷ rs) x ↔ Has (s ∷ ss) x) → r.1 ≡ s.1
same_high r s rs ss c d low same =
    let below = not_longer r s rs ss c d low (λ x. (same x).1) in
    let above = not_longer s r ss rs d c (sym low) (λ x. (same x).0) in
    omega (arith, ints)

-- what is after the first range lies after the other list's first range too
behind : (r s : Range) (rs ss : List Range) → AreCanonical (r ∷ rs) → r.1 ≡ s.1 → ((x : ℤ) → Has (r ∷ rs) x → Has (s ∷ ss) x) → (x : ℤ) → Has rs x → Has ss x
behind r s rs ss c high there x h =
    let above = has_behind r rs x c h in
    ⊎_elim (λ p. absurd (omega (arith, ints))) (λ l. l) (there x (inr h))

abbrev pair : ℤ → ℤ → Range
pair lo hi = (lo, hi)

same_range : (r s : Range) → r.0 ≡ s.0 → r.1 ≡ s.1 → r ≡ s
same_range r s low high = ap (λ lo. pair lo r.1) low ∙ ap (pair s.0) high

pub determined : AreDetermined
determined [] [] c d same = refl
determined [] (s ∷ ss) c d same = absurd ((same s.0).1 (has_first s ss d))
determined (r ∷ rs) [] c d same = absurd ((same r.0).0 (has_first r rs c))
determined (r ∷ rs) (s ∷ ss) c d same =
    let low = same_low r s rs ss c d same in
    let high = same_high r s rs ss c d low same in
    let rest : (x : ℤ) → Has rs x ↔ Has ss x = λ x. (behind r s rs ss c high (λ y. (same y).0) x, behind s r ss rs d (sym high) (λ y. (same y).1) x) in
    let tails = determined rs ss c.2 d.2 rest in
    let heads = same_range r s low high in
    cc
