-- The integers of the limit that a canonical list hasn't.
use Rattle.std.proofs.Common.{◌≡◌, List, [], ◌∷◌, ◌++◌, refl, sym, inl, inr, ⊎_elim, arith}
use Rattle.std.proofs.lemmas.Int.{ints, by_lt_z}
use Rattle.std.proofs.lemmas.List.{append-nil}
use Rattle.std.specs.Prelude.{ℤ, pos, ◌+ℤ◌, ◌-ℤ◌, ◌≤ℤ◌}
use Rattle.mz_value.specs.Ranges.{Range, AreCanonical, Has, AreInLimit, least, greatest, range_of, IsDifference}
use Rattle.mz_value.specs.StepsWalks.{common, gaps}
use Rattle.mz_value.proofs.Members.{Begins, has_begins, has_range, range_has, behind_range_has, begins_behind, begins_range, begins_lower, canonical_range}
use Rattle.mz_value.proofs.Common.{common_members}

pub gaps_end : (lo : ℤ) → gaps lo [] ≡ range_of lo greatest ++ []
unfolding gaps
gaps_end lo = sym (append-nil (range_of lo greatest))

pub gaps_more : (lo : ℤ) (r : Range) (rs : List Range) → gaps lo (r ∷ rs) ≡ range_of lo (r.0 -ℤ pos 1) ++ gaps (r.1 +ℤ pos 1) rs
unfolding gaps
gaps_more lo r rs = refl

pub gaps_sound : (x lo : ℤ) (rs : List Range) → AreCanonical rs → Begins lo rs → Has (gaps lo rs) x → (lo ≤ℤ x) × (Has rs x → ⊥)
gaps_sound x lo [] c b h = ⊎_elim (λ p. (p.0, λ k. k)) (λ k. absurd k) (has_range lo greatest [] x (rw (gaps_end lo) at h))
gaps_sound x lo (r ∷ rs) c b h =
    ⊎_elim
    (λ p. (p.0, λ k. let l = has_begins r.0 (r ∷ rs) x c (omega (arith, ints)) k in omega (arith, ints)))
    (λ k.
    let rest = gaps_sound x (r.1 +ℤ pos 1) rs c.2 (begins_behind (r.1 +ℤ pos 1) r rs (omega (arith, ints)) c.1) k in
    (omega (arith, ints), ⊎_elim (λ q. omega (arith, ints)) rest.1))
    (has_range lo (r.0 -ℤ pos 1) (gaps (r.1 +ℤ pos 1) rs) x (rw (gaps_more lo r rs) at h))

pub gaps_complete : (x lo : ℤ) (rs : List Range) → lo ≤ℤ x → x ≤ℤ greatest → (Has rs x → ⊥) → Has (gaps lo rs) x
gaps_complete x lo [] low high missing = rw (gaps_end lo) (range_has lo greatest [] x low high)
gaps_complete x lo (r ∷ rs) low high missing =
    rw (gaps_more lo r rs)
    (by_lt_z x r.0
    (λ l. range_has lo (r.0 -ℤ pos 1) (gaps (r.1 +ℤ pos 1) rs) x low (omega (arith, ints)))
    (λ at_least. by_lt_z r.1 x
    (λ above. behind_range_has lo (r.0 -ℤ pos 1) (gaps (r.1 +ℤ pos 1) rs) x (gaps_complete x (r.1 +ℤ pos 1) rs (omega (arith, ints)) high (λ k. missing (inr k))))
    (λ within. absurd (missing (inl (at_least, within))))))

pub gaps_begins : (lo : ℤ) (rs : List Range) → AreCanonical rs → Begins lo rs → Begins lo (gaps lo rs)
gaps_begins lo [] c b = rw (gaps_end lo) (begins_range lo lo greatest [] (omega (arith, ints)) tt)
gaps_begins lo (r ∷ rs) c b =
    let rest = gaps_begins (r.1 +ℤ pos 1) rs c.2 (begins_behind (r.1 +ℤ pos 1) r rs (omega (arith, ints)) c.1) in
    rw (gaps_more lo r rs)
    (begins_range lo lo (r.0 -ℤ pos 1) (gaps (r.1 +ℤ pos 1) rs) (omega (arith, ints)) (begins_lower lo (r.1 +ℤ pos 1) (gaps (r.1 +ℤ pos 1) rs) (omega (arith, ints)) rest))

pub gaps_canonical : (lo : ℤ) (rs : List Range) → AreCanonical rs → Begins lo rs → AreCanonical (gaps lo rs)
gaps_canonical lo [] c b = rw (gaps_end lo) (canonical_range lo greatest [] tt tt)
gaps_canonical lo (r ∷ rs) c b =
    let next = begins_behind (r.1 +ℤ pos 1) r rs (omega (arith, ints)) c.1 in
    let begins = gaps_begins (r.1 +ℤ pos 1) rs c.2 next in
    let after = begins_lower ((r.0 -ℤ pos 1) +ℤ pos 2) (r.1 +ℤ pos 1) (gaps (r.1 +ℤ pos 1) rs) (omega (arith, ints)) begins in
    rw (gaps_more lo r rs) (canonical_range lo (r.0 -ℤ pos 1) (gaps (r.1 +ℤ pos 1) rs) after (gaps_canonical (r.1 +ℤ pos 1) rs c.2 next))

pub begins_least : (rs : List Range) → AreInLimit rs → Begins least rs
begins_least [] all = tt
begins_least (r ∷ rs) all = all.0.0

-- an element lies in the limit
pub has_limit : (x : ℤ) (rs : List Range) → AreInLimit rs → Has rs x → (least ≤ℤ x) × (x ≤ℤ greatest)
has_limit x [] all h = absurd h
has_limit x (r ∷ rs) all (inl p) = (omega (arith, ints), omega (arith, ints))
has_limit x (r ∷ rs) all (inr h) = has_limit x rs all.2 h

pub difference_members : (rs ss : List Range) → AreCanonical rs → AreInLimit rs → AreCanonical ss → AreInLimit ss → IsDifference rs ss (common rs (gaps least ss))
difference_members rs ss c all d each x =
    let begins = begins_least ss each in
    let found = common_members rs (gaps least ss) c (gaps_canonical least ss d begins) x in (
      λ h. let both = found.0 h in (both.0, (gaps_sound x least ss d begins both.1).1),
      λ p. let limits = has_limit x rs all p.0 in found.1 (p.0, gaps_complete x least ss limits.0 limits.1 p.1),
    )
