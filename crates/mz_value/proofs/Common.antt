-- What two canonical lists have in common.
use Rattle.std.proofs.Common.{List, [], ◌∷◌, ◌++◌, inl, inr, ⊎_elim, arith}
use Rattle.std.proofs.lemmas.Int.{ints, clamps, by_lt_z}
use Rattle.std.specs.Prelude.{ℤ, pos, ◌+ℤ◌, ◌≤ℤ◌, ◌<ℤ◌}
use Rattle.std.specs.Int.{int_max, int_min}
use Rattle.mz_value.specs.Ranges.{Range, AreCanonical, IsIn, Has, AreInLimit, IsIntersection}
use Rattle.mz_value.specs.StepsWalks.{common}
use Rattle.mz_value.proofs.Walking.{overlap, common_left, common_right, common_none_left, common_none_right}
use Rattle.mz_value.proofs.Members.{Begins, has_behind, has_range, range_has, behind_range_has, begins_behind, begins_range, canonical_range, limit_range}

-- Each lemma goes along the first list, and its helper along the second: `behind` is the lemma for the rest of the first.

-- nothing else is in common

abbrev Sound : ℤ → List Range → List Range → Type 0
Sound x rs ss = Has (common rs ss) x → Has rs x × Has ss x

sound_piece : (x : ℤ) (r s : Range) (rs ss : List Range) → IsIn (int_max r.0 s.0, int_min r.1 s.1) x → Has (r ∷ rs) x × Has (s ∷ ss) x
sound_piece x r s rs ss p = (inl (omega (arith, ints, clamps), omega (arith, ints, clamps)), inl (omega (arith, ints, clamps), omega (arith, ints, clamps)))

sound_left : (x : ℤ) (r s : Range) (rs ss : List Range) → Sound x rs (s ∷ ss) → r.1 <ℤ s.1 → Sound x (r ∷ rs) (s ∷ ss)
sound_left x r s rs ss behind l h =
    ⊎_elim (sound_piece x r s rs ss) (λ k. (inr (behind k).0, (behind k).1)) (has_range _ _ _ x (rw (common_left r s rs ss l) at h))

sound_right : (x : ℤ) (r s : Range) (rs ss : List Range) → Sound x (r ∷ rs) ss → s.1 ≤ℤ r.1 → Sound x (r ∷ rs) (s ∷ ss)
sound_right x r s rs ss behind l h =
    ⊎_elim (sound_piece x r s rs ss) (λ k. ((behind k).0, inr (behind k).1)) (has_range _ _ _ x (rw (common_right r s rs ss l) at h))

sound_from : (x : ℤ) (r : Range) (rs : List Range) → ((ss : List Range) → Sound x rs ss) → (ss : List Range) → Sound x (r ∷ rs) ss
sound_from x r rs behind [] h = absurd (rw (common_none_right (r ∷ rs)) at h)
sound_from x r rs behind (s ∷ ss) h =
    by_lt_z r.1 s.1 (λ l. sound_left x r s rs ss (behind (s ∷ ss)) l h) (λ l. sound_right x r s rs ss (sound_from x r rs behind ss) l h)

pub common_sound : (x : ℤ) (rs ss : List Range) → Sound x rs ss
common_sound x [] ss h = absurd (rw (common_none_left ss) at h)
common_sound x (r ∷ rs) ss h = sound_from x r rs (common_sound x rs) ss h

-- nothing is missing

abbrev Complete : ℤ → List Range → List Range → Type 0
Complete x rs ss = AreCanonical rs → AreCanonical ss → Has rs x → Has ss x → Has (common rs ss) x

complete_piece : (x : ℤ) (r s : Range) (rest : List Range) → IsIn r x → IsIn s x → Has (overlap r s ++ rest) x
complete_piece x r s rest p q = range_has (int_max r.0 s.0) (int_min r.1 s.1) rest x (omega (arith, ints, clamps)) (omega (arith, ints, clamps))

complete_left : (x : ℤ) (r s : Range) (rs ss : List Range) → Complete x rs (s ∷ ss) → r.1 <ℤ s.1 → Complete x (r ∷ rs) (s ∷ ss)
complete_left x r s rs ss behind l c d (inl p) (inl q) = rw (common_left r s rs ss l) (complete_piece x r s (common rs (s ∷ ss)) p q)
complete_left x r s rs ss behind l c d (inl p) (inr k) = let above = has_behind s ss x d k in absurd (omega (arith, ints))
complete_left x r s rs ss behind l c d (inr h) k =
    rw (common_left r s rs ss l) (behind_range_has (int_max r.0 s.0) (int_min r.1 s.1) (common rs (s ∷ ss)) x (behind c.2 d h k))

complete_right : (x : ℤ) (r s : Range) (rs ss : List Range) → Complete x (r ∷ rs) ss → s.1 ≤ℤ r.1 → Complete x (r ∷ rs) (s ∷ ss)
complete_right x r s rs ss behind l c d (inl p) (inl q) = rw (common_right r s rs ss l) (complete_piece x r s (common (r ∷ rs) ss) p q)
complete_right x r s rs ss behind l c d (inr h) (inl q) = let above = has_behind r rs x c h in absurd (omega (arith, ints))
complete_right x r s rs ss behind l c d h (inr k) =
    rw (common_right r s rs ss l) (behind_range_has (int_max r.0 s.0) (int_min r.1 s.1) (common (r ∷ rs) ss) x (behind c d.2 h k))

complete_from : (x : ℤ) (r : Range) (rs : List Range) → ((ss : List Range) → Complete x rs ss) → (ss : List Range) → Complete x (r ∷ rs) ss
complete_from x r rs behind [] c d h k = absurd k
complete_from x r rs behind (s ∷ ss) c d h k =
    by_lt_z r.1 s.1 (λ l. complete_left x r s rs ss (behind (s ∷ ss)) l c d h k) (λ l. complete_right x r s rs ss (complete_from x r rs behind ss) l c d h k)

pub common_complete : (x : ℤ) (rs ss : List Range) → Complete x rs ss
common_complete x [] ss c d h k = absurd h
common_complete x (r ∷ rs) ss c d h k = complete_from x r rs (common_complete x rs) ss c d h k

pub common_members : (rs ss : List Range) → AreCanonical rs → AreCanonical ss → IsIntersection rs ss (common rs ss)
common_members rs ss c d x = (common_sound x rs ss, λ h. common_complete x rs ss c d h.0 h.1)

-- where it begins

abbrev BeginsLeft : List Range → List Range → Type 0
BeginsLeft rs ss = (lo : ℤ) → AreCanonical rs → Begins lo rs → Begins lo (common rs ss)

left_left : (r s : Range) (rs ss : List Range) → BeginsLeft rs (s ∷ ss) → r.1 <ℤ s.1 → BeginsLeft (r ∷ rs) (s ∷ ss)
left_left r s rs ss behind l lo c b =
    let rest = behind lo c.2 (begins_behind lo r rs (omega (arith, ints)) c.1) in
    rw (common_left r s rs ss l) (begins_range lo (int_max r.0 s.0) (int_min r.1 s.1) (common rs (s ∷ ss)) (omega (arith, ints, clamps)) rest)

left_right : (r s : Range) (rs ss : List Range) → BeginsLeft (r ∷ rs) ss → s.1 ≤ℤ r.1 → BeginsLeft (r ∷ rs) (s ∷ ss)
left_right r s rs ss behind l lo c b = rw (common_right r s rs ss l) (begins_range lo (int_max r.0 s.0) (int_min r.1 s.1) (common (r ∷ rs) ss) (omega (arith, ints, clamps)) (behind lo c b))

left_from : (r : Range) (rs : List Range) → ((ss : List Range) → BeginsLeft rs ss) → (ss : List Range) → BeginsLeft (r ∷ rs) ss
left_from r rs behind [] lo c b = rw (common_none_right (r ∷ rs)) tt
left_from r rs behind (s ∷ ss) lo c b =
    by_lt_z r.1 s.1 (λ l. left_left r s rs ss (behind (s ∷ ss)) l lo c b) (λ l. left_right r s rs ss (left_from r rs behind ss) l lo c b)

pub common_begins_left : (rs ss : List Range) → BeginsLeft rs ss
common_begins_left [] ss lo c b = rw (common_none_left ss) tt
common_begins_left (r ∷ rs) ss lo c b = left_from r rs (common_begins_left rs) ss lo c b

abbrev BeginsRight : List Range → List Range → Type 0
BeginsRight rs ss = (lo : ℤ) → AreCanonical ss → Begins lo ss → Begins lo (common rs ss)

right_left : (r s : Range) (rs ss : List Range) → BeginsRight rs (s ∷ ss) → r.1 <ℤ s.1 → BeginsRight (r ∷ rs) (s ∷ ss)
right_left r s rs ss behind l lo d b = rw (common_left r s rs ss l) (begins_range lo (int_max r.0 s.0) (int_min r.1 s.1) (common rs (s ∷ ss)) (omega (arith, ints, clamps)) (behind lo d b))

right_right : (r s : Range) (rs ss : List Range) → BeginsRight (r ∷ rs) ss → s.1 ≤ℤ r.1 → BeginsRight (r ∷ rs) (s ∷ ss)
right_right r s rs ss behind l lo d b =
    let rest = behind lo d.2 (begins_behind lo s ss (omega (arith, ints)) d.1) in
    rw (common_right r s rs ss l) (begins_range lo (int_max r.0 s.0) (int_min r.1 s.1) (common (r ∷ rs) ss) (omega (arith, ints, clamps)) rest)

right_from : (r : Range) (rs : List Range) → ((ss : List Range) → BeginsRight rs ss) → (ss : List Range) → BeginsRight (r ∷ rs) ss
right_from r rs behind [] lo d b = rw (common_none_right (r ∷ rs)) tt
right_from r rs behind (s ∷ ss) lo d b =
    by_lt_z r.1 s.1 (λ l. right_left r s rs ss (behind (s ∷ ss)) l lo d b) (λ l. right_right r s rs ss (right_from r rs behind ss) l lo d b)

pub common_begins_right : (rs ss : List Range) → BeginsRight rs ss
common_begins_right [] ss lo d b = rw (common_none_left ss) tt
common_begins_right (r ∷ rs) ss lo d b = right_from r rs (common_begins_right rs) ss lo d b

-- it is canonical

abbrev Canonical : List Range → List Range → Type 0
Canonical rs ss = AreCanonical rs → AreCanonical ss → AreCanonical (common rs ss)

canonical_left : (r s : Range) (rs ss : List Range) → Canonical rs (s ∷ ss) → r.1 <ℤ s.1 → Canonical (r ∷ rs) (s ∷ ss)
canonical_left r s rs ss behind l c d =
    let after = common_begins_left rs (s ∷ ss) (int_min r.1 s.1 +ℤ pos 2) c.2 (begins_behind (int_min r.1 s.1 +ℤ pos 2) r rs (omega (arith, ints, clamps)) c.1) in
    rw (common_left r s rs ss l) (canonical_range (int_max r.0 s.0) (int_min r.1 s.1) (common rs (s ∷ ss)) after (behind c.2 d))

canonical_right : (r s : Range) (rs ss : List Range) → Canonical (r ∷ rs) ss → s.1 ≤ℤ r.1 → Canonical (r ∷ rs) (s ∷ ss)
canonical_right r s rs ss behind l c d =
    let after = common_begins_right (r ∷ rs) ss (int_min r.1 s.1 +ℤ pos 2) d.2 (begins_behind (int_min r.1 s.1 +ℤ pos 2) s ss (omega (arith, ints, clamps)) d.1) in
    rw (common_right r s rs ss l) (canonical_range (int_max r.0 s.0) (int_min r.1 s.1) (common (r ∷ rs) ss) after (behind c d.2))

canonical_from : (r : Range) (rs : List Range) → ((ss : List Range) → Canonical rs ss) → (ss : List Range) → Canonical (r ∷ rs) ss
canonical_from r rs behind [] c d = rw (common_none_right (r ∷ rs)) tt
canonical_from r rs behind (s ∷ ss) c d =
    by_lt_z r.1 s.1 (λ l. canonical_left r s rs ss (behind (s ∷ ss)) l c d) (λ l. canonical_right r s rs ss (canonical_from r rs behind ss) l c d)

pub common_canonical : (rs ss : List Range) → Canonical rs ss
common_canonical [] ss c d = rw (common_none_left ss) tt
common_canonical (r ∷ rs) ss c d = canonical_from r rs (common_canonical rs) ss c d

-- it lies in the limit

abbrev InLimit : List Range → List Range → Type 0
InLimit rs ss = AreInLimit rs → AreInLimit (common rs ss)

limit_left : (r s : Range) (rs ss : List Range) → InLimit rs (s ∷ ss) → r.1 <ℤ s.1 → InLimit (r ∷ rs) (s ∷ ss)
limit_left r s rs ss behind l all =
    rw (common_left r s rs ss l) (limit_range (int_max r.0 s.0) (int_min r.1 s.1) (common rs (s ∷ ss)) (omega (arith, ints, clamps)) (omega (arith, ints, clamps)) (behind all.2))

limit_right : (r s : Range) (rs ss : List Range) → InLimit (r ∷ rs) ss → s.1 ≤ℤ r.1 → InLimit (r ∷ rs) (s ∷ ss)
limit_right r s rs ss behind l all =
    rw (common_right r s rs ss l) (limit_range (int_max r.0 s.0) (int_min r.1 s.1) (common (r ∷ rs) ss) (omega (arith, ints, clamps)) (omega (arith, ints, clamps)) (behind all))

limit_from : (r : Range) (rs : List Range) → ((ss : List Range) → InLimit rs ss) → (ss : List Range) → InLimit (r ∷ rs) ss
limit_from r rs behind [] all = rw (common_none_right (r ∷ rs)) tt
limit_from r rs behind (s ∷ ss) all =
    by_lt_z r.1 s.1 (λ l. limit_left r s rs ss (behind (s ∷ ss)) l all) (λ l. limit_right r s rs ss (limit_from r rs behind ss) l all)

pub common_limit : (rs ss : List Range) → InLimit rs ss
common_limit [] ss all = rw (common_none_left ss) tt
common_limit (r ∷ rs) ss all = limit_from r rs (common_limit rs) ss all
