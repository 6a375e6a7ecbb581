-- Lists merged by their least elements, and ranges joined that overlap or touch.
use Rattle.std.proofs.Common.{List, [], ◌∷◌, inl, inr, ⊎_elim, arith}
use Rattle.std.proofs.lemmas.Int.{ints, clamps, by_lt_z}
use Rattle.std.specs.Prelude.{ℤ, pos, ◌+ℤ◌, ◌≤ℤ◌, ◌<ℤ◌, ◌⊎◌, ◌↔◌}
use Rattle.std.specs.Int.{int_max}
use Rattle.mz_value.specs.Ranges.{Range, IsApart, AreCanonical, IsIn, Has, IsInLimit, AreInLimit, least, IsUnion}
use Rattle.mz_value.specs.StepsWalks.{merged, joined, joined_from}
use Rattle.mz_value.proofs.Walking.{merged_left, merged_right, merged_none_left, merged_none_right, joined_on, joined_apart, joined_end}
use Rattle.mz_value.proofs.Members.{Begins, begins_behind}
use Rattle.mz_value.proofs.Gaps.{begins_least}

-- no range is empty, and their least elements ascend from lo on
abbrev pub Ascends : ℤ → List Range → Type 0
Ascends lo [] = Unit {0}
Ascends lo (r ∷ rs) = (lo ≤ℤ r.0) × (r.0 ≤ℤ r.1) × Ascends r.0 rs

ascends_lower : (lo hi : ℤ) (rs : List Range) → lo ≤ℤ hi → Ascends hi rs → Ascends lo rs
ascends_lower lo hi [] below up = tt
ascends_lower lo hi (r ∷ rs) below up = (omega (arith, ints), up.1, up.2)

canonical_ascends : (lo : ℤ) (rs : List Range) → AreCanonical rs → Begins lo rs → Ascends lo rs
canonical_ascends lo [] c b = tt
canonical_ascends lo (r ∷ rs) c b = (b, c.0, canonical_ascends r.0 rs c.2 (begins_behind r.0 r rs (omega (arith, ints)) c.1))

-- merged lists

abbrev MergesUp : List Range → List Range → Type 0
MergesUp rs ss = (lo : ℤ) → Ascends lo rs → Ascends lo ss → Ascends lo (merged rs ss)

up_from : (r : Range) (rs : List Range) → ((ss : List Range) → MergesUp rs ss) → (ss : List Range) → MergesUp (r ∷ rs) ss
up_from r rs behind [] lo up vp = rw (merged_none_right (r ∷ rs)) up
up_from r rs behind (s ∷ ss) lo up vp =
    let on = up_from r rs behind ss in
    by_lt_z s.0 r.0
    (λ l. rw (merged_right r s rs ss l) (vp.0, vp.1, on s.0 (omega (arith, ints), up.1, up.2) vp.2))
    (λ l. rw (merged_left r s rs ss l) (up.0, up.1, behind (s ∷ ss) r.0 up.2 (l, vp.1, vp.2)))

merged_ascends : (rs ss : List Range) → MergesUp rs ss
merged_ascends [] ss lo up vp = rw (merged_none_left ss) vp
merged_ascends (r ∷ rs) ss lo up vp = up_from r rs (merged_ascends rs) ss lo up vp

abbrev MergesMembers : List Range → List Range → Type 0
MergesMembers rs ss = IsUnion rs ss (merged rs ss)

members_left : (r s : Range) (rs ss : List Range) → MergesMembers rs (s ∷ ss) → r.0 ≤ℤ s.0 → MergesMembers (r ∷ rs) (s ∷ ss)
members_left r s rs ss behind l x =
    rw (merged_left r s rs ss l) (
      ⊎_elim (λ p. inl (inl p)) (λ h. ⊎_elim (λ k. inl (inr k)) (λ k. inr k) ((behind x).0 h)),
      ⊎_elim (⊎_elim (λ p. inl p) (λ h. inr ((behind x).1 (inl h)))) (λ k. inr ((behind x).1 (inr k))),
    )

members_right : (r s : Range) (rs ss : List Range) → MergesMembers (r ∷ rs) ss → s.0 <ℤ r.0 → MergesMembers (r ∷ rs) (s ∷ ss)
members_right r s rs ss behind l x =
    rw (merged_right r s rs ss l) (
      ⊎_elim (λ p. inr (inl p)) (λ h. ⊎_elim (λ k. inl k) (λ k. inr (inr k)) ((behind x).0 h)),
      ⊎_elim (λ h. inr ((behind x).1 (inl h))) (⊎_elim (λ p. inl p) (λ k. inr ((behind x).1 (inr k)))),
    )

members_from : (r : Range) (rs : List Range) → ((ss : List Range) → MergesMembers rs ss) → (ss : List Range) → MergesMembers (r ∷ rs) ss
members_from r rs behind [] x = rw (merged_none_right (r ∷ rs)) (λ h. inl h, ⊎_elim (λ h. h) (λ k. absurd k))
members_from r rs behind (s ∷ ss) x =
    let on = members_from r rs behind ss in
    by_lt_z s.0 r.0 (λ l. members_right r s rs ss on l x) (λ l. members_left r s rs ss (behind (s ∷ ss)) l x)

merged_members : (rs ss : List Range) → MergesMembers rs ss
merged_members [] ss x = rw (merged_none_left ss) (λ k. inr k, ⊎_elim (λ h. absurd h) (λ k. k))
merged_members (r ∷ rs) ss x = members_from r rs (merged_members rs) ss x

abbrev MergesInLimit : List Range → List Range → Type 0
MergesInLimit rs ss = AreInLimit rs → AreInLimit ss → AreInLimit (merged rs ss)

limit_from : (r : Range) (rs : List Range) → ((ss : List Range) → MergesInLimit rs ss) → (ss : List Range) → MergesInLimit (r ∷ rs) ss
limit_from r rs behind [] all each = rw (merged_none_right (r ∷ rs)) all
limit_from r rs behind (s ∷ ss) all each =
    let on = limit_from r rs behind ss in
    by_lt_z s.0 r.0
    (λ l. rw (merged_right r s rs ss l) (each.0, each.1, on all each.2))
    (λ l. rw (merged_left r s rs ss l) (all.0, all.1, behind (s ∷ ss) all.2 each))

pub merged_limit : (rs ss : List Range) → MergesInLimit rs ss
merged_limit [] ss all each = rw (merged_none_left ss) each
merged_limit (r ∷ rs) ss all each = limit_from r rs (merged_limit rs) ss all each

-- joined ranges

-- a range that overlaps or touches the one before it grows into it
in_grown : (x : ℤ) (r s : Range) → r.0 ≤ℤ s.0 → s.0 ≤ℤ (r.1 +ℤ pos 1) → IsIn (r.0, int_max r.1 s.1) x → IsIn r x ⊎ IsIn s x
in_grown x r s up touch p =
    by_lt_z r.1 x (λ l. inr (omega (arith, ints), omega (arith, ints, clamps))) (λ l. inl (p.0, l))

grown_first : (x : ℤ) (r s : Range) → IsIn r x → IsIn (r.0, int_max r.1 s.1) x
grown_first x r s p = (p.0, omega (arith, ints, clamps))

grown_second : (x : ℤ) (r s : Range) → r.0 ≤ℤ s.0 → IsIn s x → IsIn (r.0, int_max r.1 s.1) x
grown_second x r s up p = (omega (arith, ints), omega (arith, ints, clamps))

members_on : (r s : Range) (ss : List Range) → r.0 ≤ℤ s.0 → s.0 ≤ℤ (r.1 +ℤ pos 1) → (x : ℤ) → Has ((r.0, int_max r.1 s.1) ∷ ss) x ↔ Has (r ∷ s ∷ ss) x
members_on r s ss up touch x = (
  ⊎_elim (λ p. ⊎_elim (λ q. inl q) (λ q. inr (inl q)) (in_grown x r s up touch p)) (λ h. inr (inr h)),
  ⊎_elim (λ p. inl (grown_first x r s p)) (⊎_elim (λ q. inl (grown_second x r s up q)) (λ h. inr h)),
)

joined_from_members : (r : Range) (ss : List Range) → Ascends r.0 ss → (x : ℤ) → Has (joined_from r ss) x ↔ Has (r ∷ ss) x
joined_from_members r [] up x = rw (joined_end r) (λ h. h, λ h. h)
joined_from_members r (s ∷ ss) up x =
    let lower = ascends_lower r.0 s.0 ss up.0 up.2 in
    let grows = joined_from_members (r.0, int_max r.1 s.1) ss lower x in
    let stays = joined_from_members s ss up.2 x in
    by_lt_z (r.1 +ℤ pos 1) s.0
    (λ l. rw (joined_apart r s ss l) (⊎_elim (λ p. inl p) (λ h. inr (stays.0 h)), ⊎_elim (λ p. inl p) (λ h. inr (stays.1 h))))
    (λ l.
    let same = members_on r s ss up.0 l x in
    rw (joined_on r s ss l) (λ h. same.0 (grows.0 h), λ h. grows.1 (same.1 h)))

joined_from_begins : (r : Range) (ss : List Range) → Begins r.0 (joined_from r ss)
joined_from_begins r [] = rw (joined_end r) (omega (arith, ints))
joined_from_begins r (s ∷ ss) =
    let grows = joined_from_begins (r.0, int_max r.1 s.1) ss in
    by_lt_z (r.1 +ℤ pos 1) s.0 (λ l. rw (joined_apart r s ss l) (omega (arith, ints))) (λ l. rw (joined_on r s ss l) grows)

apart_from : (r s : Range) (rs : List Range) → (r.1 +ℤ pos 1) <ℤ s.0 → Begins s.0 rs → IsApart r rs
apart_from r s [] l b = tt
apart_from r s (t ∷ ts) l b = omega (arith, ints)

joined_from_canonical : (r : Range) (ss : List Range) → r.0 ≤ℤ r.1 → Ascends r.0 ss → AreCanonical (joined_from r ss)
joined_from_canonical r [] fits up = rw (joined_end r) (fits, tt, tt)
joined_from_canonical r (s ∷ ss) fits up =
    let lower = ascends_lower r.0 s.0 ss up.0 up.2 in
    let grows = joined_from_canonical (r.0, int_max r.1 s.1) ss (omega (arith, ints, clamps)) lower in
    let stays = joined_from_canonical s ss up.1 up.2 in
    by_lt_z (r.1 +ℤ pos 1) s.0
    (λ l. rw (joined_apart r s ss l) (fits, apart_from r s (joined_from s ss) l (joined_from_begins s ss), stays))
    (λ l. rw (joined_on r s ss l) grows)

joined_from_limit : (r : Range) (ss : List Range) → IsInLimit r.0 → IsInLimit r.1 → AreInLimit ss → AreInLimit (joined_from r ss)
joined_from_limit r [] low high all = rw (joined_end r) (low, high, tt)
joined_from_limit r (s ∷ ss) low high all =
    let grows = joined_from_limit (r.0, int_max r.1 s.1) ss low (omega (arith, ints, clamps), omega (arith, ints, clamps)) all.2 in
    let stays = joined_from_limit s ss all.0 all.1 all.2 in
    by_lt_z (r.1 +ℤ pos 1) s.0 (λ l. rw (joined_apart r s ss l) (low, high, stays)) (λ l. rw (joined_on r s ss l) grows)

pub joined_members : (lo : ℤ) (rs : List Range) → Ascends lo rs → (x : ℤ) → Has (joined rs) x ↔ Has rs x
unfolding joined
joined_members lo [] up x = (λ h. h, λ h. h)
joined_members lo (r ∷ rs) up x = joined_from_members r rs up.2 x

pub joined_canonical : (lo : ℤ) (rs : List Range) → Ascends lo rs → AreCanonical (joined rs)
unfolding joined
joined_canonical lo [] up = tt
joined_canonical lo (r ∷ rs) up = joined_from_canonical r rs up.1 up.2

pub joined_limit : (rs : List Range) → AreInLimit rs → AreInLimit (joined rs)
unfolding joined
joined_limit [] all = tt
joined_limit (r ∷ rs) all = joined_from_limit r rs all.0 all.1 all.2

-- the union

union_ascends : (rs ss : List Range) → AreCanonical rs → AreInLimit rs → AreCanonical ss → AreInLimit ss → Ascends least (merged rs ss)
union_ascends rs ss c all d each = merged_ascends rs ss least (canonical_ascends least rs c (begins_least rs all)) (canonical_ascends least ss d (begins_least ss each))

pub union_canonical : (rs ss : List Range) → AreCanonical rs → AreInLimit rs → AreCanonical ss → AreInLimit ss → AreCanonical (joined (merged rs ss))
union_canonical rs ss c all d each = joined_canonical least (merged rs ss) (union_ascends rs ss c all d each)

pub union_members : (rs ss : List Range) → AreCanonical rs → AreInLimit rs → AreCanonical ss → AreInLimit ss → IsUnion rs ss (joined (merged rs ss))
union_members rs ss c all d each x =
    let found = joined_members least (merged rs ss) (union_ascends rs ss c all d each) x in
    let both = merged_members rs ss x in
    (λ h. both.0 (found.0 h), λ h. found.1 (both.1 h))

pub union_limit : (rs ss : List Range) → AreInLimit rs → AreInLimit ss → AreInLimit (joined (merged rs ss))
union_limit rs ss all each = joined_limit (merged rs ss) (merged_limit rs ss all each)
