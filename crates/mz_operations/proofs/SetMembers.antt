-- What sets that are made of two sets have.
use Rattle.std.proofs.Common.{◌≡◌, List, [], ◌∷◌, ◌++◌, refl, sym, ap, ◌∙◌, inl, inr, ⊎_elim, arith}
use Rattle.std.proofs.lemmas.Int.{ints, clamps, by_lt_z}
use Rattle.std.proofs.lemmas.List.{append-nil, append_assoc}
use Rattle.std.specs.Prelude.{ℤ, pos, ◌+ℤ◌, ◌-ℤ◌, ◌≤ℤ◌, ◌⊎◌}
use Rattle.std.specs.Int.{int_max, int_min}
use Rattle.std.specs.List.{flat_map}
use Rattle.mz_value.specs.Ranges.{Range, AreCanonical, AreInLimit, Has, IsUnion, IsIntersection, IsDifference, least, greatest, range_of}
use Rattle.mz_value.specs.StepsWalks.{common, gaps}
use Rattle.mz_value.proofs.Walking.{range_of_none, common_left, common_right, common_none_left, common_none_right}
use Rattle.mz_value.proofs.Members.{Begins, begins_behind, limit_range}
use Rattle.mz_value.proofs.Common.{common_members, common_canonical, common_limit}
use Rattle.mz_value.proofs.Gaps.{gaps_end, gaps_more, gaps_sound, gaps_complete, gaps_canonical, begins_least, has_limit, difference_members as walked_members}
use Rattle.mz_value.proofs.Determined.{determined}
use Rattle.mz_operations.specs.Sets.{overlap, union, intersection, difference, missing_from, complement}
use Rattle.mz_operations.specs.Laws.{IsSet}

-- ---- the definitions and the walks of mz_value give the same lists

missing_walk : (lo : ℤ) (rs : List Range) → missing_from lo rs ≡ gaps lo rs
unfolding missing_from gaps
missing_walk lo [] = refl
missing_walk lo (r ∷ rs) = ap (λ t. range_of lo (r.0 -ℤ pos 1) ++ t) (missing_walk (r.1 +ℤ pos 1) rs)

complement_walk : (a : List Range) → complement a ≡ gaps least a
unfolding complement
complement_walk a = missing_walk least a

abbrev among : List Range → Range → List Range
among ss r = flat_map (overlap r) ss

-- ranges above r have nothing in common with it
above_none : (r : Range) (ss : List Range) → AreCanonical ss → Begins (r.1 +ℤ pos 1) ss → among ss r ≡ []
above_none r [] d b = refl
above_none r (s ∷ ss) d b =
    let first : overlap r s ≡ [] = range_of_none (int_max r.0 s.0) (int_min r.1 s.1) (omega (arith, ints, clamps)) in
    let rest = above_none r ss d.2 (begins_behind (r.1 +ℤ pos 1) s ss (omega (arith, ints)) d.1) in
    rw (first, rest) refl

-- a range below all of a list adds nothing
below_none : (s : Range) (ss rs : List Range) → AreCanonical rs → Begins (s.1 +ℤ pos 1) rs → flat_map (among (s ∷ ss)) rs ≡ flat_map (among ss) rs
below_none s ss [] c b = refl
below_none s ss (r ∷ rs) c b =
    let first : overlap r s ≡ [] = range_of_none (int_max r.0 s.0) (int_min r.1 s.1) (omega (arith, ints, clamps)) in
    let rest = below_none s ss rs c.2 (begins_behind (s.1 +ℤ pos 1) r rs (omega (arith, ints)) c.1) in
    rw (first, rest) refl

none_among : (rs : List Range) → flat_map (among []) rs ≡ []
none_among [] = refl
none_among (r ∷ rs) = none_among rs

first_walk : (r : Range) (rs : List Range) → AreCanonical (r ∷ rs) → ((ss : List Range) → AreCanonical ss → flat_map (among ss) rs ≡ common rs ss) → (ss : List Range) → AreCanonical ss → flat_map (among ss) (r ∷ rs) ≡ common (r ∷ rs) ss
first_walk r rs c ih [] d = none_among rs ∙ sym (common_none_right (r ∷ rs))
first_walk r rs c ih (s ∷ ss) d =
    by_lt_z r.1 s.1
    (λ l.
    let rest = above_none r ss d.2 (begins_behind (r.1 +ℤ pos 1) s ss (omega (arith, ints)) d.1) in
    let tail = ih (s ∷ ss) d in
    let whole : flat_map (among (s ∷ ss)) (r ∷ rs) ≡ overlap r s ++ common rs (s ∷ ss) = rw (rest, tail, append-nil (overlap r s)) refl in
    whole ∙ sym (common_left r s rs ss l))
    (λ l.
    let tail = below_none s ss rs c.2 (begins_behind (s.1 +ℤ pos 1) r rs (omega (arith, ints)) c.1) in
    let on = first_walk r rs c ih ss d.2 in
    let whole : flat_map (among (s ∷ ss)) (r ∷ rs) ≡ overlap r s ++ flat_map (among ss) (r ∷ rs) = rw (tail, append_assoc (overlap r s) (among ss r) (flat_map (among ss) rs)) refl in
    whole ∙ ap (λ t. overlap r s ++ t) on ∙ sym (common_right r s rs ss l))

among_walk : (rs ss : List Range) → AreCanonical rs → AreCanonical ss → flat_map (among ss) rs ≡ common rs ss
among_walk [] ss c d = sym (common_none_left ss)
among_walk (r ∷ rs) ss c d = first_walk r rs c (λ ts. among_walk rs ts c.2) ss d

intersection_walk : (a b : List Range) → AreCanonical a → AreCanonical b → intersection a b ≡ common a b
unfolding intersection
intersection_walk a b c d = among_walk a b c d

-- ---- what is missing

gaps_limit : (lo : ℤ) (rs : List Range) → least ≤ℤ lo → AreInLimit rs → AreInLimit (gaps lo rs)
gaps_limit lo [] low all = rw (gaps_end lo) (limit_range lo greatest [] low (omega (arith, ints)) tt)
gaps_limit lo (r ∷ rs) low all =
    rw (gaps_more lo r rs)
    (limit_range lo (r.0 -ℤ pos 1) (gaps (r.1 +ℤ pos 1) rs) low (omega (arith, ints)) (gaps_limit (r.1 +ℤ pos 1) rs (omega (arith, ints)) all.2))

missing_set : (a : List Range) → IsSet a → IsSet (gaps least a)
missing_set a p = (gaps_canonical least a p.0 (begins_least a p.1), gaps_limit least a (omega (arith, ints)) p.1)

within : (r : Range) (x : ℤ) (Q : Type 0) → ((r.0 ≤ℤ x) × (x ≤ℤ r.1) → Q) → ((r.0 ≤ℤ x) × (x ≤ℤ r.1) → ⊥) ⊎ Q
within r x Q go = by_lt_z x r.0 (λ l. inl (λ p. omega (arith, ints))) (λ l. by_lt_z r.1 x (λ m. inl (λ p. omega (arith, ints))) (λ m. inr (go (l, m))))

has_or_not : (rs : List Range) (x : ℤ) → Has rs x ⊎ (Has rs x → ⊥)
has_or_not [] x = inr (λ h. h)
has_or_not (r ∷ rs) x =
    ⊎_elim
    (λ out. ⊎_elim (λ h. inl (inr h)) (λ n. inr (λ h. ⊎_elim out n h)) (has_or_not rs x))
    (λ h. inl h)
    (within r x (Has (r ∷ rs) x) (λ p. inl p))

-- ---- sets

pub intersection_set : (a b : List Range) → IsSet a → IsSet b → IsSet (intersection a b)
intersection_set a b p q = rw (intersection_walk a b p.0 q.0) (common_canonical a b p.0 q.0, common_limit a b p.1)

pub intersection_members : (a b : List Range) → IsSet a → IsSet b → IsIntersection a b (intersection a b)
intersection_members a b p q = rw (intersection_walk a b p.0 q.0) (common_members a b p.0 q.0)

difference_walk : (a b : List Range) → IsSet a → IsSet b → difference a b ≡ common a (gaps least b)
unfolding difference
difference_walk a b p q = ap (intersection a) (complement_walk b) ∙ intersection_walk a (gaps least b) p.0 (missing_set b q).0

pub difference_set : (a b : List Range) → IsSet a → IsSet b → IsSet (difference a b)
difference_set a b p q = rw (difference_walk a b p q) (common_canonical a (gaps least b) p.0 (missing_set b q).0, common_limit a (gaps least b) p.1)

pub difference_members : (a b : List Range) → IsSet a → IsSet b → IsDifference a b (difference a b)
difference_members a b p q = rw (difference_walk a b p q) (walked_members a b p.0 p.1 q.0 q.1)

-- what is missing from both
abbrev neither : List Range → List Range → List Range
neither a b = common (gaps least a) (gaps least b)

neither_set : (a b : List Range) → IsSet a → IsSet b → IsSet (neither a b)
neither_set a b p q =
    let pa = missing_set a p in
    let pb = missing_set b q in
    (common_canonical (gaps least a) (gaps least b) pa.0 pb.0, common_limit (gaps least a) (gaps least b) pa.1)

union_walk : (a b : List Range) → IsSet a → IsSet b → union a b ≡ gaps least (neither a b)
unfolding union
union_walk a b p q =
    let both : intersection (complement a) (complement b) ≡ neither a b =
    ap (λ t. intersection t (complement b)) (complement_walk a) ∙ ap (intersection (gaps least a)) (complement_walk b) ∙ intersection_walk (gaps least a) (gaps least b) (missing_set a p).0 (missing_set b q).0 in
    ap complement both ∙ complement_walk (neither a b)

pub union_set : (a b : List Range) → IsSet a → IsSet b → IsSet (union a b)
union_set a b p q = rw (union_walk a b p q) (missing_set (neither a b) (neither_set a b p q))

missing_sound : (a : List Range) (x : ℤ) → IsSet a → Has (gaps least a) x → Has a x → ⊥
missing_sound a x p h = (gaps_sound x least a p.0 (begins_least a p.1) h).1

missing_complete : (a : List Range) (x : ℤ) → IsSet a → least ≤ℤ x → x ≤ℤ greatest → (Has a x → ⊥) → Has (gaps least a) x
missing_complete a x p low high n = gaps_complete x least a low high n

pub union_members : (a b : List Range) → IsSet a → IsSet b → IsUnion a b (union a b)
union_members a b p q = rw (union_walk a b p q) members
  where
    both : (x : ℤ) → Has (neither a b) x → (Has a x → ⊥) × (Has b x → ⊥)
    both x h =
        let m = (common_members (gaps least a) (gaps least b) (missing_set a p).0 (missing_set b q).0 x).0 h in
        (missing_sound a x p m.0, missing_sound b x q m.1)

    outside : (x : ℤ) → least ≤ℤ x → x ≤ℤ greatest → (Has a x → ⊥) → (Has b x → ⊥) → Has (neither a b) x
    outside x low high n m = (common_members (gaps least a) (gaps least b) (missing_set a p).0 (missing_set b q).0 x).1 (missing_complete a x p low high n, missing_complete b x q low high m)

    one : (x : ℤ) → Has (gaps least (neither a b)) x → Has a x ⊎ Has b x
    one x h =
        let l = has_limit x (gaps least (neither a b)) (missing_set (neither a b) (neither_set a b p q)).1 h in
        let n = missing_sound (neither a b) x (neither_set a b p q) h in
        ⊎_elim
        (λ k. inl k)
        (λ na. ⊎_elim (λ k. inr k) (λ nb. absurd (n (outside x l.0 l.1 na nb))) (has_or_not b x))
        (has_or_not a x)

    left : (x : ℤ) → Has a x → Has (gaps least (neither a b)) x
    left x h = let l = has_limit x a p.1 h in missing_complete (neither a b) x (neither_set a b p q) l.0 l.1 (λ k. (both x k).0 h)

    right : (x : ℤ) → Has b x → Has (gaps least (neither a b)) x
    right x h = let l = has_limit x b q.1 h in missing_complete (neither a b) x (neither_set a b p q) l.0 l.1 (λ k. (both x k).1 h)

    members : IsUnion a b (gaps least (neither a b))
    members x = (one x, λ s. ⊎_elim (left x) (right x) s)

-- ---- a set is known by what it has

pub union_is : (a b s : List Range) → IsSet a → IsSet b → IsUnion a b s → AreCanonical s → s ≡ union a b
union_is a b s p q h c =
    let members = union_members a b p q in
    determined s (union a b) c (union_set a b p q).0 (λ x. (λ m. (members x).1 ((h x).0 m), λ m. (h x).1 ((members x).0 m)))

pub intersection_is : (a b s : List Range) → IsSet a → IsSet b → IsIntersection a b s → AreCanonical s → s ≡ intersection a b
intersection_is a b s p q h c =
    let members = intersection_members a b p q in
    determined s (intersection a b) c (intersection_set a b p q).0 (λ x. (λ m. (members x).1 ((h x).0 m), λ m. (h x).1 ((members x).0 m)))

pub difference_is : (a b s : List Range) → IsSet a → IsSet b → IsDifference a b s → AreCanonical s → s ≡ difference a b
difference_is a b s p q h c =
    let members = difference_members a b p q in
    determined s (difference a b) c (difference_set a b p q).0 (λ x. (λ m. (members x).1 ((h x).0 m), λ m. (h x).1 ((members x).0 m)))
