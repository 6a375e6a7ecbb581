-- Where a canonical list is cut in two, and which part has an integer.
use Rattle.std.proofs.Common.{◌≡◌, ℕ, ◌-◌, ◌≤◌, List, [], ◌∷◌, ◌++◌, length, take, drop, get_or, ap, ◌∙◌, inl, inr, ⊎_elim, arith}
use Rattle.std.proofs.lemmas.List.{take-append-drop, take_all, length-drop}
use Rattle.std.proofs.lemmas.Int.{ints}
use Rattle.std.specs.Prelude.{ℤ, ◌≤ℤ◌, ◌<ℤ◌, ◌↔◌}
use Rattle.mz_value.specs.Ranges.{Range, IsApart, AreCanonical, IsIn, Has}
use Rattle.mz_value.proofs.Members.{has_behind, has_append, has_left, has_right}

apart_front : (r : Range) (rs ss : List Range) → IsApart r (rs ++ ss) → IsApart r rs
apart_front r [] ss a = tt
apart_front r (s ∷ rs) ss a = a

pub canonical_front : (rs ss : List Range) → AreCanonical (rs ++ ss) → AreCanonical rs
canonical_front [] ss c = tt
canonical_front (r ∷ rs) ss c = (c.0, apart_front r rs ss c.1, canonical_front rs ss c.2)

pub canonical_back : (rs ss : List Range) → AreCanonical (rs ++ ss) → AreCanonical ss
canonical_back [] ss c = c
canonical_back (r ∷ rs) ss c = canonical_back rs ss c.2

below : (rs : List Range) (r : Range) (ss : List Range) (x : ℤ) → AreCanonical (rs ++ r ∷ ss) → Has rs x → x <ℤ r.0
below [] r ss x c h = absurd h
below (q ∷ rs) r ss x c (inl p) =
    let fits = canonical_back (q ∷ rs) (r ∷ ss) c in
    let low : IsIn r r.0 = (omega (arith, ints), fits.0) in
    let l = has_behind q (rs ++ r ∷ ss) r.0 c (has_right rs (r ∷ ss) r.0 (inl low)) in
    omega (arith, ints)
below (q ∷ rs) r ss x c (inr h) = below rs r ss x c.2 h

pub found_in_front : (rs : List Range) (r : Range) (ss : List Range) (x : ℤ) → AreCanonical (rs ++ r ∷ ss) → x <ℤ r.0 → Has rs x ↔ Has (rs ++ r ∷ ss) x
found_in_front rs r ss x c l =
    let tail = canonical_back rs (r ∷ ss) c in (
      has_left rs (r ∷ ss) x,
      λ h. ⊎_elim (λ k. k) (⊎_elim (λ p. absurd (omega (arith, ints))) (λ k. let above = has_behind r ss x tail k in absurd (omega (arith, ints)))) (has_append rs (r ∷ ss) x h),
    )

pub found_behind : (rs : List Range) (r : Range) (ss : List Range) (x : ℤ) → AreCanonical (rs ++ r ∷ ss) → r.1 <ℤ x → Has ss x ↔ Has (rs ++ r ∷ ss) x
found_behind rs r ss x c l =
    let tail = canonical_back rs (r ∷ ss) c in (
      λ k. has_right rs (r ∷ ss) x (inr k),
      λ h. ⊎_elim (λ k. let under = below rs r ss x c k in absurd (omega (arith, ints))) (⊎_elim (λ p. absurd (omega (arith, ints))) (λ k. k)) (has_append rs (r ∷ ss) x h),
    )

pub found_here : (rs : List Range) (r : Range) (ss : List Range) (x : ℤ) → r.0 ≤ℤ x → x ≤ℤ r.1 → Has (rs ++ r ∷ ss) x
found_here rs r ss x low high = has_right rs (r ∷ ss) x (inl (low, high))

-- a cut list, by its two parts

pub cut_parts : (rs front back : List Range) (n : ℕ) → front ≡ take n rs → back ≡ drop n rs → front ++ back ≡ rs
cut_parts rs front back n f b = ap (λ t. t ++ back) f ∙ ap (λ t. take n rs ++ t) b ∙ take-append-drop n rs

pub part_behind : (back : List Range) → take (length back - 1) (drop 1 back) ≡ drop 1 back
part_behind back = take_all (length back - 1) (drop 1 back) (omega (arith, length-drop 1 back))

pub front_canonical : (rs front back : List Range) → front ++ back ≡ rs → AreCanonical rs → AreCanonical front
front_canonical rs front back whole c = canonical_front front back (rw whole c)

pub behind_canonical : (rs front back : List Range) → front ++ back ≡ rs → AreCanonical rs → AreCanonical (take (length back - 1) (drop 1 back))
behind_canonical rs front [] whole c = tt
behind_canonical rs front (r ∷ ss) whole c = let tail = canonical_back front (r ∷ ss) (rw whole c) in rw (part_behind (r ∷ ss)) tail.2

pub front_found : (rs front back : List Range) (d : Range) (x : ℤ) → front ++ back ≡ rs → AreCanonical rs → 1 ≤ length back → x <ℤ (get_or back 0 d).0 → Has front x ↔ Has rs x
front_found rs front [] d x whole c some l = absurd (omega arith)
front_found rs front (r ∷ ss) d x whole c some l = rw whole at (found_in_front front r ss x (rw whole c) l)

pub behind_found : (rs front back : List Range) (d : Range) (x : ℤ) → front ++ back ≡ rs → AreCanonical rs → 1 ≤ length back → (get_or back 0 d).1 <ℤ x → Has (take (length back - 1) (drop 1 back)) x ↔ Has rs x
behind_found rs front [] d x whole c some l = absurd (omega arith)
behind_found rs front (r ∷ ss) d x whole c some l = rw (part_behind (r ∷ ss)) (rw whole at (found_behind front r ss x (rw whole c) l))

pub here_found : (rs front back : List Range) (d : Range) (x : ℤ) → front ++ back ≡ rs → 1 ≤ length back → (get_or back 0 d).0 ≤ℤ x → x ≤ℤ (get_or back 0 d).1 → Has rs x
here_found rs front [] d x whole some low high = absurd (omega arith)
here_found rs front (r ∷ ss) d x whole some low high = rw whole at (found_here front r ss x low high)

pub none_found : (rs front back : List Range) (x : ℤ) → front ++ back ≡ rs → length rs ≤ 0 → Has rs x → ⊥
none_found [] front back x whole none h = h
none_found (r ∷ rs) front back x whole none h = absurd (omega arith)
