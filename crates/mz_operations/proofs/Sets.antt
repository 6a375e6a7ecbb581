-- Greatest sets within other sets.
use Rattle.std.proofs.Common.{◌≡◌, ◌-◌, ℕ, zero, suc, pos, List, [], ◌∷◌, length, slice_get, option_map, unwrap_or, inl, inr, refl, sym, subst, arith}
use Rattle.std.proofs.lemmas.Int.{ints}
use Rattle.mz_value.specs.Ranges.{Range, AreCanonical, Has}
use Rattle.mz_interval.specs.Ends.{Encloses}
use Rattle.mz_operations.specs.declared.row.SetOp.TheVariants.{Union, Intersect, Diff, Symdiff}
use Rattle.mz_operations.specs.Sets.{union, combined, end_of}
use Rattle.mz_operations.specs.Bounds.{union_from, hull_of_set, combined_upper}
use Rattle.mz_operations.specs.Laws.{IsSet, IsPart, AreSets}
use Rattle.mz_operations.proofs.CardBounds.{cardinality-le}
use Rattle.mz_operations.proofs.SetMembers.{union_set}
use Rattle.mz_operations.proofs.SetBounds.{set_encloses, hull_of_set-has, part_same}
use Rattle.mz_operations.specs.Monotone.{AreParts, CardIsMonotone, HullOfSetIsMonotone, SetIsMonotone, UnionIsMonotone}
use Rattle.mz_operations.proofs.Numbers.{ends_within}

pub card_is_monotone : CardIsMonotone
card_is_monotone u w c d p = let less = cardinality-le u c w d p in record { from = omega (arith, ints); to = omega (arith, ints) }

pub set_is_monotone : SetIsMonotone
unfolding combined combined_upper
set_is_monotone Union s t u w p q i j h k = set_encloses Union s t u w p q i j h k
set_is_monotone Intersect s t u w p q i j h k = set_encloses Intersect s t u w p q i j h k
set_is_monotone Diff s t u w p q i j h k = h
set_is_monotone Symdiff s t u w p q i j h k = set_encloses Union s t u w p q i j h k

both_parts : (s t u w : List Range) → IsSet s → IsSet t → IsSet u → IsSet w → IsPart s u → IsPart t w → IsPart (union s t) (union u w)
unfolding combined combined_upper
both_parts s t u w p q i j h k = set_encloses Union s t u w p q i j h k

union_from_within : (a b : List Range) (us ws : List (List Range)) → IsSet a → IsSet b → AreSets us → AreSets ws → IsPart a b → AreParts us ws → IsPart (union_from a us) (union_from b ws)
unfolding union_from
union_from_within a b [] [] p q i j h all = h
union_from_within a b [] (w ∷ ws) p q i j h all = absurd all
union_from_within a b (u ∷ us) [] p q i j h all = absurd all
union_from_within a b (u ∷ us) (w ∷ ws) p q i j h all =
    union_from_within (union a u) (union b w) us ws (union_set a u p i.0) (union_set b w q j.0) i.1 j.1 (both_parts a u b w p i.0 q j.0 h all.0) all.1

pub union_is_monotone : UnionIsMonotone
union_is_monotone us ws i j all = union_from_within [] [] us ws (tt, tt) (tt, tt) i j (part_same []) all

-- ---- the hull of a set

low_is : (r : Range) (rs : List Range) → (hull_of_set (r ∷ rs)).0 ≡ r.0
unfolding end_of
low_is r rs = refl

high_has : (r : Range) (rs : List Range) → AreCanonical (r ∷ rs) → (k : ℕ) → k ≡ length rs → Has (r ∷ rs) (unwrap_or (option_map (λ (q : Range). q.1) (slice_get (r ∷ rs) k)) (pos 0))
high_has r [] c zero e = inl (c.0, omega (arith, ints))
high_has r [] c (suc k) e = absurd (omega arith)
high_has r (s ∷ ss) c zero e = absurd (omega arith)
high_has r (s ∷ ss) c (suc k) e = inr (high_has s ss c.2 k (omega arith))

high_in : (r : Range) (rs : List Range) → AreCanonical (r ∷ rs) → Has (r ∷ rs) (hull_of_set (r ∷ rs)).1
unfolding end_of
high_in r rs c = high_has r rs c (length (r ∷ rs) - 1) (omega arith)

pub hull_of_set_is_monotone : HullOfSetIsMonotone
hull_of_set_is_monotone [] w c d n p = absurd (n refl)
hull_of_set_is_monotone (r ∷ rs) w c d n p =
    let low : Has (r ∷ rs) r.0 = inl (omega (arith, ints), c.0) in
    ends_within (hull_of_set (r ∷ rs)) (hull_of_set w)
    (subst (Encloses (hull_of_set w)) (sym (low_is r rs)) (hull_of_set-has w r.0 d (p.inside r.0 low)))
    (hull_of_set-has w (hull_of_set (r ∷ rs)).1 d (p.inside (hull_of_set (r ∷ rs)).1 (high_in r rs c)))
