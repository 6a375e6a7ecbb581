-- Sets that lie in greatest sets.
use Rattle.std.proofs.Common.{◌≡◌, ℕ, zero, suc, ◌-◌, length, ℤ, pos, ◌≤ℤ◌, Bool, true, false, List, [], ◌∷◌, Some, option_map, unwrap_or, slice_get, inl, inr, ⊎_elim, subst, refl, ap, ◌∙◌, arith}
use Rattle.std.proofs.lemmas.Int.{ints}
use Rattle.std.specs.List.{list_any}
use Rattle.mz_value.specs.Ranges.{Range, AreCanonical, Has, IsIn}
use Rattle.mz_value.specs.Contents.{Content}
use Rattle.mz_value.proofs.Members.{has_begins}
use Rattle.mz_interval.specs.Ends.{Encloses}
use Rattle.mz_operations.specs.declared.row.SetOp.TheVariants.{Union, Intersect, Diff, Symdiff}
use Rattle.mz_operations.specs.declared.row.Side.TheVariants.{Least, Greatest}
use Rattle.mz_operations.specs.Views.{as_set}
use Rattle.mz_operations.specs.Sets.{union, intersection, difference, combined, contains, is_within, end_of}
use Rattle.mz_operations.specs.Arrays.{fold_from}
use Rattle.mz_operations.specs.Values.{common_so_far}
use Rattle.mz_operations.specs.Bounds.{union_from, hull_of_set, combined_upper, intersection_from}
use Rattle.mz_operations.specs.Laws.{IsSet, IsPart, AllLieWithin, AreSets, BesideEncloses, SetEncloses, UnionEncloses, ArrayUnionEncloses, ArrayIntersectEncloses}
use Rattle.mz_operations.proofs.Options.{went}
use Rattle.mz_operations.proofs.SetMembers.{union_set, union_members, intersection_set, intersection_members, difference_set, difference_members}

-- ---- members

-- what both halves lie in, the union lies in
union_part : (a b u : List Range) → IsSet a → IsSet b → IsPart a u → IsPart b u → IsPart (union a b) u
union_part a b u p q h k = record { inside = λ x m. ⊎_elim (λ l. h.inside x l) (λ l. k.inside x l) ((union_members a b p q x).0 m) }

pub union_left : (a b : List Range) → IsSet a → IsSet b → IsPart a (union a b)
union_left a b p q = record { inside = λ x m. (union_members a b p q x).1 (inl m) }

pub union_right : (a b : List Range) → IsSet a → IsSet b → IsPart b (union a b)
union_right a b p q = record { inside = λ x m. (union_members a b p q x).1 (inr m) }

intersection_left : (a b : List Range) → IsSet a → IsSet b → IsPart (intersection a b) a
intersection_left a b p q = record { inside = λ x m. ((intersection_members a b p q x).0 m).0 }

intersection_right : (a b : List Range) → IsSet a → IsSet b → IsPart (intersection a b) b
intersection_right a b p q = record { inside = λ x m. ((intersection_members a b p q x).0 m).1 }

part_intersection : (a u w : List Range) → IsSet u → IsSet w → IsPart a u → IsPart a w → IsPart a (intersection u w)
part_intersection a u w p q h k = record { inside = λ x m. (intersection_members u w p q x).1 (h.inside x m, k.inside x m) }

difference_part : (a b : List Range) → IsSet a → IsSet b → IsPart (difference a b) a
difference_part a b p q = record { inside = λ x m. ((difference_members a b p q x).0 m).0 }

pub part_part : (a b c : List Range) → IsPart a b → IsPart b c → IsPart a c
part_part a b c h k = record { inside = λ x m. k.inside x (h.inside x m) }

pub part_same : (a : List Range) → IsPart a a
part_same a = record { inside = λ x m. m }

-- ---- operations

pub set_encloses : SetEncloses
unfolding combined combined_upper
set_encloses Union s t u w ss st su sw h k =
    union_part s t (union u w) ss st (part_part s u (union u w) h (union_left u w su sw)) (part_part t w (union u w) k (union_right u w su sw))
set_encloses Intersect s t u w ss st su sw h k =
    part_intersection (intersection s t) u w su sw (part_part (intersection s t) s u (intersection_left s t ss st) h) (part_part (intersection s t) t w (intersection_right s t ss st) k)
set_encloses Diff s t u w ss st su sw h k = part_part (difference s t) s u (difference_part s t ss st) h
set_encloses Symdiff s t u w ss st su sw h k =
    union_part (difference s t) (difference t s) (union u w) (difference_set s t ss st) (difference_set t s st ss)
    (part_part (difference s t) s (union u w) (difference_part s t ss st) (part_part s u (union u w) h (union_left u w su sw)))
    (part_part (difference t s) t (union u w) (difference_part t s st ss) (part_part t w (union u w) k (union_right u w su sw)))

-- ---- unions and intersections of many

union_from_acc : (acc : List Range) (us : List (List Range)) → IsSet acc → AreSets us → IsPart acc (union_from acc us)
unfolding union_from
union_from_acc acc [] p all = part_same acc
union_from_acc acc (u ∷ us) p all =
    part_part acc (union acc u) (union_from (union acc u) us) (union_left acc u p all.0) (union_from_acc (union acc u) us (union_set acc u p all.0) all.1)

union_from_in : (acc : List Range) (us : List (List Range)) (k : ℕ) (u : List Range) → IsSet acc → AreSets us → slice_get us k ≡ Some u → IsPart u (union_from acc us)
unfolding union_from
union_from_in acc [] k u p all i = cc
union_from_in acc (v ∷ us) zero u p all i =
    let same : v ≡ u = cc in
    subst (λ z. IsPart z (union_from (union acc v) us)) same
    (part_part v (union acc v) (union_from (union acc v) us) (union_right acc v p all.0) (union_from_acc (union acc v) us (union_set acc v p all.0) all.1))
union_from_in acc (v ∷ us) (suc k) u p all i = union_from_in (union acc v) us k u (union_set acc v p all.0) all.1 i

pub union_encloses : UnionEncloses
union_encloses us k u all i = union_from_in [] us k u (tt, tt) all i

array_union_in : (acc a : List Range) (us : List (List Range)) (xs : List Content) (s : List Range) → IsSet acc → IsSet a → IsPart acc a → AllLieWithin us xs → fold_from as_set union acc xs ≡ Some s → IsPart s (union_from a us)
unfolding union_from fold_from
array_union_in acc a [] [] s p q h all e = let same : acc ≡ s = cc in subst (λ z. IsPart z a) same h
array_union_in acc a [] (x ∷ xs) s p q h all e = absurd all
array_union_in acc a (u ∷ us) [] s p q h all e = absurd all
array_union_in acc a (u ∷ us) (x ∷ xs) s p q h all e =
    let w = went (as_set x) (λ b. fold_from as_set union (union acc b) xs) s e in
    let b = w.value in
    let sb = all.0.set b w.was in
    let su = all.0.upper in
    array_union_in (union acc b) (union a u) us xs s (union_set acc b p sb) (union_set a u q su)
    (union_part acc b (union a u) p sb (part_part acc a (union a u) h (union_left a u q su)) (part_part b u (union a u) (all.0.part b w.was) (union_right a u q su)))
    all.1 w.rest

pub array_union_encloses : ArrayUnionEncloses
array_union_encloses us xs s all e = array_union_in [] [] us xs s (tt, tt) (tt, tt) (part_same []) all e

array_intersect_in : (acc a : List Range) (us : List (List Range)) (xs : List Content) (s : List Range) → IsSet acc → IsSet a → IsPart acc a → AllLieWithin us xs → fold_from as_set common_so_far (Some acc) xs ≡ Some (Some s) → IsPart s (intersection_from a us)
unfolding intersection_from fold_from common_so_far
array_intersect_in acc a [] [] s p q h all e = let same : acc ≡ s = cc in subst (λ z. IsPart z a) same h
array_intersect_in acc a [] (x ∷ xs) s p q h all e = absurd all
array_intersect_in acc a (u ∷ us) [] s p q h all e = absurd all
array_intersect_in acc a (u ∷ us) (x ∷ xs) s p q h all e =
    let w = went (as_set x) (λ b. fold_from as_set common_so_far (Some (intersection acc b)) xs) (Some s) e in
    let b = w.value in
    let sb = all.0.set b w.was in
    let su = all.0.upper in
    array_intersect_in (intersection acc b) (intersection a u) us xs s (intersection_set acc b p sb) (intersection_set a u q su)
    (part_intersection (intersection acc b) a u q su (part_part (intersection acc b) acc a (intersection_left acc b p sb) h) (part_part (intersection acc b) b u (intersection_right acc b p sb) (all.0.part b w.was)))
    all.1 w.rest

pub array_intersect_encloses : ArrayIntersectEncloses
unfolding fold_from common_so_far
array_intersect_encloses [] [] s all e = cc
array_intersect_encloses [] (x ∷ xs) s all e = absurd all
array_intersect_encloses (u ∷ us) [] s all e = absurd all
array_intersect_encloses (u ∷ us) (x ∷ xs) s all e =
    let w = went (as_set x) (λ b. fold_from as_set common_so_far (Some b) xs) (Some s) e in
    array_intersect_in w.value u us xs s (all.0.set w.value w.was) all.0.upper (all.0.part w.value w.was) all.1 w.rest

-- ---- the hull of a set

within_in : (r : Range) (x : ℤ) → is_within r x ≡ true → IsIn r x
within_in r x h = (grind (arith, ints), grind (arith, ints))

pub contains_has : (s : List Range) (x : ℤ) → contains s x ≡ true → Has s x
unfolding contains
contains_has [] x h = cc
contains_has (r ∷ rs) x h = by (is_within r x) refl (contains_has rs x)
  where
    by : (t : Bool) → is_within r x ≡ t → (list_any (λ s. is_within s x) rs ≡ true → Has rs x) → Has (r ∷ rs) x
    by true e rest = inl (within_in r x e)
    by false e rest = let tail : list_any (λ s. is_within s x) rs ≡ true = (rw e at h) in inr (rest tail)

last_of : Range → List Range → Range
last_of r [] = r
last_of r (s ∷ ss) = last_of s ss

slice_get-last : (r : Range) (rs : List Range) → slice_get (r ∷ rs) (length rs) ≡ Some (last_of r rs)
unfolding last_of
slice_get-last r [] = refl
slice_get-last r (s ∷ ss) = slice_get-last s ss

end_of-greatest : (r : Range) (rs : List Range) → end_of Greatest (r ∷ rs) ≡ Some (last_of r rs).1
unfolding end_of
end_of-greatest r rs =
    let place : length (r ∷ rs) - 1 ≡ length rs = omega arith in
    ap (λ k. option_map (λ (q : Range). q.1) (slice_get (r ∷ rs) k)) place ∙ ap (option_map (λ (q : Range). q.1)) (slice_get-last r rs)

le_last : (r : Range) (rs : List Range) → AreCanonical (r ∷ rs) → r.1 ≤ℤ (last_of r rs).1
unfolding last_of
le_last r [] c = omega (arith, ints)
le_last r (s ∷ ss) c = let rest = le_last s ss c.2 in omega (arith, ints)

has_le_last : (r : Range) (rs : List Range) (x : ℤ) → AreCanonical (r ∷ rs) → Has (r ∷ rs) x → x ≤ℤ (last_of r rs).1
unfolding last_of
has_le_last r [] x c (inl p) = p.1
has_le_last r [] x c (inr h) = absurd h
has_le_last r (s ∷ ss) x c (inl p) = let l = le_last s ss c.2 in omega (arith, ints)
has_le_last r (s ∷ ss) x c (inr h) = has_le_last s ss x c.2 h

pub hull_of_set-has : (u : List Range) (x : ℤ) → AreCanonical u → Has u x → Encloses (hull_of_set u) x
hull_of_set-has [] x c h = absurd h
hull_of_set-has (r ∷ rs) x c h =
    let low : unwrap_or (end_of Least (r ∷ rs)) (pos 0) ≡ r.0 = unfold end_of in refl in
    let high : unwrap_or (end_of Greatest (r ∷ rs)) (pos 0) ≡ (last_of r rs).1 = ap (λ o. unwrap_or o (pos 0)) (end_of-greatest r rs) in
    record {
      from = rw low (has_begins r.0 (r ∷ rs) x c (omega (arith, ints)) h);
      to = rw high (has_le_last r rs x c h);
    }

pub beside_encloses : BesideEncloses
beside_encloses side s u k c h i = hull_of_set-has u _ c (h.inside _ (contains_has s _ i))
