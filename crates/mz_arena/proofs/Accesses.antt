-- The bounds of an access lie within those of one with wider bounds.
use Rattle.std.proofs.Common.{◌≡◌, ◌≢◌, ℕ, zero, suc, ◌+◌, ◌-◌, ◌<◌, ◌≤◌, ℤ, pos, negsuc, ◌≤ℤ◌, List, [], ◌∷◌, drop, take, slice_get, Some, ⊎_elim, refl, sym, ap, subst, ◌∙◌, arith}
use Rattle.std.proofs.lemmas.Int.{ints}
use Rattle.mz_value.specs.Ranges.{Range}
use Rattle.mz_interval.specs.Ends.{Ends, Encloses, hull_of}
use Rattle.mz_operations.specs.Sets.{union}
use Rattle.mz_operations.specs.Bounds.{hull_from, hull_of_all, union_from, union_of_all}
use Rattle.mz_operations.specs.Laws.{IsSet, IsPart, AreSets}
use Rattle.mz_operations.proofs.Arithmetic.{hull_encloses}
use Rattle.mz_operations.proofs.SetMembers.{union_set, union_members}
use Rattle.mz_operations.proofs.SetBounds.{union_encloses, part_part}
use Rattle.mz_operations.specs.Monotone.{IsWithin, IsOrdered, AreWithin, AreParts}
use Rattle.mz_operations.proofs.Numbers.{hull_within, ends_within, low_end, high_end}
use Rattle.mz_arena.specs.Extents.{not_negative, skipped, reached}
use Rattle.mz_arena.specs.Accesses.{AreOrdered, AccessIsMonotone, SetAccessIsMonotone}
use Rattle.mz_arena.proofs.Sets.{reached_sets}
use Rattle.mz_arena.proofs.BoundsOfLists.{reached_at}

-- ---- an element that is reached

get-dropped : {A : Type 0} (m j : ℕ) (xs : List A) → slice_get (drop m xs) j ≡ slice_get xs (j + m)
get-dropped zero j xs = let same : j ≡ j + 0 = omega arith in ap (slice_get xs) same
get-dropped (suc m) j [] = refl
get-dropped (suc m) j (x ∷ xs) = let same : suc (j + m) ≡ j + suc m = omega arith in get-dropped m j xs ∙ ap (slice_get (x ∷ xs)) same

record IsTaken {A : Type 0} (n j : ℕ) (xs : List A) (x : A) : Type 0 where
  below : j < n
  there : slice_get xs j ≡ Some x

get-taken : {A : Type 0} (n j : ℕ) (xs : List A) (x : A) → slice_get (take n xs) j ≡ Some x → IsTaken n j xs x
get-taken zero j xs x h = cc
get-taken (suc n) j [] x h = cc
get-taken (suc n) zero (y ∷ xs) x h = record { below = omega arith; there = h }
get-taken (suc n) (suc j) (y ∷ xs) x h = let rest = get-taken n j xs x h in record { below = omega (arith, rest.below); there = rest.there }

-- its place lies between the ends
record IsReached {A : Type 0} (e : Ends) (xs : List A) (x : A) : Type 0 where
  place : ℕ
  there : slice_get xs place ≡ Some x
  inside : Encloses e (pos (suc place))

low_after : (l : ℤ) (k : ℕ) → not_negative l - 1 ≤ k → l ≤ℤ pos (suc k)
low_after (pos n) k h = omega (arith, ints)
low_after (negsuc n) k h = omega (arith, ints)

high_before : (h : ℤ) (k : ℕ) → k < not_negative h → pos (suc k) ≤ℤ h
high_before (pos n) k p = omega (arith, ints)
high_before (negsuc n) k p = absurd (omega arith)

reached_is : {A : Type 0} (e : Ends) (j : ℕ) (xs : List A) (x : A) → slice_get (reached e xs) j ≡ Some x → IsReached e xs x
reached_is e j xs x h =
    let t = get-taken (not_negative e.1 - skipped e) j (drop (skipped e) xs) x h in
    record {
      place = j + skipped e;
      there = sym (get-dropped (skipped e) j xs) ∙ t.there;
      inside = record { from = low_after e.0 (j + skipped e) (omega arith); to = high_before e.1 (j + skipped e) (omega (arith, t.below)) };
    }

wider : (e g : Ends) (x : ℤ) → IsWithin e g → Encloses e x → Encloses g x
wider e g x w h = record { from = omega (arith, ints, w.from, h.from); to = omega (arith, ints, w.to, h.to) }

-- ---- numbers

record IsWider (gs : List Ends) (k : ℕ) (f : Ends) : Type 0 where
  ends : Ends
  there : slice_get gs k ≡ Some ends
  within : IsWithin f ends

wider_at : (es gs : List Ends) (k : ℕ) (f : Ends) → AreWithin es gs → slice_get es k ≡ Some f → IsWider gs k f
wider_at [] gs k f all h = cc
wider_at (e ∷ es) [] k f all h = absurd all
wider_at (e ∷ es) (g ∷ gs) zero f all h = let same : e ≡ f = cc in record { ends = g; there = refl; within = subst (λ (d : Ends). IsWithin d g) same all.0 }
wider_at (e ∷ es) (g ∷ gs) (suc k) f all h = let rest = wider_at es gs k f all.1 h in record { ends = rest.ends; there = rest.there; within = rest.within }

ordered_at : (es : List Ends) (k : ℕ) (f : Ends) → AreOrdered es → slice_get es k ≡ Some f → IsOrdered f
ordered_at [] k f all h = cc
ordered_at (e ∷ es) zero f all h = let same : e ≡ f = cc in subst (λ (d : Ends). IsOrdered d) same all.0
ordered_at (e ∷ es) (suc k) f all h = ordered_at es k f all.1 h

hull_from_under : (acc g : Ends) (es : List Ends) → IsWithin acc g → ((j : ℕ) (f : Ends) → slice_get es j ≡ Some f → IsWithin f g) → IsWithin (hull_from acc es) g
hull_from_under acc g [] p all = p
hull_from_under acc g (e ∷ es) p all = hull_from_under (hull_of acc e) g es (hull_within acc e g p (all 0 e refl)) (λ j f h. all (suc j) f h)

hull_under : (g : Ends) (es : List Ends) → es ≢ [] → ((j : ℕ) (f : Ends) → slice_get es j ≡ Some f → IsWithin f g) → IsWithin (hull_of_all es) g
hull_under g [] n all = absurd (n refl)
hull_under g (e ∷ es) n all = hull_from_under e g es (all 0 e refl) (λ j f h. all (suc j) f h)

pub access_is_monotone : AccessIsMonotone
access_is_monotone e g es gs w ordered all some = hull_under (hull_of_all (reached g gs)) (reached e es) some one
  where
    one : (j : ℕ) (f : Ends) → slice_get (reached e es) j ≡ Some f → IsWithin f (hull_of_all (reached g gs))
    one j f h =
        let r = reached_is e j es f h in
        let o = ordered_at es r.place f ordered r.there in
        let d = wider_at es gs r.place f all r.there in
        let there = reached_at g r.place gs (wider e g (pos (suc r.place)) w r.inside) ∙ d.there in
        ends_within f (hull_of_all (reached g gs))
        (hull_encloses (reached g gs) (r.place - skipped g) d.ends f.0 there (low_end f d.ends o d.within))
        (hull_encloses (reached g gs) (r.place - skipped g) d.ends f.1 there (high_end f d.ends o d.within))

-- ---- sets

record HasWhole (ws : List (List Range)) (k : ℕ) (u : List Range) : Type 0 where
  whole : List Range
  there : slice_get ws k ≡ Some whole
  part : IsPart u whole

whole_at : (us ws : List (List Range)) (k : ℕ) (u : List Range) → AreParts us ws → slice_get us k ≡ Some u → HasWhole ws k u
whole_at [] ws k u all h = cc
whole_at (v ∷ us) [] k u all h = absurd all
whole_at (v ∷ us) (w ∷ ws) zero u all h = let same : v ≡ u = cc in record { whole = w; there = refl; part = subst (λ z. IsPart z w) same all.0 }
whole_at (v ∷ us) (w ∷ ws) (suc k) u all h = let rest = whole_at us ws k u all.1 h in record { whole = rest.whole; there = rest.there; part = rest.part }

both_under : (a b w : List Range) → IsSet a → IsSet b → IsPart a w → IsPart b w → IsPart (union a b) w
both_under a b w p q h k = record { inside = λ x m. ⊎_elim (λ l. h.inside x l) (λ l. k.inside x l) ((union_members a b p q x).0 m) }

union_from_under : (acc w : List Range) (us : List (List Range)) → IsSet acc → AreSets us → IsPart acc w → ((j : ℕ) (u : List Range) → slice_get us j ≡ Some u → IsPart u w) → IsPart (union_from acc us) w
unfolding union_from
union_from_under acc w [] p i h all = h
union_from_under acc w (u ∷ us) p i h all = union_from_under (union acc u) w us (union_set acc u p i.0) i.1 (both_under acc u w p i.0 h (all 0 u refl)) (λ j v k. all (suc j) v k)

pub set_access_is_monotone : SetAccessIsMonotone
set_access_is_monotone e g us ws w i j all = union_from_under [] (union_of_all (reached g ws)) (reached e us) (tt, tt) (reached_sets e us i) (record { inside = λ x m. absurd m }) one
  where
    one : (k : ℕ) (u : List Range) → slice_get (reached e us) k ≡ Some u → IsPart u (union_of_all (reached g ws))
    one k u h =
        let r = reached_is e k us u h in
        let d = whole_at us ws r.place u all r.there in
        let there = reached_at g r.place ws (wider e g (pos (suc r.place)) w r.inside) ∙ d.there in
        part_part u d.whole (union_of_all (reached g ws)) d.part (union_encloses (reached g ws) (r.place - skipped g) d.whole (reached_sets g ws j) there)
