-- The place of an access with one index.
use Rattle.std.proofs.Common.{◌≡◌, ◌∙◌, inl, inr, ℕ, ◌+◌, ◌*◌, ℤ, pos, ◌+ℤ◌, ◌-ℤ◌, int_le, int_lt, unsigned_abs, Bool, true, false, ◌&&◌, cond, List, [], ◌∷◌, length, get_or, Option, Some, None, refl, sym, ap, subst, arith, if◌then◌else◌}
use Rattle.std.proofs.lemmas.Int.{ints}
use Rattle.std.specs.Int.{int_min, int_max}
use Rattle.std.specs.Option.{option_map}
use Rattle.mz_index.specs.Places.{Range, count_of, is_inside, offset_of}
use Rattle.mz_operations.specs.declared.row.Arith.TheVariants.{Add}
use Rattle.mz_operations.specs.declared.row.Side.TheVariants.{Least, Greatest}
use Rattle.mz_operations.specs.Views.{◌>>=◌}
use Rattle.mz_operations.specs.Numbers.{computed}
use Rattle.mz_arena.specs.Values.{Term, number, as_number, arith_term, cons_term, extreme_term}
use Rattle.mz_meaning.specs.Runs.{Out}
use Rattle.mz_symbol.specs.declared.types.Symbol.{Symbol}
use Rattle.mz_symbol.specs.Runs.{Run}
use Rattle.mz_symbol.specs.Readings.{Reading, node_meaning, state_of}
use Rattle.mz_symbol.proofs.ConstantLaws.{out_value, out_state}
use Rattle.mz_symbol_access.specs.StepsPlace.{whole, IsIndex, AreIndices, sum_node, list_of_two, step_of, shift_term, places_of}
use Rattle.mz_symbol_access.specs.StepsAlone.{last_before, first_after, before_term, after_term, IsCounted, IsAlone, is_among, IsBeyond, IsReached, Reaches}
use Rattle.mz_symbol_access.proofs.PlaceLaws.{place_last}
use Rattle.mz_symbol_access.proofs.ShiftLaws.{extreme_two, extreme_two_up, shift_number, no_step}

-- ---- an index, or what stands for it: outside the range it is on the same side

record IsNext (r : Range) (i j : ℤ) : Type 0 where
  inside : is_inside r i ≡ true → j ≡ i
  below : int_le r.0 i ≡ false → int_le r.0 j ≡ false
  above : int_le i r.1 ≡ false → int_le j r.1 ≡ false

next_self : (r : Range) (i : ℤ) → IsNext r i i
next_self r i = record { inside = λ h. refl; below = λ h. h; above = λ h. h }

max_kept : (i k : ℤ) → int_le k i ≡ true → int_max i k ≡ i
max_kept i k h = by (int_lt k i) refl
  where
    by : (t : Bool) → int_lt k i ≡ t → cond t i k ≡ i
    by true e = refl
    by false e = omega (arith, ints)

max_not : (i k : ℤ) → int_le k i ≡ false → int_max i k ≡ k
max_not i k h = by (int_lt k i) refl
  where
    by : (t : Bool) → int_lt k i ≡ t → cond t i k ≡ k
    by true e = absurd (omega (arith, ints))
    by false e = refl

min_kept : (i k : ℤ) → int_le i k ≡ true → int_min i k ≡ i
min_kept i k h = by (int_lt k i) refl
  where
    by : (t : Bool) → int_lt k i ≡ t → cond t k i ≡ i
    by true e = absurd (omega (arith, ints))
    by false e = refl

min_not : (i k : ℤ) → int_le i k ≡ false → int_min i k ≡ k
min_not i k h = by (int_lt k i) refl
  where
    by : (t : Bool) → int_lt k i ≡ t → cond t k i ≡ k
    by true e = refl
    by false e = absurd (omega (arith, ints))

le_true : (a b : ℤ) → (int_le a b ≡ false → ⊥) → int_le a b ≡ true
le_true a b h = by (int_le a b) refl
  where
    by : (t : Bool) → int_le a b ≡ t → t ≡ true
    by true e = refl
    by false e = absurd (h e)

le_false : (a b : ℤ) → (int_le a b ≡ true → ⊥) → int_le a b ≡ false
le_false a b h = by (int_le a b) refl
  where
    by : (t : Bool) → int_le a b ≡ t → t ≡ false
    by true e = absurd (h e)
    by false e = refl

first_true : (p q : Bool) → (p && q) ≡ true → p ≡ true
first_true true q h = refl
first_true false q h = absurd (cc)

second_true : (p q : Bool) → (p && q) ≡ true → q ≡ true
second_true true q h = h
second_true false q h = absurd (cc)

next_before : (r : Range) (i : ℤ) → IsNext r i (int_max i (last_before r))
next_before r i = record {
  inside = λ h.
      let low : int_le r.0 i ≡ true = first_true (int_le r.0 i) (int_le i r.1) h in
      max_kept i (last_before r) (le_true (last_before r) i (λ q. omega (arith, ints, low, q)));
  below = λ h. ap (λ n. int_le r.0 n) (lower h) ∙ least r.0;
  above = λ h. by (int_le (last_before r) i) refl h;
}
  where
    least : (lo : ℤ) → int_le lo (lo -ℤ pos 1) ≡ false
    least lo = le_false lo (lo -ℤ pos 1) (λ q. omega (arith, ints, q))

    lower : int_le r.0 i ≡ false → int_max i (last_before r) ≡ last_before r
    lower h = by (int_le (last_before r) i) refl
      where
        by : (t : Bool) → int_le (last_before r) i ≡ t → int_max i (last_before r) ≡ last_before r
        by true e = max_kept i (last_before r) e ∙ omega (arith, ints, e, h)
        by false e = max_not i (last_before r) e

    by : (t : Bool) → int_le (last_before r) i ≡ t → int_le i r.1 ≡ false → int_le (int_max i (last_before r)) r.1 ≡ false
    by true e h = ap (λ n. int_le n r.1) (max_kept i (last_before r) e) ∙ h
    by false e h = ap (λ n. int_le n r.1) (max_not i (last_before r) e) ∙ le_false (last_before r) r.1 (λ q. omega (arith, ints, e, h, q))

next_after : (r : Range) (i : ℤ) → IsNext r i (int_min i (first_after r))
next_after r i = record {
  inside = λ h.
      let high : int_le i r.1 ≡ true = second_true (int_le r.0 i) (int_le i r.1) h in
      min_kept i (first_after r) (le_true i (first_after r) (λ q. omega (arith, ints, high, q)));
  below = λ h. by (int_le i (first_after r)) refl h;
  above = λ h. ap (λ n. int_le n r.1) (upper h) ∙ greatest r.1;
}
  where
    greatest : (hi : ℤ) → int_le (hi +ℤ pos 1) hi ≡ false
    greatest hi = le_false (hi +ℤ pos 1) hi (λ q. omega (arith, ints, q))

    upper : int_le i r.1 ≡ false → int_min i (first_after r) ≡ first_after r
    upper h = by (int_le i (first_after r)) refl
      where
        by : (t : Bool) → int_le i (first_after r) ≡ t → int_min i (first_after r) ≡ first_after r
        by true e = min_kept i (first_after r) e ∙ omega (arith, ints, e, h)
        by false e = min_not i (first_after r) e

    by : (t : Bool) → int_le i (first_after r) ≡ t → int_le r.0 i ≡ false → int_le r.0 (int_min i (first_after r)) ≡ false
    by true e h = ap (λ n. int_le r.0 n) (min_kept i (first_after r) e) ∙ h
    by false e h = ap (λ n. int_le r.0 n) (min_not i (first_after r) e) ∙ le_false r.0 (first_after r) (λ q. omega (arith, ints, e, h, q))

-- ---- outside there is no place

among_not : (n : ℕ) (m : ℤ) → (int_le (pos 1) m ≡ true → int_le m (pos n) ≡ false) → is_among n m ≡ false
among_not n m h = by (int_le (pos 1) m) refl
  where
    by : (t : Bool) → int_le (pos 1) m ≡ t → (t && int_le m (pos n)) ≡ false
    by true e = h e
    by false e = refl

none_below : (lo j : ℤ) (n : ℕ) → int_le lo j ≡ false → is_among n (j +ℤ (pos 1 -ℤ lo)) ≡ false
none_below lo j n h = among_not n (j +ℤ (pos 1 -ℤ lo)) (λ e. absurd (omega (arith, ints, e, h)))

above_some : (lo hi j : ℤ) → int_le lo hi ≡ true → int_le j hi ≡ false → int_le (j +ℤ (pos 1 -ℤ lo)) (pos ((unsigned_abs (hi -ℤ lo) + 1) * 1)) ≡ false
above_some lo hi j e h = le_false (j +ℤ (pos 1 -ℤ lo)) (pos ((unsigned_abs (hi -ℤ lo) + 1) * 1)) (λ q. omega (arith, ints, e, h, q))

above_none : (m : ℤ) → int_le (pos 1) m ≡ true → int_le m (pos (0 * 1)) ≡ false
above_none m e = le_false m (pos (0 * 1)) (λ q. omega (arith, ints, e, q))

none_above : (lo hi j : ℤ) → int_le j hi ≡ false → is_among (count_of ((lo, hi) ∷ [])) (j +ℤ (pos 1 -ℤ lo)) ≡ false
none_above lo hi j h = among_not (count_of ((lo, hi) ∷ [])) (j +ℤ (pos 1 -ℤ lo)) (λ e. by (int_le lo hi) refl e)
  where
    by : (t : Bool) → int_le lo hi ≡ t → int_le (pos 1) (j +ℤ (pos 1 -ℤ lo)) ≡ true → int_le (j +ℤ (pos 1 -ℤ lo)) (pos ((if t then unsigned_abs (hi -ℤ lo) + 1 else 0) * 1)) ≡ false
    by true q e = above_some lo hi j q h
    by false q e = above_none (j +ℤ (pos 1 -ℤ lo)) e

outside : (r : Range) (i j : ℤ) → is_inside r i ≡ false → IsNext r i j → is_among (count_of (r ∷ [])) (j +ℤ step_of r true) ≡ false
outside r i j h n = by (int_le r.0 i) refl h
  where
    by : (t : Bool) → int_le r.0 i ≡ t → (t && int_le i r.1) ≡ false → is_among (count_of (r ∷ [])) (j +ℤ step_of r true) ≡ false
    by false e q = none_below r.0 j (count_of (r ∷ [])) (n.below e)
    by true e q = none_above r.0 r.1 j (n.above q)

-- ---- the place

reached_number : (r : Range) (i j : ℤ) (z : Term) → z ≡ whole (j +ℤ step_of r true) → IsNext r i j → IsReached (r ∷ []) (Some i ∷ []) z
reached_number r i j z e n = by (is_inside r i) refl
  where
    by : (t : Bool) → is_inside r i ≡ t → IsReached (r ∷ []) (Some i ∷ []) z
    by true h = inl (e ∙ ap (λ k. whole (k +ℤ step_of r true)) (n.inside h) ∙ ap (λ b. if b then whole (i +ℤ step_of r true) else None) (sym h) ∙ place_last r (Some i))
    by false h = inr (ap (λ b. if b then option_map (λ place. offset_of r i * 1 + place) (Some 0) else None) h, subst (IsBeyond (count_of (r ∷ []))) (sym (ap as_number e)) (outside r i j h n))

abbrev no_number : Option ℤ
no_number = None

reached_none : (r : Range) (z : Term) → as_number z ≡ None → IsReached (r ∷ []) (no_number ∷ []) z
reached_none r z e = inr (refl, subst (IsBeyond (count_of (r ∷ []))) (sym e) tt)

shift_none : (r : Range) (x z : Term) → as_number x ≡ None → z ≡ shift_term r true x → as_number z ≡ None
unfolding arith_term
shift_none r x z h e = ap as_number e ∙ by (as_number x) h
  where
    by : (o : Option ℤ) → o ≡ None → as_number (o >>= λ i. (as_number (whole (step_of r true)) >>= λ j. (computed Add i j >>= λ n. Some (number n)))) ≡ None
    by None h = refl
    by (Some i) h = absurd (cc)

cons_none : (x : Term) (k : ℤ) → as_number x ≡ None → list_of_two x (whole k) ≡ None
unfolding cons_term
cons_none None k h = refl
cons_none (Some (number i)) k h = absurd (cc)
cons_none (Some v) k h = refl

extreme_none : (x : Term) (k : ℤ) → as_number x ≡ None → extreme_term Greatest (list_of_two x (whole k)) ≡ None
unfolding extreme_term
extreme_none x k h = ap (extreme_term Greatest) (cons_none x k h)

extreme_none_down : (x : Term) (k : ℤ) → as_number x ≡ None → extreme_term Least (list_of_two x (whole k)) ≡ None
unfolding extreme_term
extreme_none_down x k h = ap (extreme_term Least) (cons_none x k h)

counted_none : (r : Range) (x z : Term) → as_number x ≡ None → IsCounted r x z → as_number z ≡ None
counted_none r x z h (inl e) = shift_none r x z h e
counted_none r x z h (inr (inl e)) = shift_none r (before_term r x) z (ap as_number (extreme_none x (last_before r) h)) e
counted_none r x z h (inr (inr (inl e))) = shift_none r (after_term r x) z (ap as_number (extreme_none_down x (first_after r) h)) e
counted_none r x z h (inr (inr (inr e))) = ap as_number e.1 ∙ h

counted_number : (r : Range) (i : ℤ) (z : Term) → IsCounted r (whole i) z → IsReached (r ∷ []) (Some i ∷ []) z
counted_number r i z (inl e) = reached_number r i i z (e ∙ shift_number r true i) (next_self r i)
counted_number r i z (inr (inl e)) = reached_number r i (int_max i (last_before r)) z (e ∙ ap (shift_term r true) (extreme_two_up i (last_before r)) ∙ shift_number r true (int_max i (last_before r))) (next_before r i)
counted_number r i z (inr (inr (inl e))) = reached_number r i (int_min i (first_after r)) z (e ∙ ap (shift_term r true) (extreme_two i (first_after r)) ∙ shift_number r true (int_min i (first_after r))) (next_after r i)
counted_number r i z (inr (inr (inr e))) = reached_number r i i z (e.1 ∙ ap (λ n. whole n) (no_step i (step_of r true) e.0)) (next_self r i)

counted_reached : (r : Range) (x z : Term) → IsCounted r x z → IsReached (r ∷ []) (as_number x ∷ []) z
counted_reached r None z h = reached_none r z (counted_none r None z refl h)
counted_reached r (Some (number i)) z h = counted_number r i z h
counted_reached r (Some v) z h = reached_none r z (counted_none r (Some v) z refl h)

-- ---- what the calls say

pub alone_direct : (r : Reading) (old m new : Run) (range : Range) (x back id : ℕ) → Out (whole (step_of range true)) (state_of r old) ≡ Out (r.term back) (state_of r m) → state_of r m ≡ state_of r new → r.term id ≡ node_meaning r (sum_node x back) → IsAlone r old new range x id
alone_direct r old m new range x back id b s e = record {
  same = out_state b ∙ s;
  is = inl (e ∙ ap (arith_term Add (r.term x)) (sym (out_value b)));
}

pub single : {A : Type 0} (d : A) (xs : List A) → length xs ≡ 1 → xs ≡ get_or xs 0 d ∷ []
single d [] h = absurd (omega (arith, h))
single d (x ∷ []) h = refl
single d (x ∷ y ∷ xs) h = absurd (omega (arith, h))

pub only_reaches : (r : Reading) (old new : Run) (range : Range) (indices : List Symbol) (s : Symbol) (id : ℕ) → indices ≡ s ∷ [] → IsAlone r old new range s.term id → Reaches r old new (range ∷ []) indices id
only_reaches r old new range indices s id q a = record {
  same = a.same;
  is = subst (λ ss. IsReached (range ∷ []) (places_of r ss) (r.term id)) (sym q) (counted_reached range (r.term s.term) (r.term id) a.is);
}

pub only_are : (indices : List Symbol) (s : Symbol) → indices ≡ s ∷ [] → IsIndex s → AreIndices indices
only_are indices s q i = subst AreIndices (sym q) (i, tt)
