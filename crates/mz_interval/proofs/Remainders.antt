-- A remainder, with the dividend's sign, lies in its row.
use Rattle.std.proofs.Common.{◌≡◌, ◌∙◌, sym, ap, ◌≢◌, ℕ, suc, ◌-◌, ◌<◌, ◌≤◌, ℤ, pos, negsuc, neg_ℤ, ◌≤ℤ◌, int_le, int_rem, unsigned_abs, nat_eq, Bool, true, false, cond, arith, refl}
use Rattle.std.proofs.Math.Nat.{mod-le}
use Rattle.std.specs.Int.{int_min, int_max}
use Rattle.std.proofs.lemmas.Bool.{eqb-true, ne_eqb}
use Rattle.std.proofs.lemmas.Int.{ints, clamps, rem_below}
use Rattle.mz_interval.specs.Ends.{Ends, Encloses, IsInterval, least_number, greatest_number}
use Rattle.mz_interval.specs.Rows.{magnitude_of, remainder_from, remainder_to, remainders_below, remainder_of}

-- the lower end: from n on where the dividend is, and never positive
pub remainder_from-le : (l m : ℤ) → pos 0 ≤ℤ m → remainder_from l m ≤ℤ pos 0
remainder_from-le l m h = by (int_le (pos 0) l) refl
  where
    by : (t : Bool) → int_le (pos 0) l ≡ t → cond t (pos 0) (int_max l (neg_ℤ m)) ≤ℤ pos 0
    by true e = omega (arith, ints)
    by false e = omega (arith, ints, clamps)

pub remainder_from-ge : (l m n : ℤ) → n ≤ℤ l → n ≤ℤ pos 0 → n ≤ℤ remainder_from l m
remainder_from-ge l m n h k = by (int_le (pos 0) l) refl
  where
    by : (t : Bool) → int_le (pos 0) l ≡ t → n ≤ℤ cond t (pos 0) (int_max l (neg_ℤ m))
    by true e = k
    by false e = omega (arith, ints, clamps)

pub remainder_to-ge : (h m : ℤ) → pos 0 ≤ℤ m → pos 0 ≤ℤ remainder_to h m
remainder_to-ge h m k = by (int_le h (pos 0)) refl
  where
    by : (t : Bool) → int_le h (pos 0) ≡ t → pos 0 ≤ℤ cond t (pos 0) (int_min h m)
    by true e = omega (arith, ints)
    by false e = omega (arith, ints, clamps)

pub remainder_to-le : (h m n : ℤ) → h ≤ℤ n → pos 0 ≤ℤ n → remainder_to h m ≤ℤ n
remainder_to-le h m n k l = by (int_le h (pos 0)) refl
  where
    by : (t : Bool) → int_le h (pos 0) ≡ t → cond t (pos 0) (int_min h m) ≤ℤ n
    by true e = l
    by false e = omega (arith, ints, clamps)

-- r has the sign of x, and a magnitude no greater than that of x and than m
record Remains (x r m : ℤ) : Type 0 where
  not_negative : pos 0 ≤ℤ x → pos 0 ≤ℤ r
  not_positive : x ≤ℤ pos 0 → r ≤ℤ pos 0
  from : (l : ℤ) → l ≤ℤ x → l ≤ℤ pos 0 → l ≤ℤ r
  to : (h : ℤ) → x ≤ℤ h → pos 0 ≤ℤ h → r ≤ℤ h
  above : neg_ℤ m ≤ℤ r
  below : r ≤ℤ m

remains : (x y m : ℤ) → y ≢ pos 0 → pos (unsigned_abs y - 1) ≤ℤ m → Remains x (int_rem x y) m
remains (pos a) y m n h =
    let some : 0 < unsigned_abs y = omega (arith, ints) in
    let small = rem_below (pos a) y some in
    let less = mod-le a (unsigned_abs y) in
    record {
      not_negative = λ p. omega (arith, ints);
      not_positive = λ p. omega (arith, ints);
      from = λ l p q. omega (arith, ints);
      to = λ l p q. omega (arith, ints);
      above = omega (arith, ints);
      below = omega (arith, ints);
    }
remains (negsuc a) y m n h =
    let some : 0 < unsigned_abs y = omega (arith, ints) in
    let small = rem_below (negsuc a) y some in
    let less = mod-le (suc a) (unsigned_abs y) in
    record {
      not_negative = λ p. omega (arith, ints);
      not_positive = λ p. omega (arith, ints);
      from = λ l p q. omega (arith, ints);
      to = λ l p q. omega (arith, ints);
      above = omega (arith, ints);
      below = omega (arith, ints);
    }

remainder_from-remains : (l x r m : ℤ) → l ≤ℤ x → Remains x r m → remainder_from l m ≤ℤ r
remainder_from-remains l x r m h k = by (int_le (pos 0) l) refl
  where
    by : (t : Bool) → int_le (pos 0) l ≡ t → cond t (pos 0) (int_max l (neg_ℤ m)) ≤ℤ r
    by true e = k.not_negative (omega (arith, ints))
    by false e = let low : l ≤ℤ r = k.from l h (omega (arith, ints)) in omega (arith, ints, clamps)

remainder_to-remains : (h x r m : ℤ) → x ≤ℤ h → Remains x r m → r ≤ℤ remainder_to h m
remainder_to-remains h x r m p k = by (int_le h (pos 0)) refl
  where
    by : (t : Bool) → int_le h (pos 0) ≡ t → r ≤ℤ cond t (pos 0) (int_min h m)
    by true e = k.not_positive (omega (arith, ints))
    by false e = let high : r ≤ℤ h = k.to h p (omega (arith, ints)) in omega (arith, ints, clamps)

-- a number of the range has no greater magnitude than its ends
unsigned_abs-le : (f : Ends) (y : ℤ) → Encloses f y → unsigned_abs y ≤ magnitude_of f
unsigned_abs-le f y h = omega (arith, ints)

pub remainder_of-encloses : (e f : Ends) (x y : ℤ) → Encloses e x → Encloses f y → y ≢ pos 0 → Encloses (remainder_of e f) (int_rem x y)
remainder_of-encloses e f x y h g s = by (nat_eq (magnitude_of f) 0) refl
  where
    by : (t : Bool) → nat_eq (magnitude_of f) 0 ≡ t → Encloses (cond t (pos 0, pos 0) (remainders_below e (magnitude_of f))) (int_rem x y)
    by true z =
        let none : magnitude_of f ≡ 0 = eqb-true (magnitude_of f) 0 z in
        let less = unsigned_abs-le f y g in
        absurd (omega (arith, ints))
    by false z =
        let less = unsigned_abs-le f y g in
        let small : pos (unsigned_abs y - 1) ≤ℤ pos (magnitude_of f - 1) = omega (arith, ints) in
        let k = remains x y (pos (magnitude_of f - 1)) s small in
        record {
          from = remainder_from-remains e.0 x (int_rem x y) (pos (magnitude_of f - 1)) h.from k;
          to = remainder_to-remains e.1 x (int_rem x y) (pos (magnitude_of f - 1)) h.to k;
        }

-- ---- from the two ends to the row

below_magnitude : (e f : Ends) (m : ℕ) → m ≡ magnitude_of f → m ≢ 0 → remainders_below e m ≡ remainder_of e f
below_magnitude e f m s n =
    let some : nat_eq (magnitude_of f) 0 ≡ false = ne_eqb (magnitude_of f) 0 (λ z. n (s ∙ z)) in
    ap (remainders_below e) s ∙ sym (rw some refl)

pub remainder_is : (e f : Ends) (m : ℕ) (x y : ℤ) → m ≡ magnitude_of f → m ≢ 0 → x ≡ remainder_from e.0 (pos (m - 1)) → y ≡ remainder_to e.1 (pos (m - 1)) → (x, y) ≡ remainder_of e f
remainder_is e f m x y s n p q = (λ t. (p t, q t)) ∙ below_magnitude e f m s n

-- ---- a remainder of a range in the limit lies in it

pub remainders_are_interval : (e f : Ends) → IsInterval e → IsInterval (remainder_of e f)
remainders_are_interval e f h = by (nat_eq (magnitude_of f) 0) refl
  where
    by : (t : Bool) → nat_eq (magnitude_of f) 0 ≡ t → IsInterval (cond t (pos 0, pos 0) (remainders_below e (magnitude_of f)))
    by true z = record { ordered = omega (arith, ints); from = omega (arith, ints); to = omega (arith, ints) }
    by false z =
        let m = pos (magnitude_of f - 1) in
        let low = remainder_from-le e.0 m (omega (arith, ints)) in
        let high = remainder_to-ge e.1 m (omega (arith, ints)) in
        record {
          ordered = omega (arith, ints);
          from = remainder_from-ge e.0 m least_number h.from (omega (arith, ints));
          to = remainder_to-le e.1 m greatest_number h.to (omega (arith, ints));
        }
