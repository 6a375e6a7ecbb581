-- A quotient, rounded toward zero, lies between the quotients of the ends by the divisors that may be the extreme ones.
use Rattle.std.proofs.Common.{◌≡◌, ℕ, zero, suc, ◌/◌, ◌<◌, ◌≤◌, ◌≢◌, ℤ, pos, negsuc, neg_ℤ, ◌≤ℤ◌, int_div, unsigned_abs, Bool, true, false, cond, Option, Some, None, unwrap_or, arith, refl, sym, subst}
use Rattle.std.proofs.Math.Nat.{mul-le-mul_left, div-mul-le_self, div-le_self, div-zero}
use Rattle.std.proofs.Math.IntN.{neg_ℤ-neg_ℤ}
use Rattle.std.proofs.lemmas.Nat.{le-div}
use Rattle.std.proofs.lemmas.Int.{ints, clamps}
use Rattle.mz_interval.specs.Ends.{Ends, Encloses, IsInterval, limit, between, hull_of_some}
use Rattle.mz_interval.specs.Rows.{is_divisor, quotients_by, quotient_of}
use Rattle.mz_interval.proofs.Hulls.{between-rising, between-falling, between-neg, Encloses-between, Holds, hull_of_some-left, hull_of_some-right, Encloses-unwrap_or}

div-le : (a b n : ℕ) → a ≤ b → a / n ≤ b / n
div-le a b zero h = rw (div-zero a, div-zero b) (omega arith)
div-le a b (suc n) h = let part = div-mul-le_self a (suc n) in le-div (a / suc n) b (suc n) (omega arith) (omega arith)

div-le_divisor : (a d n : ℕ) → 0 < d → d ≤ n → a / n ≤ a / d
div-le_divisor a d n p h =
    let part = div-mul-le_self a n in
    let less = mul-le-mul_left (a / n) h in
    le-div (a / n) a d p (omega arith)

-- a greater dividend, by a positive divisor
int_div-le : (a b : ℤ) (n : ℕ) → a ≤ℤ b → int_div a (pos n) ≤ℤ int_div b (pos n)
int_div-le (pos a) (pos b) n h = let less = div-le a b n (omega (arith, ints)) in omega (arith, ints)
int_div-le (pos a) (negsuc b) n h = absurd (omega (arith, ints))
int_div-le (negsuc a) (pos b) n h = omega (arith, ints)
int_div-le (negsuc a) (negsuc b) n h = let less = div-le (suc b) (suc a) n (omega (arith, ints)) in omega (arith, ints)

-- a quotient by -(n + 1) is the negated one by n + 1
int_div-negsuc : (x : ℤ) (n : ℕ) → int_div x (negsuc n) ≡ neg_ℤ (int_div x (pos (suc n)))
int_div-negsuc (pos a) n = refl
int_div-negsuc (negsuc a) n = sym (neg_ℤ-neg_ℤ (pos (suc a / suc n)))

between-negated : (u v x u' v' x' : ℤ) → u ≡ neg_ℤ u' → v ≡ neg_ℤ v' → x ≡ neg_ℤ x' → Encloses (between u' v') x' → Encloses (between u v) x
between-negated u v x u' v' x' e f g h = rw (e, f, g) (between-neg u' v' x' h)

-- the dividend varies
between-dividends_pos : (l h x : ℤ) (n : ℕ) → l ≤ℤ x → x ≤ℤ h → Encloses (between (int_div l (pos n)) (int_div h (pos n))) (int_div x (pos n))
between-dividends_pos l h x n p q = between-rising (int_div l (pos n)) (int_div h (pos n)) (int_div x (pos n)) (int_div-le l x n p) (int_div-le x h n q)

between-dividends : (l h x d : ℤ) → l ≤ℤ x → x ≤ℤ h → Encloses (between (int_div l d) (int_div h d)) (int_div x d)
between-dividends l h x (pos n) p q = between-dividends_pos l h x n p q
between-dividends l h x (negsuc n) p q =
    between-negated (int_div l (negsuc n)) (int_div h (negsuc n)) (int_div x (negsuc n)) (int_div l (pos (suc n))) (int_div h (pos (suc n))) (int_div x (pos (suc n))) (int_div-negsuc l n) (int_div-negsuc h n) (int_div-negsuc x n) (between-dividends_pos l h x (suc n) p q)

-- the divisor varies, among positive numbers or among negative ones
between-divisors : (x : ℤ) (d n k : ℕ) → 0 < d → d ≤ n → n ≤ k → Encloses (between (int_div x (pos d)) (int_div x (pos k))) (int_div x (pos n))
between-divisors (pos a) d n k z p q =
    let some = div-le_divisor a d n z p in
    let less = div-le_divisor a n k (omega arith) q in
    between-falling (pos (a / d)) (pos (a / k)) (pos (a / n)) (omega (arith, ints)) (omega (arith, ints))
between-divisors (negsuc a) d n k z p q =
    let some = div-le_divisor (suc a) d n z p in
    let less = div-le_divisor (suc a) n k (omega arith) q in
    between-rising (neg_ℤ (pos (suc a / d))) (neg_ℤ (pos (suc a / k))) (neg_ℤ (pos (suc a / n))) (omega (arith, ints)) (omega (arith, ints))

between-negative_divisors : (x : ℤ) (d n k : ℕ) → d ≤ n → n ≤ k → Encloses (between (int_div x (negsuc d)) (int_div x (negsuc k))) (int_div x (negsuc n))
between-negative_divisors x d n k p q =
    between-negated (int_div x (negsuc d)) (int_div x (negsuc k)) (int_div x (negsuc n)) (int_div x (pos (suc d))) (int_div x (pos (suc k))) (int_div x (pos (suc n))) (int_div-negsuc x d) (int_div-negsuc x k) (int_div-negsuc x n) (between-divisors x (suc d) (suc n) (suc k) (omega arith) (omega arith) (omega arith))

-- a quotient isn't of greater magnitude than its dividend
pub unsigned_abs-int_div : (a d : ℤ) → unsigned_abs (int_div a d) ≤ unsigned_abs a
unsigned_abs-int_div (pos a) (pos d) = div-le_self a d
unsigned_abs-int_div (pos a) (negsuc d) = let small = div-le_self a (suc d) in omega (arith, ints)
unsigned_abs-int_div (negsuc a) (pos d) = let small = div-le_self (suc a) d in omega (arith, ints)
unsigned_abs-int_div (negsuc a) (negsuc d) = div-le_self (suc a) (suc d)

pub is_divisor_is : (f : Ends) (d : ℤ) → d ≢ pos 0 → f.0 ≤ℤ d → d ≤ℤ f.1 → is_divisor f d ≡ true
is_divisor_is f (pos zero) n p q = absurd (n refl)
is_divisor_is f (pos (suc d)) n p q = grind (arith, ints)
is_divisor_is f (negsuc d) n p q = grind (arith, ints)

abbrev by_ends : Ends → Ends → Option Ends
by_ends e f = hull_of_some (quotients_by e f f.0) (quotients_by e f f.1)

abbrev by_units : Ends → Ends → Option Ends
by_units e f = hull_of_some (quotients_by e f (pos 1)) (quotients_by e f (negsuc 0))

of_ends : (e f : Ends) (z : ℤ) → Holds (by_ends e f) z → Encloses (quotient_of e f) z
of_ends e f z h = Encloses-unwrap_or (hull_of_some (by_ends e f) (by_units e f)) (pos 0, pos 0) z (hull_of_some-left (by_ends e f) (by_units e f) z h)

of_units : (e f : Ends) (z : ℤ) → Holds (by_units e f) z → Encloses (quotient_of e f) z
of_units e f z h = Encloses-unwrap_or (hull_of_some (by_ends e f) (by_units e f)) (pos 0, pos 0) z (hull_of_some-right (by_ends e f) (by_units e f) z h)

-- where d may divide, the quotient of x by d lies among the quotients by d, and in the row if d is one of the four divisors
module _ (e f : Ends) (x d : ℤ) (h : Encloses e x) (n : d ≢ pos 0) (p : f.0 ≤ℤ d) (q : d ≤ℤ f.1) where
  quotients_by-holds : (t : ℤ) → d ≡ t → Holds (quotients_by e f t) (int_div x d)
  quotients_by-holds t s =
      let ranges = Some (between (int_div e.0 d) (int_div e.1 d)) in
      let here = subst (λ (b : Bool). Holds (cond b ranges None) (int_div x d)) (sym (is_divisor_is f d n p q)) (between-dividends e.0 e.1 x d h.from h.to) in
      subst (λ (c : ℤ). Holds (quotients_by e f c) (int_div x d)) s here

  at_low : d ≡ f.0 → Encloses (quotient_of e f) (int_div x d)
  at_low s = of_ends e f (int_div x d) (hull_of_some-left (quotients_by e f f.0) (quotients_by e f f.1) (int_div x d) (quotients_by-holds f.0 s))

  at_high : d ≡ f.1 → Encloses (quotient_of e f) (int_div x d)
  at_high s = of_ends e f (int_div x d) (hull_of_some-right (quotients_by e f f.0) (quotients_by e f f.1) (int_div x d) (quotients_by-holds f.1 s))

  at_one : d ≡ pos 1 → Encloses (quotient_of e f) (int_div x d)
  at_one s = of_units e f (int_div x d) (hull_of_some-left (quotients_by e f (pos 1)) (quotients_by e f (negsuc 0)) (int_div x d) (quotients_by-holds (pos 1) s))

  at_minus_one : d ≡ negsuc 0 → Encloses (quotient_of e f) (int_div x d)
  at_minus_one s = of_units e f (int_div x d) (hull_of_some-right (quotients_by e f (pos 1)) (quotients_by e f (negsuc 0)) (int_div x d) (quotients_by-holds (negsuc 0) s))

-- a positive divisor where 1 may divide
above_one : (e : Ends) (p : ℤ) (k n : ℕ) (x : ℤ) → Encloses e x → p ≤ℤ pos 0 → n ≤ k → pos n ≢ pos 0 → Encloses (quotient_of e (p, pos k)) (int_div x (pos n))
above_one e p k zero x h l m s = absurd (s refl)
above_one e p k (suc n) x h l m s =
    let f : Ends = (p, pos k) in
    let unit = at_one e f x (pos 1) h (λ t. cc) (omega (arith, ints)) (omega (arith, ints)) refl in
    let high = at_high e f x (pos k) h (λ t. absurd (omega (arith, ints))) (omega (arith, ints)) (omega (arith, ints)) refl in
    Encloses-between (quotient_of e f) (int_div x (pos 1)) (int_div x (pos k)) (int_div x (pos (suc n))) unit high (between-divisors x 1 (suc n) k (omega arith) (omega arith) m)

divided : (e : Ends) (p q x y : ℤ) → Encloses e x → p ≤ℤ y → y ≤ℤ q → y ≢ pos 0 → Encloses (quotient_of e (p, q)) (int_div x y)
divided e (pos (suc d)) (pos k) x (pos n) h l m s =
    let f : Ends = (pos (suc d), pos k) in
    let low = at_low e f x (pos (suc d)) h (λ t. cc) (omega (arith, ints)) (omega (arith, ints)) refl in
    let high = at_high e f x (pos k) h (λ t. absurd (omega (arith, ints))) (omega (arith, ints)) (omega (arith, ints)) refl in
    Encloses-between (quotient_of e f) (int_div x (pos (suc d))) (int_div x (pos k)) (int_div x (pos n)) low high (between-divisors x (suc d) n k (omega arith) (omega (arith, ints)) (omega (arith, ints)))
divided e (pos zero) (pos k) x (pos n) h l m s = above_one e (pos zero) k n x h (omega (arith, ints)) (omega (arith, ints)) s
divided e (negsuc d) (pos k) x (pos n) h l m s = above_one e (negsuc d) k n x h (omega (arith, ints)) (omega (arith, ints)) s
divided e p (negsuc k) x (pos n) h l m s = absurd (omega (arith, ints))
divided e (negsuc k) (negsuc d) x (negsuc n) h l m s =
    let f : Ends = (negsuc k, negsuc d) in
    let low = at_low e f x (negsuc k) h (λ t. cc) (omega (arith, ints)) (omega (arith, ints)) refl in
    let high = at_high e f x (negsuc d) h (λ t. cc) (omega (arith, ints)) (omega (arith, ints)) refl in
    Encloses-between (quotient_of e f) (int_div x (negsuc d)) (int_div x (negsuc k)) (int_div x (negsuc n)) high low (between-negative_divisors x d n k (omega (arith, ints)) (omega (arith, ints)))
divided e (negsuc k) (pos d) x (negsuc n) h l m s =
    let f : Ends = (negsuc k, pos d) in
    let low = at_low e f x (negsuc k) h (λ t. cc) (omega (arith, ints)) (omega (arith, ints)) refl in
    let minus_one = at_minus_one e f x (negsuc 0) h (λ t. cc) (omega (arith, ints)) (omega (arith, ints)) refl in
    Encloses-between (quotient_of e f) (int_div x (negsuc 0)) (int_div x (negsuc k)) (int_div x (negsuc n)) minus_one low (between-negative_divisors x 0 n k (omega (arith, ints)) (omega (arith, ints)))
divided e (pos p) q x (negsuc n) h l m s = absurd (omega (arith, ints))

pub quotient_of-encloses : (e f : Ends) (x y : ℤ) → Encloses e x → Encloses f y → y ≢ pos 0 → Encloses (quotient_of e f) (int_div x y)
quotient_of-encloses e f x y h g s = divided e f.0 f.1 x y h g.from g.to s

int_div-in_limit : (a d : ℤ) → Encloses limit a → Encloses limit (int_div a d)
int_div-in_limit a d h = let less = unsigned_abs-int_div a d in record { from = omega (arith, ints); to = omega (arith, ints) }

-- ---- a quotient of a range in the limit lies in it

abbrev IfThere : Option Ends → Type 0
IfThere None = Unit {0}
IfThere (Some e) = IsInterval e

between_is_interval : (u v : ℤ) → Encloses limit u → Encloses limit v → IsInterval (between u v)
between_is_interval u v p q = record { ordered = omega (arith, ints, clamps); from = omega (arith, ints, clamps); to = omega (arith, ints, clamps) }

by_divisor_is_interval : (e f : Ends) (d : ℤ) → IsInterval e → IfThere (quotients_by e f d)
by_divisor_is_interval e f d h = by (is_divisor f d)
  where
    low : Encloses limit (int_div e.0 d)
    low = int_div-in_limit e.0 d (record { from = omega (arith, ints); to = omega (arith, ints) })

    high : Encloses limit (int_div e.1 d)
    high = int_div-in_limit e.1 d (record { from = omega (arith, ints); to = omega (arith, ints) })

    by : (t : Bool) → IfThere (cond t (Some (between (int_div e.0 d) (int_div e.1 d))) None)
    by true = between_is_interval (int_div e.0 d) (int_div e.1 d) low high
    by false = tt

hulls_are_intervals : (e f : Option Ends) → IfThere e → IfThere f → IfThere (hull_of_some e f)
hulls_are_intervals None f p q = q
hulls_are_intervals (Some e) None p q = p
hulls_are_intervals (Some e) (Some f) p q = record { ordered = omega (arith, ints, clamps); from = omega (arith, ints, clamps); to = omega (arith, ints, clamps) }

interval_or_zero : (e : Option Ends) → IfThere e → IsInterval (unwrap_or e (pos 0, pos 0))
interval_or_zero None p = record { ordered = omega (arith, ints); from = omega (arith, ints); to = omega (arith, ints) }
interval_or_zero (Some e) p = p

pub quotients_are_interval : (e f : Ends) → IsInterval e → IsInterval (quotient_of e f)
quotients_are_interval e f h =
    let there = by_divisor_is_interval e f in
    let ends = hulls_are_intervals (quotients_by e f f.0) (quotients_by e f f.1) (there f.0 h) (there f.1 h) in
    let units = hulls_are_intervals (quotients_by e f (pos 1)) (quotients_by e f (negsuc 0)) (there (pos 1) h) (there (negsuc 0) h) in
    interval_or_zero (hull_of_some (by_ends e f) (by_units e f)) (hulls_are_intervals (by_ends e f) (by_units e f) ends units)
