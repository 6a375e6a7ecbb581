-- The bounds of an operation's value, from the bounds of its operands.
use Rattle.std.specs.Prelude.{◌≡◌, ℕ, ℤ, pos, negsuc, ◌+ℤ◌, ◌*ℤ◌, neg_ℤ, int_le, int_div, unsigned_abs, ◌-◌, max, nat_eq, Bool, not, ◌&&◌, Option, Some, None, unwrap_or, if◌then◌else◌}
use Rattle.std.specs.Int.{int_min, int_max}
use Rattle.std.proofs.Common.{refl}
use Rattle.mz_interval.specs.Ends.{Ends, between, hull_of, hull_of_some}

-- the sums of the lower ends and of the upper ends
abbrev pub sum_of : Ends → Ends → Ends
sum_of e f = (e.0 +ℤ f.0, e.1 +ℤ f.1)

-- the ends with the other sign, exchanged
abbrev pub negation_of : Ends → Ends
negation_of e = (neg_ℤ e.1, neg_ℤ e.0)

-- from the least to the greatest product of an end of the one by an end of the other
abbrev pub product_of : Ends → Ends → Ends
product_of e f = hull_of (between (e.0 *ℤ f.0) (e.0 *ℤ f.1)) (between (e.1 *ℤ f.0) (e.1 *ℤ f.1))

-- d lies in the divisor's bounds and isn't 0
abbrev pub is_divisor : Ends → ℤ → Bool
is_divisor f d = not (nat_eq (unsigned_abs d) 0) && (int_le f.0 d && int_le d f.1)

-- from the least to the greatest quotient of an end by d, where d may divide; quotients round toward zero
abbrev pub quotients_by : Ends → Ends → ℤ → Option Ends
quotients_by e f d = if is_divisor f d then Some (between (int_div e.0 d) (int_div e.1 d)) else None

-- from the least to the greatest quotient of an end of the dividend by a divisor among the ends of the divisor, 1 and -1; 0..0 where none of these may divide
abbrev pub quotient_of : Ends → Ends → Ends
quotient_of e f =
    unwrap_or (hull_of_some (hull_of_some (quotients_by e f f.0) (quotients_by e f f.1)) (hull_of_some (quotients_by e f (pos 1)) (quotients_by e f (negsuc 0)))) (pos 0, pos 0)

-- the greater magnitude of the two ends
abbrev pub magnitude_of : Ends → ℕ
magnitude_of f = max (unsigned_abs f.0) (unsigned_abs f.1)

-- 0 where the dividend isn't negative, else the greater of its lower end and -m
abbrev pub remainder_from : ℤ → ℤ → ℤ
remainder_from l m = if int_le (pos 0) l then pos 0 else int_max l (neg_ℤ m)

-- 0 where the dividend isn't positive, else the less of its upper end and m
abbrev pub remainder_to : ℤ → ℤ → ℤ
remainder_to h m = if int_le h (pos 0) then pos 0 else int_min h m

-- the bounds of a remainder by a divisor of at most this magnitude: m is the magnitude less 1
abbrev pub remainders_below : Ends → ℕ → Ends
remainders_below e n = (remainder_from e.0 (pos (n - 1)), remainder_to e.1 (pos (n - 1)))

-- the bounds of a remainder, which has the dividend's sign; 0..0 where the divisor is 0..0
abbrev pub remainder_of : Ends → Ends → Ends
remainder_of e f = if nat_eq (magnitude_of f) 0 then (pos 0, pos 0) else remainders_below e (magnitude_of f)

-- ---- worked examples

three_to_five_times_minus_two_to_one : product_of (pos 3, pos 5) (negsuc 1, pos 1) ≡ (negsuc 9, pos 5)
three_to_five_times_minus_two_to_one = refl

-- -2..3 by -2..2: the divisors are -2, 2, 1 and -1, and 1 and -1 give the ends
a_divisor_of_both_signs : quotient_of (negsuc 1, pos 3) (negsuc 1, pos 2) ≡ (negsuc 2, pos 3)
a_divisor_of_both_signs = refl

-- -7 div 2 is -3: toward zero
minus_seven_by_two_to_three : quotient_of (negsuc 6, negsuc 6) (pos 2, pos 3) ≡ (negsuc 2, negsuc 1)
minus_seven_by_two_to_three = refl

by_zero_only : quotient_of (pos 4, pos 9) (pos 0, pos 0) ≡ (pos 0, pos 0)
by_zero_only = refl

-- a divisor of magnitude 5 at most leaves -4..4, and the dividend is -9..3
remainders_of_both_signs : remainder_of (negsuc 8, pos 3) (negsuc 4, pos 2) ≡ (negsuc 3, pos 3)
remainders_of_both_signs = refl

remainders_of_a_positive_dividend : remainder_of (pos 6, pos 9) (negsuc 2, negsuc 2) ≡ (pos 0, pos 2)
remainders_of_a_positive_dividend = refl
