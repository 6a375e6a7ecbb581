-- The bounds of a product of two numbers of 64 bits.
use Rattle.std.proofs.Common.{◌≡◌, ℕ, suc, ◌*◌, ◌^◌, ◌≤◌, ℤ, pos, negsuc, neg_ℤ, ◌*ℤ◌, ◌≤ℤ◌, sym, subst, arith}
use Rattle.std.specs.Prelude.{unsigned_abs}
use Rattle.std.proofs.lemmas.Int.{ints, unsigned_abs-mul}
use Rattle.std.proofs.Math.Nat.{mul-le-mul_left}

magnitude : (x : ℤ) → neg_ℤ (pos (2 ^ 63)) ≤ℤ x → x ≤ℤ pos (2 ^ 63) → unsigned_abs x ≤ 2 ^ 63
magnitude (pos n) l h = omega (arith, ints, l, h)
magnitude (negsuc n) l h = omega (arith, ints, l, h)

from_below : (n : ℕ) (x : ℤ) → unsigned_abs x ≤ n → neg_ℤ (pos n) ≤ℤ x
from_below n (pos k) l = omega (arith, ints, l)
from_below n (negsuc k) l = omega (arith, ints, l)

from_above : (n : ℕ) (x : ℤ) → unsigned_abs x ≤ n → x ≤ℤ pos n
from_above n (pos k) l = omega (arith, ints, l)
from_above n (negsuc k) l = omega (arith, ints, l)

bound : (x y : ℤ) → unsigned_abs x ≤ 2 ^ 63 → unsigned_abs y ≤ 2 ^ 63 → unsigned_abs (x *ℤ y) ≤ 2 ^ 126
bound x y l m =
    let less : unsigned_abs x * unsigned_abs y ≤ unsigned_abs x * 2 ^ 63 = mul-le-mul_left (unsigned_abs x) m in
    let all : unsigned_abs x * unsigned_abs y ≤ 2 ^ 126 = omega (arith, less, l) in
    subst (λ n. n ≤ 2 ^ 126) (sym (unsigned_abs-mul x y)) all

pub product_low : (x y : ℤ) → neg_ℤ (pos (2 ^ 63)) ≤ℤ x → x ≤ℤ pos (2 ^ 63) → neg_ℤ (pos (2 ^ 63)) ≤ℤ y → y ≤ℤ pos (2 ^ 63) → neg_ℤ (pos (2 ^ 126)) ≤ℤ (x *ℤ y)
product_low x y a b d e = from_below (2 ^ 126) (x *ℤ y) (bound x y (magnitude x a b) (magnitude y d e))

pub product_high : (x y : ℤ) → neg_ℤ (pos (2 ^ 63)) ≤ℤ x → x ≤ℤ pos (2 ^ 63) → neg_ℤ (pos (2 ^ 63)) ≤ℤ y → y ≤ℤ pos (2 ^ 63) → (x *ℤ y) ≤ℤ pos (2 ^ 126)
product_high x y a b d e = from_above (2 ^ 126) (x *ℤ y) (bound x y (magnitude x a b) (magnitude y d e))
