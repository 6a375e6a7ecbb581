-- Tests on signed numbers.
use Rattle.std.proofs.Common.{◌≡◌, Bool, true, false, refl, arith}
use Rattle.std.proofs.lemmas.Int.{ints, by_lt_z}
use Rattle.std.specs.Prelude.{ℤ, ◌≤ℤ◌, ◌<ℤ◌, ◌↔◌, IsTrue, int_le, int_lt}

pub int_le_true : (a b : ℤ) → a ≤ℤ b → int_le a b ≡ true
int_le_true a b h = by (int_le a b) refl
  where
    by : (t : Bool) → int_le a b ≡ t → int_le a b ≡ true
    by true e = e
    by false e = absurd (omega (arith, ints))

pub int_le_false : (a b : ℤ) → b <ℤ a → int_le a b ≡ false
int_le_false a b h = by (int_le a b) refl
  where
    by : (t : Bool) → int_le a b ≡ t → int_le a b ≡ false
    by true e = absurd (omega (arith, ints))
    by false e = e

pub int_lt_true : (a b : ℤ) → a <ℤ b → int_lt a b ≡ true
int_lt_true a b h = by (int_lt a b) refl
  where
    by : (t : Bool) → int_lt a b ≡ t → int_lt a b ≡ true
    by true e = e
    by false e = absurd (omega (arith, ints))

pub int_lt_false : (a b : ℤ) → b ≤ℤ a → int_lt a b ≡ false
int_lt_false a b h = by (int_lt a b) refl
  where
    by : (t : Bool) → int_lt a b ≡ t → int_lt a b ≡ false
    by true e = absurd (omega (arith, ints))
    by false e = e

-- a test that fails
pub fails : (t : Bool) (a b : ℤ) → IsTrue t ↔ (a ≤ℤ b) → t ≡ false → b <ℤ a
fails true a b test h = cc
fails false a b test h = by_lt_z b a (λ l. l) (λ le. let t = test.1 le in cc)
