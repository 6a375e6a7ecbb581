-- Exponents.
use Rattle.std.proofs.Common.{◌≡◌, ℕ, ℤ, pos, negsuc, refl, arith}
use Rattle.std.proofs.lemmas.Int.{ints}
use Rattle.std.specs.Prelude.{◌<ℤ◌, ◌≤ℤ◌, unsigned_abs}
use Rattle.mz_operations.specs.RowBounds.{exponent}

pub exponent_none : (k : ℤ) → k <ℤ pos 0 → 0 ≡ exponent k
exponent_none (pos n) l = absurd (omega (arith, ints))
exponent_none (negsuc n) l = refl

pub exponent_some : (k : ℤ) (n : ℕ) → n ≡ unsigned_abs k → pos 0 ≤ℤ k → n ≡ exponent k
exponent_some (pos m) n e l = e
exponent_some (negsuc m) n e l = absurd (omega (arith, ints))
