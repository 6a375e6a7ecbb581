-- The size of an integer.
use Rattle.std.proofs.Common.{◌≡◌, ℕ, ℤ, pos, negsuc, refl, arith}
use Rattle.std.proofs.lemmas.Int.{ints}
use Rattle.std.specs.Prelude.{◌<ℤ◌, ◌≤ℤ◌, unsigned_abs}
use Rattle.mz_value.specs.Contents.{int}
use Rattle.mz_meaning.specs.Operations.{content_size}

pub size_none : (k : ℤ) → k <ℤ pos 0 → 0 ≡ content_size (int k)
size_none (pos n) l = absurd (omega (arith, ints))
size_none (negsuc n) l = refl

pub size_some : (k : ℤ) (n : ℕ) → n ≡ unsigned_abs k → pos 0 ≤ℤ k → n ≡ content_size (int k)
size_some (pos m) n e l = e
size_some (negsuc m) n e l = absurd (omega (arith, ints))
