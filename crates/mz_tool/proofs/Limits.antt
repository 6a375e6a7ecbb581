-- An integer of a model, as it is read back from the code's number.
use Rattle.std.proofs.Common.{ℤ, pos, negsuc, FitsSigned, w64, to_z, of_z, subst, arith}
use Rattle.std.specs.Prelude.{◌≤ℤ◌}
use Rattle.std.proofs.lemmas.Int.{ints, fits_signed_from_abs, to_z-of_z}
use Rattle.mz_value.specs.Ranges.{greatest}

range_fits : (n : ℤ) → pos 0 ≤ℤ n → n ≤ℤ greatest → FitsSigned w64 n
range_fits (pos n) low high = fits_signed_from_abs w64 (pos n) (omega (arith, ints))
range_fits (negsuc n) low high = absurd (omega (arith, ints))

pub as_read : (P : ℤ → Type 0) (n : ℤ) → pos 0 ≤ℤ n → n ≤ℤ greatest → P (to_z w64 (of_z w64 n)) → P n
as_read P n low high holds = subst P (to_z-of_z w64 n (range_fits n low high)) holds
