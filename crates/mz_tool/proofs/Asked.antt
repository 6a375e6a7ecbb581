-- The limits of a command's options.
use Rattle.std.proofs.Common.{◌<◌, ◌^◌, ℤ, pos, negsuc, FitsSigned, w64, sym, subst, to_z, of_z, arith}
use Rattle.std.specs.Prelude.{◌≤ℤ◌}
use Rattle.std.proofs.lemmas.Int.{ints, fits_signed_from_abs, to_z-of_z}
use Rattle.mz_meaning.specs.Walk.{Limits}
use Rattle.mz_value.specs.Ranges.{greatest}
use Rattle.mz_words.specs.Requests.{Settings, IsWithinLimits}
use Rattle.mz_tool.specs.Headline.{limits_of}

pub budget_is_small : (s : Settings) → IsWithinLimits s → s.budget < 2 ^ 63
budget_is_small s h = let w = h.budget.1 in omega (arith, w)

from_one : (n : ℤ) → pos 1 ≤ℤ n → pos 0 ≤ℤ n
from_one n h = grind arith

range_from_zero : (s : Settings) → IsWithinLimits s → pos 0 ≤ℤ s.int_range
range_from_zero s h = from_one s.int_range h.least_range

range_in_limit : (s : Settings) → IsWithinLimits s → s.int_range ≤ℤ greatest
range_in_limit s h = h.greatest_range

range_fits : (n : ℤ) → pos 0 ≤ℤ n → n ≤ℤ greatest → FitsSigned w64 n
range_fits (pos n) low high = fits_signed_from_abs w64 (pos n) (omega (arith, ints))
range_fits (negsuc n) low high = absurd (omega (arith, ints))

-- the range as it is read back from the code's number
read_back : (P : ℤ → Type 0) (s : Settings) → IsWithinLimits s → P s.int_range → P (to_z w64 (of_z w64 s.int_range))
read_back P s h holds = subst P (sym (to_z-of_z w64 s.int_range (range_fits s.int_range (range_from_zero s h) (range_in_limit s h)))) holds

pub read_from_zero : (s : Settings) → IsWithinLimits s → pos 0 ≤ℤ to_z w64 (of_z w64 s.int_range)
read_from_zero s h = read_back (λ n. pos 0 ≤ℤ n) s h (range_from_zero s h)

pub read_in_limit : (s : Settings) → IsWithinLimits s → to_z w64 (of_z w64 s.int_range) ≤ℤ greatest
read_in_limit s h = read_back (λ n. n ≤ℤ greatest) s h (range_in_limit s h)

-- what holds by the range as it is read back from the code's number
pub as_read : (P : Limits → Type 0) (s : Settings) → IsWithinLimits s → P (record { budget = s.budget; int_range = to_z w64 (of_z w64 s.int_range) }) → P (limits_of s)
as_read P s h holds = subst (λ n. P (record { budget = s.budget; int_range = n })) (to_z-of_z w64 s.int_range (range_fits s.int_range (range_from_zero s h) (range_in_limit s h))) holds
