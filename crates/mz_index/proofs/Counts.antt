-- What stands before an index is less than the length of its range.
use Rattle.std.proofs.Common.{ℤ, ◌≡◌, ◌+◌, ◌<◌, ◌≤ℤ◌, Bool, true, false, cond, int_le, unsigned_abs, ◌-ℤ◌, refl, arith}
use Rattle.std.proofs.lemmas.Int.{ints}
use Rattle.mz_index.specs.Places.{Range, length_of, offset_of}

-- an index that lies in the range
pub offset_of_below : (r : Range) (i : ℤ) → r.0 ≤ℤ i → i ≤ℤ r.1 → offset_of r i < length_of r
offset_of_below r i p q = by (int_le r.0 r.1) refl
  where
    by : (t : Bool) → int_le r.0 r.1 ≡ t → offset_of r i < cond t (unsigned_abs (r.1 -ℤ r.0) + 1) 0
    by true e = omega (arith, ints)
    by false e = absurd (omega (arith, ints))
