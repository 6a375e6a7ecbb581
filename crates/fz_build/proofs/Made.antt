-- Intervals that are made.
use Rattle.std.proofs.Common.{◌≡◌, ℤ, pos, neg_ℤ, ◌≤ℤ◌, Option, option_map, arith}
use Rattle.std.specs.Int.{int_max}
use Rattle.std.proofs.lemmas.Int.{ints, clamps}
use Rattle.mz_interval.specs.Ends.{Ends, if_in_limit, if_interval}
use Rattle.mz_interval.specs.Interval.{ends}
use Rattle.mz_interval.specs.declared.interval.Interval.{Interval}
use Rattle.mz_interval.proofs.Limits.{some_row}
use Rattle.mz_operations.specs.declared.row.Sign.TheVariants.{Abs}
use Rattle.mz_operations.specs.Bounds.{sign_ends}

pub magnitude_row : (r : Option Interval) (e : Ends) (a b : ℤ) → e.0 ≤ℤ e.1 → a ≡ int_max (int_max e.0 (neg_ℤ e.1)) (pos 0) → b ≡ int_max (neg_ℤ e.0) e.1 → option_map ends r ≡ if_interval (a, b) → option_map ends r ≡ if_in_limit (sign_ends Abs e)
unfolding sign_ends
magnitude_row r e a b l p q h = some_row r a b (int_max (pos 0) (int_max e.0 (neg_ℤ e.1)), int_max (neg_ℤ e.0) e.1) h (omega (arith, ints, clamps)) q (omega (arith, ints, clamps))
