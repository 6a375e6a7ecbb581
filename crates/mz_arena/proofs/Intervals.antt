-- Intervals that are made.
use Rattle.std.proofs.Common.{◌≡◌, ◌-◌, ◌<◌, List, [], ◌∷◌, length, get_or, unwrap_or, inl, ap, ℤ, pos, neg_ℤ, ◌≤ℤ◌, Option, option_map, arith, refl, ◌∙◌}
use Rattle.std.specs.Int.{int_max}
use Rattle.std.proofs.lemmas.Int.{ints, clamps}
use Rattle.std.proofs.lemmas.Option.{slice_get-get_or}
use Rattle.mz_value.specs.Ranges.{Range, AreCanonical, AreInLimit, Has}
use Rattle.mz_value.proofs.Sizes.{limit_at}
use Rattle.mz_interval.specs.Ends.{Ends, least_number, greatest_number, if_in_limit, if_interval}
use Rattle.mz_interval.specs.Interval.{ends}
use Rattle.mz_interval.specs.declared.interval.Interval.{Interval}
use Rattle.mz_interval.proofs.Limits.{some_row}
use Rattle.mz_operations.specs.declared.row.Sign.TheVariants.{Abs}
use Rattle.mz_operations.specs.Sets.{end_of}
use Rattle.mz_operations.specs.Bounds.{sign_ends, hull_of_set}
use Rattle.mz_operations.proofs.SetBounds.{hull_of_set-has}

pub magnitude_row : (r : Option Interval) (e : Ends) (a b : ℤ) → e.0 ≤ℤ e.1 → a ≡ int_max (int_max e.0 (neg_ℤ e.1)) (pos 0) → b ≡ int_max (neg_ℤ e.0) e.1 → option_map ends r ≡ if_interval (a, b) → option_map ends r ≡ if_in_limit (sign_ends Abs e)
unfolding sign_ends
magnitude_row r e a b l p q h = some_row r a b (int_max (pos 0) (int_max e.0 (neg_ℤ e.1)), int_max (neg_ℤ e.0) e.1) h (omega (arith, ints, clamps)) q (omega (arith, ints, clamps))

pub constant_row : (r : Option Interval) (n a b : ℤ) → a ≡ n → b ≡ n → option_map ends r ≡ if_interval (a, b) → option_map ends r ≡ if_in_limit (n, n)
constant_row r n a b p q h = some_row r a b (n, n) h p q (omega (arith, ints))

-- the ends of a set's first and last range are its hull, in the limit
pub record IsHull (rs : List Range) (d : Range) : Type 0 where
  pub low : (hull_of_set rs).0 ≡ (get_or rs 0 d).0
  pub high : (hull_of_set rs).1 ≡ (get_or rs (length rs - 1) d).1
  pub ordered : (get_or rs 0 d).0 ≤ℤ (get_or rs (length rs - 1) d).1
  pub lo_in_limit : least_number ≤ℤ (get_or rs 0 d).0
  pub hi_in_limit : (get_or rs (length rs - 1) d).1 ≤ℤ greatest_number

has_first : (rs : List Range) (d : Range) → AreCanonical rs → 0 < length rs → Has rs (get_or rs 0 d).0
has_first [] d c l = absurd (omega arith)
has_first (r ∷ rs) d c l = inl (omega (arith, ints), c.0)

pub set_hull : (rs : List Range) (d : Range) → AreCanonical rs → AreInLimit rs → 0 < length rs → IsHull rs d
unfolding end_of
set_hull rs d c all l =
    let low : (hull_of_set rs).0 ≡ (get_or rs 0 d).0 = ap (λ o. unwrap_or (option_map (λ (r : Range). r.0) o) (pos 0)) (slice_get-get_or rs 0 d l) in
    let high : (hull_of_set rs).1 ≡ (get_or rs (length rs - 1) d).1 = ap (λ o. unwrap_or (option_map (λ (r : Range). r.1) o) (pos 0)) (slice_get-get_or rs (length rs - 1) d (omega arith)) in
    let inside = hull_of_set-has rs (get_or rs 0 d).0 c (has_first rs d c l) in
    let first = limit_at rs 0 d all l in
    let last = limit_at rs (length rs - 1) d all (omega arith) in
    record {
      low = low;
      high = high;
      ordered = omega (arith, ints, inside.to);
      lo_in_limit = omega (arith, ints, first.0.0);
      hi_in_limit = omega (arith, ints, last.1.1);
    }

pub empty_hull : (rs : List Range) → length rs ≡ 0 → hull_of_set rs ≡ (pos 0, pos 0)
unfolding end_of
empty_hull [] l = refl
empty_hull (r ∷ rs) l = absurd (omega arith)

abbrev pair : ℤ → ℤ → Ends
pair a b = (a, b)

pub pair_same : (e : Ends) (a b : ℤ) → a ≡ e.0 → b ≡ e.1 → pair a b ≡ e
pair_same e a b p q = ap (λ x. pair x b) p ∙ ap (λ y. pair e.0 y) q
