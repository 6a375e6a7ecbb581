-- One index more, and places that are told as at most the greatest number.
use Rattle.std.proofs.Common.{◌≡◌, ◌∙◌, ℕ, ◌+◌, ◌*◌, ◌<◌, ◌^◌, List, ◌∷◌, min, Bool, true, false, refl, sym, ap, arith}
use Rattle.std.specs.Prelude.{ℤ, Option, Some, None, option_map, if◌then◌else◌}
use Rattle.mz_index.specs.Places.{Range, is_inside, offset_of, count_of, place_of, most}
use Rattle.mz_index.proofs.Caps.{capped_place}
use Rattle.mz_index.proofs.Laws.{place_of-below}

capped_step : (t : Bool) (a c p : ℕ) (q : Option ℕ) → t ≡ true → option_map (min most) q ≡ Some p → option_map (min most) (if t then option_map (λ k. a * c + k) q else None) ≡ Some (min most (a * min most c + p))
capped_step false a c p q e f = absurd (cc)
capped_step true a c p None e f = absurd (cc)
capped_step true a c p (Some k) e f = let same : min most k ≡ p = cc in ap Some (sym (capped_place most a c k) ∙ ap (λ m. min most (a * min most c + m)) same)

none_step : (t : Bool) (f : ℕ → ℕ) (q : Option ℕ) → option_map (min most) q ≡ None → option_map (min most) (if t then option_map f q else None) ≡ None
none_step t f (Some k) e = absurd (cc)
none_step true f None e = refl
none_step false f None e = refl

pub place_more : (r : Range) (rs : List Range) (i : ℤ) (is : List ℤ) (p : ℕ) → is_inside r i ≡ true → option_map (min most) (place_of rs is) ≡ Some p → option_map (min most) (place_of (r ∷ rs) (i ∷ is)) ≡ Some (min most (offset_of r i * min most (count_of rs) + p))
place_more r rs i is p e f = capped_step (is_inside r i) (offset_of r i) (count_of rs) p (place_of rs is) e f

pub place_none : (r : Range) (rs : List Range) (i : ℤ) (is : List ℤ) → option_map (min most) (place_of rs is) ≡ None → option_map (min most) (place_of (r ∷ rs) (i ∷ is)) ≡ None
place_none r rs i is e = none_step (is_inside r i) (λ k. offset_of r i * count_of rs + k) (place_of rs is) e

-- ---- where no number is that great

pub same_count : (n : ℕ) → n < 2 ^ 32 → min most n ≡ n
same_count n h = omega arith

pub same_place : (rs : List Range) (is : List ℤ) → count_of rs < 2 ^ 32 → option_map (min most) (place_of rs is) ≡ place_of rs is
same_place rs is h = by (place_of rs is) refl
  where
    by : (q : Option ℕ) → place_of rs is ≡ q → option_map (min most) q ≡ q
    by None e = refl
    by (Some p) e = let below = place_of-below rs is p e in ap Some (same_count p (omega arith))
