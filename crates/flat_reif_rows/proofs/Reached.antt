-- The hull and the union of the elements that a row's index reaches, within those of the node's.
use Rattle.std.proofs.Common.{◌≡◌, ℕ, zero, suc, ◌<◌, ℤ, pos, negsuc, ◌+ℤ◌, ◌≤ℤ◌, int_le, Bool, true, false, List, [], ◌∷◌, length, slice_get, Option, Some, None, IsSome, refl, sym, subst, arith}
use Rattle.std.proofs.lemmas.Bool.{and_parts, and_from}
use Rattle.std.proofs.lemmas.Int.{ints}
use Rattle.mz_value.specs.Ranges.{Range}
use Rattle.mz_value.proofs.Comparisons.{int_le_true}
use Rattle.mz_interval.specs.Ends.{Ends, Encloses, hull_of}
use Rattle.mz_operations.specs.Sets.{union, is_within}
use Rattle.mz_operations.specs.Monotone.{IsWithin}
use Rattle.fz_program.specs.Arguments.{Plain}
use Rattle.fz_program.specs.Flat.{Variable}
use Rattle.fz_build.specs.Bounds.{ends_of, upper_of, joined, hull_with, hull_reached, union_with, union_reached}
use Rattle.flat_reif_rows.specs.Elements.{Reaches}

-- ---- what holds of all hulls that are made of elements that are reached

abbrev Holds : (Ends → Type 0) → Option Ends → Type 0
Holds P None = Unit {0}
Holds P (Some e) = P e

next_place : (place : ℤ) (k : ℕ) → (place +ℤ pos 1) +ℤ pos k ≡ place +ℤ pos (suc k)
next_place place k = omega (arith, ints)

same_place : (place : ℤ) → place +ℤ pos 0 ≡ place
same_place place = omega (arith, ints)

module _ (vs : List Variable) (index : Ends) (P : Ends → Type 0) (hulls : (a b : Ends) → P a → P b → P (hull_of a b)) where
  joined_holds : (acc : Option Ends) (e : Ends) → Holds P acc → P e → P (joined acc e)
  joined_holds None e h p = p
  joined_holds (Some a) e h p = hulls a e h p

  pub hull_holds : (ps : List Plain) (place : ℤ) (acc : Option Ends) → Holds P acc → ((k : ℕ) (p : Plain) → slice_get ps k ≡ Some p → is_within index (place +ℤ pos k) ≡ true → P (ends_of vs p)) → Holds P (hull_reached vs index place acc ps)
  unfolding hull_reached
  hull_holds [] place acc h all = h
  hull_holds (p ∷ ps) place acc h all =
      hull_holds ps (place +ℤ pos 1) (hull_with (is_within index place) acc (ends_of vs p)) (step (is_within index place) refl)
      (λ k q is w. all (suc k) q is (subst (λ z. is_within index z ≡ true) (next_place place k) w))
    where
      step : (t : Bool) → is_within index place ≡ t → Holds P (hull_with t acc (ends_of vs p))
      step true w = joined_holds acc (ends_of vs p) h (all 0 p refl (subst (λ z. is_within index z ≡ true) (sym (same_place place)) w))
      step false w = h

module _ (vs : List Variable) (index : Ends) where
  stays : (ps : List Plain) (place : ℤ) (acc : Option Ends) → IsSome acc → IsSome (hull_reached vs index place acc ps)
  unfolding hull_reached
  stays [] place acc h = h
  stays (p ∷ ps) place acc h = stays ps (place +ℤ pos 1) (hull_with (is_within index place) acc (ends_of vs p)) (step (is_within index place))
    where
      step : (t : Bool) → IsSome (hull_with t acc (ends_of vs p))
      step true = refl
      step false = h

  hull_there : (ps : List Plain) (place : ℤ) (acc : Option Ends) (k : ℕ) → k < length ps → is_within index (place +ℤ pos k) ≡ true → IsSome (hull_reached vs index place acc ps)
  unfolding hull_reached
  hull_there [] place acc k l w = absurd (omega (arith, l))
  hull_there (p ∷ ps) place acc zero l w =
      stays ps (place +ℤ pos 1) (hull_with (is_within index place) acc (ends_of vs p))
      (subst (λ t. IsSome (hull_with t acc (ends_of vs p))) (sym (subst (λ z. is_within index z ≡ true) (same_place place) w)) refl)
  hull_there (p ∷ ps) place acc (suc k) l w = hull_there ps (place +ℤ pos 1) (hull_with (is_within index place) acc (ends_of vs p)) k (omega (arith, l)) (subst (λ z. is_within index z ≡ true) (sym (next_place place k)) w)

  within_is : (i : ℤ) → index.0 ≤ℤ i → i ≤ℤ index.1 → is_within index i ≡ true
  within_is i h l = and_from (int_le index.0 i) (int_le i index.1) (int_le_true index.0 i h) (int_le_true i index.1 l)

  pub reaches_some : (ps : List Plain) → index.0 ≤ℤ index.1 → Reaches index (length ps) → IsSome (hull_reached vs index (pos 1) None ps)
  reaches_some ps o r = by index.0 refl
    where
      by : (low : ℤ) → index.0 ≡ low → IsSome (hull_reached vs index (pos 1) None ps)
      by (pos zero) e = let l = r.some in let t = r.to in hull_there ps (pos 1) None 0 (omega (arith, l)) (within_is (pos 1 +ℤ pos 0) (omega (arith, ints, e)) (omega (arith, ints, t)))
      by (pos (suc m)) e = let f = r.from in hull_there ps (pos 1) None m (omega (arith, ints, e, f)) (within_is (pos 1 +ℤ pos m) (omega (arith, ints, e)) (omega (arith, ints, e, o)))
      by (negsuc m) e = let l = r.some in let t = r.to in hull_there ps (pos 1) None 0 (omega (arith, l)) (within_is (pos 1 +ℤ pos 0) (omega (arith, ints, e)) (omega (arith, ints, t)))

-- a place that is reached lies between the ends
pub reached_inside : (index e : Ends) (k : ℕ) → IsWithin index e → is_within index (pos 1 +ℤ pos k) ≡ true → Encloses e (pos (suc k))
reached_inside index e k w h =
    let b = and_parts (int_le index.0 (pos 1 +ℤ pos k)) (int_le (pos 1 +ℤ pos k) index.1) h in
    let low : index.0 ≤ℤ (pos 1 +ℤ pos k) = above index.0 (pos 1 +ℤ pos k) b.0 in
    let high : (pos 1 +ℤ pos k) ≤ℤ index.1 = above (pos 1 +ℤ pos k) index.1 b.1 in
    record { from = omega (arith, ints, low, w.from); to = omega (arith, ints, high, w.to) }
  where
    above : (a b : ℤ) → int_le a b ≡ true → a ≤ℤ b
    above a b h = grind (arith, ints)

-- ---- unions

module _ (vs : List Variable) (index : Ends) (P : List Range → Type 0) (unions : (a b : List Range) → P a → P b → P (union a b)) where
  pub union_holds : (ps : List Plain) (place : ℤ) (acc : List Range) → P acc → ((k : ℕ) (p : Plain) → slice_get ps k ≡ Some p → is_within index (place +ℤ pos k) ≡ true → P (upper_of vs p)) → P (union_reached vs index place acc ps)
  unfolding union_reached
  union_holds [] place acc h all = h
  union_holds (p ∷ ps) place acc h all =
      union_holds ps (place +ℤ pos 1) (union_with (is_within index place) acc (upper_of vs p)) (step (is_within index place) refl)
      (λ k q is w. all (suc k) q is (subst (λ z. is_within index z ≡ true) (next_place place k) w))
    where
      step : (t : Bool) → is_within index place ≡ t → P (union_with t acc (upper_of vs p))
      step true w = unions acc (upper_of vs p) h (all 0 p refl (subst (λ z. is_within index z ≡ true) (sym (same_place place)) w))
      step false w = h
