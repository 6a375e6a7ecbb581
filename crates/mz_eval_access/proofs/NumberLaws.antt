-- Numbers that stand in a list at a par integer.
use Rattle.std.proofs.Common.{◌≡◌, ◌∙◌, ◌&&◌, ◌+◌, ◌*◌, ℕ, List, [], ◌∷◌, map, Some, None, slice_get, refl, sym, ap, arith}
use Rattle.std.specs.Prelude.{ℤ, ◌-ℤ◌, ◌≤ℤ◌, int_le, nat_abs, unsigned_abs, if◌then◌else◌}
use Rattle.std.specs.Option.{option_and_then}
use Rattle.mz_value.specs.Contents.{int}
use Rattle.mz_value.specs.Ranges.{Range}
use Rattle.mz_value.proofs.Comparisons.{int_le_true}
use Rattle.mz_interval.specs.Ends.{Ends}
use Rattle.mz_index.specs.Places.{offset_of, place_of}
use Rattle.mz_operations.specs.Bounds.{bound_of, bounds_of, reached}
use Rattle.mz_operations.specs.Views.{as_element}
use Rattle.mz_meaning.specs.Arrays.{ends_in, indices_in}
use Rattle.mz_meaning.specs.Cells.{Cell, bounds_in, par_value, scalar_bound, value_of}
use Rattle.mz_eval_cells.specs.declared.types.Bound.{Bound}
use Rattle.mz_eval_cells.specs.Views.{known_bound}
use Rattle.mz_eval_access.specs.Places.{IsPlaceOf, ReachesIn}
use Rattle.mz_eval_access.specs.StepsPlaces.{steps_between}
use Rattle.mz_eval_access.proofs.Reached.{one_reached}

pub number_placed : (r : Range) (c : Cell) (n : ℤ) (p : ℕ) → c ≡ par_value (int n) → (r.0 ≤ℤ n) × (n ≤ℤ r.1) → p ≡ steps_between r.0 n → IsPlaceOf (r ∷ []) c p
unfolding as_element
number_placed r c n p e f s =
    let low = int_le_true r.0 n f.0 in
    let high = int_le_true n r.1 f.1 in
    let same : unsigned_abs (n -ℤ r.0) * 1 + 0 ≡ nat_abs (n -ℤ r.0) = omega arith in
    ap (λ d. option_and_then (place_of (r ∷ [])) (indices_in (value_of d ∷ []))) e
    ∙ ap (λ b. if b && int_le n r.1 then Some (offset_of r n * 1 + 0) else None) low
    ∙ ap (λ b. if b then Some (offset_of r n * 1 + 0) else None) high
    ∙ ap Some (same ∙ sym (s ∙ ap (λ b. if b then nat_abs (n -ℤ r.0) else 0) low))

pub number_reached : (r : Range) (c : Cell) (n : ℤ) (all : List Bound) (p : ℕ) (b : Bound) (e : Ends) → c ≡ par_value (int n) → (r.0 ≤ℤ n) × (n ≤ℤ r.1) → p ≡ steps_between r.0 n → slice_get all p ≡ Some b → e ≡ ends_in (known_bound b) → ReachesIn (r ∷ []) (map known_bound all) c e
unfolding bounds_of bound_of
number_reached r c n all p b e i f s h k =
    ap (λ d. map ends_in (reached (r ∷ []) (ends_in (scalar_bound (bounds_in d)) ∷ []) (map known_bound all))) i
    ∙ one_reached r (n, n) all p b (refl, f.0, f.1) s h
    ∙ ap (λ x. x ∷ []) (sym k)
