-- A set in the limit has no integer outside.
use Rattle.std.proofs.Common.{◌≡◌, List, Bool, true, false, refl, ap, ◌∙◌, subst}
use Rattle.std.specs.Prelude.{ℤ, ◌≤ℤ◌, Some, None, if◌then◌else◌}
use Rattle.mz_value.specs.Ranges.{Range, AreInLimit, least, greatest}
use Rattle.mz_value.proofs.Gaps.{has_limit}
use Rattle.mz_value.proofs.Comparisons.{int_le_true}
use Rattle.mz_interval.specs.Ends.{is_number}
use Rattle.mz_operations.specs.declared.row.Side.{Side}
use Rattle.mz_operations.specs.Numbers.{beside}
use Rattle.mz_operations.specs.Sets.{contains}
use Rattle.mz_operations.proofs.SetBounds.{contains_has}

number_true : (n : ℤ) → least ≤ℤ n → n ≤ℤ greatest → is_number n ≡ true
number_true n low high = rw (int_le_true least n low, int_le_true n greatest high) refl

outside : (s : List Range) (n : ℤ) → AreInLimit s → is_number n ≡ false → contains s n ≡ false
outside s n all out = by (contains s n) refl
  where
    by : (t : Bool) → contains s n ≡ t → contains s n ≡ false
    by false e = e
    by true e =
        let l = has_limit n s all (contains_has s n e) in
        let inside = number_true n l.0 l.1 in
        cc

pub none_outside : (s : List Range) (n m : ℤ) → AreInLimit s → is_number m ≡ false → m ≡ n → None ≡ (if contains s n then Some n else None)
none_outside s n m all out same =
    let e = outside s n all (subst (λ z. is_number z ≡ false) same out) in
    rw e refl

pub none_beside : (s : List Range) (side : Side) (k y m : ℤ) → AreInLimit s → is_number m ≡ false → m ≡ beside side y → y ≡ k → None ≡ (if contains s (beside side k) then Some (beside side k) else None)
none_beside s side k y m all out e f = none_outside s (beside side k) m all out (e ∙ ap (beside side) f)
