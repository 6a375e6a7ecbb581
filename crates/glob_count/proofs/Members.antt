-- A set in the limit has no element outside.
use Rattle.std.proofs.Common.{◌≡◌, ℤ, ◌≤ℤ◌, List, [], ◌∷◌, Bool, true, false, ◌&&◌, int_le, refl, sym, ◌∙◌, arith}
use Rattle.std.proofs.lemmas.Int.{ints}
use Rattle.mz_value.specs.Ranges.{Range, AreInLimit, IsInLimit, least, greatest}
use Rattle.mz_value.proofs.Comparisons.{int_le_true}
use Rattle.mz_interval.specs.Ends.{is_number}
use Rattle.mz_operations.specs.Sets.{contains, is_within}

to_order : (x y : ℤ) → int_le x y ≡ true → x ≤ℤ y
to_order x y h = grind (arith, ints, h)

chained : (x y z : ℤ) → x ≤ℤ y → y ≤ℤ z → x ≤ℤ z
chained x y z h k = grind (arith, ints, h, k)

both : (p q : Bool) → (p && q) ≡ true → (p ≡ true) × (q ≡ true)
both true q h = (refl, h)
both false q h = absurd (cc)

numbered : (x : ℤ) → least ≤ℤ x → x ≤ℤ greatest → is_number x ≡ true
numbered x l m = rw (int_le_true least x l, int_le_true x greatest m) refl

not_within : (r : Range) (x : ℤ) → IsInLimit r.0 → IsInLimit r.1 → is_number x ≡ false → is_within r x ≡ false
not_within r x l m out = by (is_within r x) refl
  where
    inside : is_within r x ≡ true → is_number x ≡ true
    inside e =
        let p = both (int_le r.0 x) (int_le x r.1) e in
        numbered x (chained least r.0 x l.0 (to_order r.0 x p.0)) (chained x r.1 greatest (to_order x r.1 p.1) m.1)

    by : (b : Bool) → is_within r x ≡ b → is_within r x ≡ false
    by true e = absurd (let n = inside e in cc)
    by false e = e

pub none_outside : (s : List Range) (x : ℤ) → AreInLimit s → is_number x ≡ false → contains s x ≡ false
unfolding contains
none_outside [] x l out = refl
none_outside (r ∷ rs) x l out = rw (not_within r x l.0 l.1 out) (none_outside rs x l.2 out)
