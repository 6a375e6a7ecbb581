-- Arithmetic on numbers in bounds.
use Rattle.std.proofs.Common.{◌≡◌, ◌≢◌, ℤ, pos, zero, suc, ◌+ℤ◌, int_div, int_rem, Bool, true, false, cond, List, [], ◌∷◌, Some, None, ℕ, slice_get, subst, refl, ap, arith, ◌-ℤ◌}
use Rattle.std.specs.Ordering.{int_eq}
use Rattle.std.proofs.lemmas.Int.{ints, clamps}
use Rattle.mz_interval.specs.Ends.{Ends, Encloses, hull_of}
use Rattle.mz_interval.specs.Rows.{sum_of, product_of, quotient_of, remainder_of}
use Rattle.mz_interval.proofs.Hulls.{hull_of-left, hull_of-right}
use Rattle.mz_interval.proofs.Products.{product_of-encloses}
use Rattle.mz_interval.proofs.Quotients.{quotient_of-encloses}
use Rattle.mz_interval.proofs.Remainders.{remainder_of-encloses}
use Rattle.mz_operations.specs.declared.row.Arith.TheVariants.{Add, Sub, Mul, Div, Mod, Min, Max}
use Rattle.mz_operations.specs.declared.row.Sign.TheVariants.{Plus, Minus, Abs}
use Rattle.mz_operations.specs.declared.row.Side.{Side}
use Rattle.mz_operations.specs.declared.row.Side.TheVariants.{Least, Greatest}
use Rattle.mz_operations.specs.Numbers.{by_divisor, computed, signed, toward}
use Rattle.mz_operations.specs.Bounds.{arith_ends, sign_ends, toward_ends, hull_from}
use Rattle.mz_operations.specs.Laws.{ArithEncloses, SignEncloses, HullEncloses}

pub sum_in : (e f : Ends) (x y : ℤ) → Encloses e x → Encloses f y → Encloses (sum_of e f) (x +ℤ y)
sum_in e f x y p q = record { from = omega (arith, ints); to = omega (arith, ints) }

pub toward_in : (side : Side) (e f : Ends) (x y : ℤ) → Encloses e x → Encloses f y → Encloses (toward_ends side e f) (toward side x y)
unfolding toward_ends toward
toward_in Least e f x y p q = record { from = omega (arith, ints, clamps); to = omega (arith, ints, clamps) }
toward_in Greatest e f x y p q = record { from = omega (arith, ints, clamps); to = omega (arith, ints, clamps) }

record Divides (y m n : ℤ) : Type 0 where
  nonzero : y ≢ pos 0
  same : m ≡ n

divides : (y m n : ℤ) → by_divisor y m ≡ Some n → Divides y m n
divides y m n h = by (int_eq y (pos 0)) refl h
  where
    by : (t : Bool) → int_eq y (pos 0) ≡ t → cond t None (Some m) ≡ Some n → Divides y m n
    by true e k = cc
    by false e k = record { nonzero = λ z. let other : int_eq y (pos 0) ≡ true = ap (λ w. int_eq w (pos 0)) z in cc; same = cc }

pub arith_encloses : ArithEncloses
unfolding arith_ends computed toward_ends toward
arith_encloses Add e f x y n p q h = let same : x +ℤ y ≡ n = cc in subst (Encloses (sum_of e f)) same (sum_in e f x y p q)
arith_encloses Sub e f x y n p q h = let same : x -ℤ y ≡ n = cc in record { from = omega (arith, ints); to = omega (arith, ints) }
arith_encloses Mul e f x y n p q h = subst (Encloses (product_of e f)) (cc) (product_of-encloses e f x y p q)
arith_encloses Div e f x y n p q h =
    let d = divides y (int_div x y) n h in
    subst (Encloses (quotient_of e f)) d.same (quotient_of-encloses e f x y p q d.nonzero)
arith_encloses Mod e f x y n p q h =
    let d = divides y (int_rem x y) n h in
    subst (Encloses (remainder_of e f)) d.same (remainder_of-encloses e f x y p q d.nonzero)
arith_encloses Min e f x y n p q h = let same : toward Least x y ≡ n = cc in subst (Encloses (toward_ends Least e f)) same (toward_in Least e f x y p q)
arith_encloses Max e f x y n p q h = let same : toward Greatest x y ≡ n = cc in subst (Encloses (toward_ends Greatest e f)) same (toward_in Greatest e f x y p q)

pub sign_encloses : SignEncloses
unfolding sign_ends signed
sign_encloses Plus e x p = p
sign_encloses Minus e x p = record { from = omega (arith, ints); to = omega (arith, ints) }
sign_encloses Abs e x p = record { from = omega (arith, ints, clamps); to = omega (arith, ints, clamps) }

-- ---- hulls

hull_from-acc : (acc : Ends) (es : List Ends) (x : ℤ) → Encloses acc x → Encloses (hull_from acc es) x
hull_from-acc acc [] x p = p
hull_from-acc acc (e ∷ es) x p = hull_from-acc (hull_of acc e) es x (hull_of-left acc e x p)

hull_from-in : (acc : Ends) (es : List Ends) (k : ℕ) (e : Ends) (x : ℤ) → slice_get es k ≡ Some e → Encloses e x → Encloses (hull_from acc es) x
hull_from-in acc [] k e x i h = cc
hull_from-in acc (f ∷ es) zero e x i h =
    let same : e ≡ f = cc in
    hull_from-acc (hull_of acc f) es x (hull_of-right acc f x (subst (λ (g : Ends). Encloses g x) same h))
hull_from-in acc (f ∷ es) (suc k) e x i h = hull_from-in (hull_of acc f) es k e x i h

pub hull_encloses : HullEncloses
hull_encloses [] k e x i h = cc
hull_encloses (f ∷ es) zero e x i h =
    let same : e ≡ f = cc in
    hull_from-acc f es x (subst (λ (g : Ends). Encloses g x) same h)
hull_encloses (f ∷ es) (suc k) e x i h = hull_from-in f es k e x i h
