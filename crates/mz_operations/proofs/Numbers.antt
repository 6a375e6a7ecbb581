-- Bounds of numbers within other bounds.
use Rattle.std.proofs.Common.{◌≡◌, ◌≢◌, ◌-◌, ◌≤◌, ℤ, pos, neg_ℤ, ◌≤ℤ◌, ◌*ℤ◌, int_div, int_le, unsigned_abs, nat_eq, List, [], ◌∷◌, Bool, true, false, not, cond, ◌&&◌, Option, Some, None, IsSome, is_some, unwrap_or, inl, inr, ◌⊎◌, refl, ap, arith}
use Rattle.std.specs.Int.{int_min, int_max}
use Rattle.std.specs.Ordering.{int_eq}
use Rattle.std.proofs.lemmas.Bool.{eqb-true}
use Rattle.std.proofs.lemmas.Int.{ints, clamps}
use Rattle.mz_interval.specs.Ends.{Ends, Encloses, between, hull_of, hull_of_some}
use Rattle.mz_interval.specs.Rows.{sum_of, negation_of, product_of, is_divisor, quotients_by, quotient_of, magnitude_of, remainder_from, remainder_to, remainders_below, remainder_of}
use Rattle.mz_interval.proofs.Products.{product_of-encloses}
use Rattle.mz_interval.proofs.Quotients.{quotient_of-encloses, is_divisor_is}
use Rattle.mz_interval.proofs.Remainders.{remainder_from-le, remainder_to-ge}
use Rattle.mz_operations.specs.declared.row.Arith.TheVariants.{Add, Sub, Mul, Div, Mod, Min, Max}
use Rattle.mz_operations.specs.declared.row.Sign.TheVariants.{Plus, Minus, Abs}
use Rattle.mz_operations.specs.declared.row.Side.{Side}
use Rattle.mz_operations.specs.declared.row.Side.TheVariants.{Least, Greatest}
use Rattle.mz_operations.specs.Numbers.{toward}
use Rattle.mz_operations.specs.Bounds.{nothing, arith_ends, sign_ends, toward_ends, extreme_from, hull_from}
use Rattle.mz_operations.specs.Monotone.{IsWithin, IsOrdered, MayDivide, AreWithin, ArithIsMonotone, SignIsMonotone, ExtremeIsMonotone, HullIsMonotone}

-- ---- ends

pub within_same : (e : Ends) → IsWithin e e
within_same e = record { from = omega (arith, ints); to = omega (arith, ints) }

-- the ends of a range with a number lie in each range that it is within
pub low_end : (e g : Ends) → IsOrdered e → IsWithin e g → Encloses g e.0
low_end e g o w = record { from = w.from; to = omega (arith, ints, w.to) }

pub high_end : (e g : Ends) → IsOrdered e → IsWithin e g → Encloses g e.1
high_end e g o w = record { from = omega (arith, ints, w.from); to = w.to }

-- a range within which both ends lie
pub ends_within : (e g : Ends) → Encloses g e.0 → Encloses g e.1 → IsWithin e g
ends_within e g p q = record { from = p.from; to = q.to }

pub hull_within : (e f g : Ends) → IsWithin e g → IsWithin f g → IsWithin (hull_of e f) g
hull_within e f g p q = record { from = omega (arith, ints, clamps, p.from, q.from); to = omega (arith, ints, clamps, p.to, q.to) }

between_within : (u v : ℤ) (g : Ends) → Encloses g u → Encloses g v → IsWithin (between u v) g
between_within u v g p q = record { from = omega (arith, ints, clamps, p.from, q.from); to = omega (arith, ints, clamps, p.to, q.to) }

-- ---- sums, products

sum_within : (e f g h : Ends) → IsWithin e g → IsWithin f h → IsWithin (sum_of e f) (sum_of g h)
sum_within e f g h p q = record { from = omega (arith, ints, p.from, q.from); to = omega (arith, ints, p.to, q.to) }

negation_within : (e g : Ends) → IsWithin e g → IsWithin (negation_of e) (negation_of g)
negation_within e g p = record { from = omega (arith, ints, p.to); to = omega (arith, ints, p.from) }

product_within : (e f g h : Ends) → IsOrdered e → IsOrdered f → IsWithin e g → IsWithin f h → IsWithin (product_of e f) (product_of g h)
product_within e f g h o r p q =
    let low_e = low_end e g o p in
    let high_e = high_end e g o p in
    let low_f = low_end f h r q in
    let high_f = high_end f h r q in
    hull_within (between (e.0 *ℤ f.0) (e.0 *ℤ f.1)) (between (e.1 *ℤ f.0) (e.1 *ℤ f.1)) (product_of g h)
    (between_within (e.0 *ℤ f.0) (e.0 *ℤ f.1) (product_of g h) (product_of-encloses g h e.0 f.0 low_e low_f) (product_of-encloses g h e.0 f.1 low_e high_f))
    (between_within (e.1 *ℤ f.0) (e.1 *ℤ f.1) (product_of g h) (product_of-encloses g h e.1 f.0 high_e low_f) (product_of-encloses g h e.1 f.1 high_e high_f))

-- ---- quotients

record IsDivisor (f : Ends) (d : ℤ) : Type 0 where
  nonzero : d ≢ pos 0
  from : f.0 ≤ℤ d
  to : d ≤ℤ f.1

divisor_is : (f : Ends) (d : ℤ) → is_divisor f d ≡ true → IsDivisor f d
divisor_is f d h = by (nat_eq (unsigned_abs d) 0) (int_le f.0 d) (int_le d f.1) refl refl refl h
  where
    zero_is : d ≡ pos 0 → nat_eq (unsigned_abs d) 0 ≡ true
    zero_is e = ap (λ x. nat_eq (unsigned_abs x) 0) e

    by : (z l m : Bool) → nat_eq (unsigned_abs d) 0 ≡ z → int_le f.0 d ≡ l → int_le d f.1 ≡ m → not z && (l && m) ≡ true → IsDivisor f d
    by true l m p q r k = cc
    by false false m p q r k = cc
    by false true false p q r k = cc
    by false true true p q r k = record { nonzero = λ e. let other = zero_is e in cc; from = grind (arith, ints); to = grind (arith, ints) }

abbrev SomeWithin : Option Ends → Ends → Type 0
SomeWithin None g = Unit {0}
SomeWithin (Some e) g = IsWithin e g

hull_of_some_within : (a b : Option Ends) (g : Ends) → SomeWithin a g → SomeWithin b g → SomeWithin (hull_of_some a b) g
hull_of_some_within None b g p q = q
hull_of_some_within (Some e) None g p q = p
hull_of_some_within (Some e) (Some f) g p q = hull_within e f g p q

some_left : (a b : Option Ends) → IsSome a → IsSome (hull_of_some a b)
some_left None b h = cc
some_left (Some e) None h = refl
some_left (Some e) (Some f) h = refl

some_right : (a b : Option Ends) → IsSome b → IsSome (hull_of_some a b)
some_right None b h = h
some_right (Some e) None h = cc
some_right (Some e) (Some f) h = refl

there_within : (a : Option Ends) (d g : Ends) → IsSome a → SomeWithin a g → IsWithin (unwrap_or a d) g
there_within None d g h p = cc
there_within (Some e) d g h p = p

module _ (e f g h : Ends) (o : IsOrdered e) (p : IsWithin e g) (q : IsWithin f h) where
  quotients_within : (d : ℤ) → SomeWithin (quotients_by e f d) (quotient_of g h)
  quotients_within d = by (is_divisor f d) refl
    where
      by : (b : Bool) → is_divisor f d ≡ b → SomeWithin (cond b (Some (between (int_div e.0 d) (int_div e.1 d))) None) (quotient_of g h)
      by true k =
          let s = divisor_is f d k in
          let inside : Encloses h d = record { from = omega (arith, ints, q.from, s.from); to = omega (arith, ints, q.to, s.to) } in
          between_within (int_div e.0 d) (int_div e.1 d) (quotient_of g h) (quotient_of-encloses g h e.0 d (low_end e g o p) inside s.nonzero) (quotient_of-encloses g h e.1 d (high_end e g o p) inside s.nonzero)
      by false k = tt

  divides : (d : ℤ) → d ≢ pos 0 → f.0 ≤ℤ d → d ≤ℤ f.1 → IsSome (quotients_by e f d)
  divides d n l m = ap (λ b. is_some (cond b (Some (between (int_div e.0 d) (int_div e.1 d))) None)) (is_divisor_is f d n l m)

abbrev first_two : Ends → Ends → Option Ends
first_two e f = hull_of_some (quotients_by e f f.0) (quotients_by e f f.1)

zero_or_not : (x : ℤ) → (x ≡ pos 0) ⊎ (x ≢ pos 0)
zero_or_not x = by (int_eq x (pos 0)) refl
  where
    by : (b : Bool) → int_eq x (pos 0) ≡ b → (x ≡ pos 0) ⊎ (x ≢ pos 0)
    by true h = inl (grind (arith, ints))
    by false h = inr (λ e. let other : int_eq x (pos 0) ≡ true = ap (λ y. int_eq y (pos 0)) e in cc)

some_quotient : (e f g h : Ends) → IsOrdered e → IsOrdered f → IsWithin e g → IsWithin f h → MayDivide f → IsSome (first_two e f)
some_quotient e f g h o r p q may = elim (zero_or_not f.0) [
  | inl z ↦ some_right (quotients_by e f f.0) (quotients_by e f f.1) (divides e f g h o p q f.1 (may z) r (omega (arith, ints)))
  | inr n ↦ some_left (quotients_by e f f.0) (quotients_by e f f.1) (divides e f g h o p q f.0 n (omega (arith, ints)) r)
]

quotient_within : (e f g h : Ends) → IsOrdered e → IsOrdered f → IsWithin e g → IsWithin f h → MayDivide f → IsWithin (quotient_of e f) (quotient_of g h)
quotient_within e f g h o r p q may =
    let q_of = quotients_within e f g h o p q in
    let ends = hull_of_some_within (quotients_by e f f.0) (quotients_by e f f.1) (quotient_of g h) (q_of f.0) (q_of f.1) in
    let units = hull_of_some_within (quotients_by e f (pos 1)) (quotients_by e f (neg_ℤ (pos 1))) (quotient_of g h) (q_of (pos 1)) (q_of (neg_ℤ (pos 1))) in
    there_within _ (pos 0, pos 0) (quotient_of g h) (some_left (first_two e f) _ (some_quotient e f g h o r p q may)) (hull_of_some_within (first_two e f) _ (quotient_of g h) ends units)

-- ---- remainders

from_within : (l k m n : ℤ) → l ≤ℤ k → n ≤ℤ m → pos 0 ≤ℤ m → remainder_from l m ≤ℤ remainder_from k n
from_within l k m n h j z = by (int_le (pos 0) k) (int_le (pos 0) l) refl refl
  where
    by : (s t : Bool) → int_le (pos 0) k ≡ s → int_le (pos 0) l ≡ t → cond t (pos 0) (int_max l (neg_ℤ m)) ≤ℤ cond s (pos 0) (int_max k (neg_ℤ n))
    by true true p q = omega (arith, ints)
    by true false p q = let low : l ≤ℤ pos 0 = grind (arith, ints) in omega (arith, ints, clamps)
    by false true p q = let one : pos 0 ≤ℤ l = grind (arith, ints) in let two : k ≤ℤ pos 0 = grind (arith, ints) in omega (arith, ints, clamps)
    by false false p q = omega (arith, ints, clamps)

to_within : (l k m n : ℤ) → k ≤ℤ l → n ≤ℤ m → pos 0 ≤ℤ m → remainder_to k n ≤ℤ remainder_to l m
to_within l k m n h j z = by (int_le k (pos 0)) (int_le l (pos 0)) refl refl
  where
    by : (s t : Bool) → int_le k (pos 0) ≡ s → int_le l (pos 0) ≡ t → cond s (pos 0) (int_min k n) ≤ℤ cond t (pos 0) (int_min l m)
    by true true p q = omega (arith, ints)
    by true false p q = let low : pos 0 ≤ℤ l = grind (arith, ints) in omega (arith, ints, clamps)
    by false true p q = let one : pos 0 ≤ℤ k = grind (arith, ints) in let two : l ≤ℤ pos 0 = grind (arith, ints) in omega (arith, ints, clamps)
    by false false p q = omega (arith, ints, clamps)

magnitude_within : (f h : Ends) → IsOrdered f → IsWithin f h → magnitude_of f ≤ magnitude_of h
magnitude_within f h o w = omega (arith, ints, w.from, w.to)

remainder_within : (e f g h : Ends) → IsOrdered f → IsWithin e g → IsWithin f h → IsWithin (remainder_of e f) (remainder_of g h)
remainder_within e f g h o p q = by (nat_eq (magnitude_of f) 0) (nat_eq (magnitude_of h) 0) refl refl
  where
    less : magnitude_of f ≤ magnitude_of h
    less = magnitude_within f h o q

    by : (s t : Bool) → nat_eq (magnitude_of f) 0 ≡ s → nat_eq (magnitude_of h) 0 ≡ t → IsWithin (cond s (pos 0, pos 0) (remainders_below e (magnitude_of f))) (cond t (pos 0, pos 0) (remainders_below g (magnitude_of h)))
    by true true i j = within_same (pos 0, pos 0)
    by true false i j = record {
      from = remainder_from-le g.0 (pos (magnitude_of h - 1)) (omega (arith, ints));
      to = remainder_to-ge g.1 (pos (magnitude_of h - 1)) (omega (arith, ints));
    }
    by false true i j =
        let none : magnitude_of h ≡ 0 = eqb-true (magnitude_of h) 0 j in
        let zero : magnitude_of f ≡ 0 = omega (arith, less) in
        let other : nat_eq (magnitude_of f) 0 ≡ true = ap (λ n. nat_eq n 0) zero in
        absurd (cc)
    by false false i j = record {
      from = from_within g.0 e.0 (pos (magnitude_of h - 1)) (pos (magnitude_of f - 1)) p.from (omega (arith, ints, less)) (omega (arith, ints));
      to = to_within g.1 e.1 (pos (magnitude_of h - 1)) (pos (magnitude_of f - 1)) p.to (omega (arith, ints, less)) (omega (arith, ints));
    }

-- ---- all operations

toward_within : (side : Side) (e f g h : Ends) → IsWithin e g → IsWithin f h → IsWithin (toward_ends side e f) (toward_ends side g h)
unfolding toward_ends toward
toward_within Least e f g h p q = record { from = omega (arith, ints, clamps, p.from, q.from); to = omega (arith, ints, clamps, p.to, q.to) }
toward_within Greatest e f g h p q = record { from = omega (arith, ints, clamps, p.from, q.from); to = omega (arith, ints, clamps, p.to, q.to) }

pub arith_is_monotone : ArithIsMonotone
unfolding arith_ends
arith_is_monotone Add e f g h o r p q d = sum_within e f g h p q
arith_is_monotone Sub e f g h o r p q d = sum_within e (negation_of f) g (negation_of h) p (negation_within f h q)
arith_is_monotone Mul e f g h o r p q d = product_within e f g h o r p q
arith_is_monotone Div e f g h o r p q d = quotient_within e f g h o r p q (d refl)
arith_is_monotone Mod e f g h o r p q d = remainder_within e f g h r p q
arith_is_monotone Min e f g h o r p q d = toward_within Least e f g h p q
arith_is_monotone Max e f g h o r p q d = toward_within Greatest e f g h p q

pub sign_is_monotone : SignIsMonotone
unfolding sign_ends
sign_is_monotone Plus e g p = p
sign_is_monotone Minus e g p = negation_within e g p
sign_is_monotone Abs e g p = record { from = omega (arith, ints, clamps, p.from, p.to); to = omega (arith, ints, clamps, p.from, p.to) }

extreme_from_within : (side : Side) (e g : Ends) (es gs : List Ends) → IsWithin e g → AreWithin es gs → IsWithin (extreme_from side e es) (extreme_from side g gs)
unfolding extreme_from
extreme_from_within side e g [] [] p all = p
extreme_from_within side e g [] (h ∷ gs) p all = absurd all
extreme_from_within side e g (f ∷ es) [] p all = absurd all
extreme_from_within side e g (f ∷ es) (h ∷ gs) p all = extreme_from_within side (toward_ends side e f) (toward_ends side g h) es gs (toward_within side e f g h p all.0) all.1

pub extreme_is_monotone : ExtremeIsMonotone
extreme_is_monotone side [] [] all = within_same nothing
extreme_is_monotone side [] (g ∷ gs) all = absurd all
extreme_is_monotone side (e ∷ es) [] all = absurd all
extreme_is_monotone side (e ∷ es) (g ∷ gs) all = extreme_from_within side e g es gs all.0 all.1

hulls_within : (e f g h : Ends) → IsWithin e g → IsWithin f h → IsWithin (hull_of e f) (hull_of g h)
hulls_within e f g h p q = record { from = omega (arith, ints, clamps, p.from, q.from); to = omega (arith, ints, clamps, p.to, q.to) }

hull_from_within : (e g : Ends) (es gs : List Ends) → IsWithin e g → AreWithin es gs → IsWithin (hull_from e es) (hull_from g gs)
hull_from_within e g [] [] p all = p
hull_from_within e g [] (h ∷ gs) p all = absurd all
hull_from_within e g (f ∷ es) [] p all = absurd all
hull_from_within e g (f ∷ es) (h ∷ gs) p all = hull_from_within (hull_of e f) (hull_of g h) es gs (hulls_within e f g h p all.0) all.1

pub hull_is_monotone : HullIsMonotone
hull_is_monotone [] [] all = within_same nothing
hull_is_monotone [] (g ∷ gs) all = absurd all
hull_is_monotone (e ∷ es) [] all = absurd all
hull_is_monotone (e ∷ es) (g ∷ gs) all = hull_from_within e g es gs all.0 all.1
