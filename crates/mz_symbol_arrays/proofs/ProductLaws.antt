-- Products of integers, and powers from halves.
use Rattle.std.proofs.Common.{◌≡◌, ◌∙◌, ℕ, zero, suc, ◌+◌, ◌*◌, ℤ, pos, negsuc, neg_ℤ, refl, sym, ap, arith, mul_assoc}
use Rattle.std.proofs.lemmas.Int.{ints}
use Rattle.std.proofs.Math.IntN.{◌*ℤ◌, *ℤ_comm, *ℤ-one, zero-*ℤ}
use Rattle.mz_meaning.specs.Exact.{powered}

twice_negative : (x : ℤ) → neg_ℤ (neg_ℤ x) ≡ x
twice_negative x = omega (arith, ints)

negative_left : (x y : ℤ) → neg_ℤ x *ℤ y ≡ neg_ℤ (x *ℤ y)
negative_left (pos zero) y = zero-*ℤ y ∙ sym (ap neg_ℤ (zero-*ℤ y))
negative_left (pos (suc m)) (pos n) = refl
negative_left (pos (suc m)) (negsuc n) = sym (twice_negative (pos (suc m * suc n)))
negative_left (negsuc m) (pos n) = sym (twice_negative (pos (suc m * n)))
negative_left (negsuc m) (negsuc n) = refl

negative_right : (x y : ℤ) → x *ℤ neg_ℤ y ≡ neg_ℤ (x *ℤ y)
negative_right x y = *ℤ_comm x (neg_ℤ y) ∙ negative_left y x ∙ ap neg_ℤ (*ℤ_comm y x)

abbrev IsAssociative : ℤ → ℤ → ℤ → Type 0
IsAssociative x y z = (x *ℤ y) *ℤ z ≡ x *ℤ (y *ℤ z)

first_negative : (x y z : ℤ) → IsAssociative x y z → IsAssociative (neg_ℤ x) y z
first_negative x y z h = ap (λ w. w *ℤ z) (negative_left x y) ∙ negative_left (x *ℤ y) z ∙ ap neg_ℤ h ∙ sym (negative_left x (y *ℤ z))

second_negative : (x y z : ℤ) → IsAssociative x y z → IsAssociative x (neg_ℤ y) z
second_negative x y z h = ap (λ w. w *ℤ z) (negative_right x y) ∙ negative_left (x *ℤ y) z ∙ ap neg_ℤ h ∙ sym (negative_right x (y *ℤ z)) ∙ ap (λ w. x *ℤ w) (sym (negative_left y z))

third_negative : (x y z : ℤ) → IsAssociative x y z → IsAssociative x y (neg_ℤ z)
third_negative x y z h = negative_right (x *ℤ y) z ∙ ap neg_ℤ h ∙ sym (negative_right x (y *ℤ z)) ∙ ap (λ w. x *ℤ w) (sym (negative_right y z))

associative_pos : (a b c : ℕ) → IsAssociative (pos a) (pos b) (pos c)
associative_pos a b c = ap (λ n. pos n) (mul_assoc a b c)

third : (a b : ℕ) (z : ℤ) → IsAssociative (pos a) (pos b) z
third a b (pos c) = associative_pos a b c
third a b (negsuc c) = third_negative (pos a) (pos b) (pos (suc c)) (associative_pos a b (suc c))

second : (a : ℕ) (y z : ℤ) → IsAssociative (pos a) y z
second a (pos b) z = third a b z
second a (negsuc b) z = second_negative (pos a) (pos (suc b)) z (third a (suc b) z)

pub associative : (x y z : ℤ) → IsAssociative x y z
associative (pos a) y z = second a y z
associative (negsuc a) y z = first_negative (pos (suc a)) y z (second (suc a) y z)

-- ---- powers

times_one : (x : ℤ) → x *ℤ pos 1 ≡ x
unfolding lib.IntN.one
times_one x = *ℤ-one x

one_times : (x : ℤ) → pos 1 *ℤ x ≡ x
one_times x = *ℤ_comm (pos 1) x ∙ times_one x

power_next : (x : ℤ) (n : ℕ) → powered x (suc n) ≡ powered x n *ℤ x
unfolding powered
power_next x n = refl

power_none : (x : ℤ) → powered x 0 ≡ pos 1
unfolding powered
power_none x = refl

pub power_one : (x : ℤ) → powered x 1 ≡ x
power_one x = power_next x 0 ∙ ap (λ y. y *ℤ x) (power_none x) ∙ one_times x

power_sum : (x : ℤ) (m n : ℕ) → powered x (m + n) ≡ powered x m *ℤ powered x n
power_sum x m zero =
    let same : m + 0 ≡ m = omega arith in
    ap (powered x) same ∙ sym (times_one (powered x m)) ∙ ap (λ y. powered x m *ℤ y) (sym (power_none x))
power_sum x m (suc n) =
    let next : m + suc n ≡ suc (m + n) = omega arith in
    ap (powered x) next
    ∙ power_next x (m + n)
    ∙ ap (λ y. y *ℤ x) (power_sum x m n)
    ∙ associative (powered x m) (powered x n) x
    ∙ ap (λ y. powered x m *ℤ y) (sym (power_next x n))

pub power_even : (x : ℤ) (k h : ℕ) → k ≡ h + h → powered x h *ℤ powered x h ≡ powered x k
power_even x k h e = sym (power_sum x h h) ∙ ap (powered x) (sym e)

pub power_odd : (x : ℤ) (k h : ℕ) → k ≡ suc (h + h) → (powered x h *ℤ powered x h) *ℤ x ≡ powered x k
power_odd x k h e = ap (λ y. y *ℤ x) (sym (power_sum x h h)) ∙ sym (power_next x (h + h)) ∙ ap (powered x) (sym e)
