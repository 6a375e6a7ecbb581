-- Arithmetic on the numbers of nodes. It stands in lemmas over plain numbers, since a tactic that is called among the facts of
-- graphs reads them all.
use Rattle.std.proofs.Common.{◌≡◌, ℕ, ◌+◌, ◌-◌, ◌<◌, ◌≤◌, ap, sym, ◌∙◌, subst, arith}

pub both_are : (n a b c d : ℕ) → n ≡ a + b → a ≡ c → b ≡ d → n ≡ c + d
both_are n a b c d p q r = p ∙ ap (λ z. z + b) q ∙ ap (λ z. c + z) r

pub below_same : (y b n : ℕ) → y < b → n ≡ b → y < n
below_same y b n l p = subst (λ z. y < z) (sym p) l

pub past_same : (x b n : ℕ) → b ≤ x → n ≡ b → n ≤ x
past_same x b n l p = subst (λ z. z ≤ x) (sym p) l

pub below_first : (y b c n : ℕ) → y < b → n ≡ b + c → y < n
below_first y b c n l p = omega (arith, l, p)

pub below_front : (y a b c n : ℕ) → y < a → n ≡ (a + b) + c → y < n
below_front y a b c n l p = omega (arith, l, p)

pub below_second : (y b e c n : ℕ) → y ≡ b + e → e < c → n ≡ b + c → y < n
below_second y b e c n i l p = omega (arith, i, l, p)

pub below_sum : (a b c n : ℕ) → b < c → n ≡ a + c → a + b < n
below_sum a b c n l p = omega (arith, l, p)

-- a number that isn't below another one is that one with the rest
pub rest_added : (n x : ℕ) → n ≤ x → n + (x - n) ≡ x
rest_added n x l = omega (arith, l)

pub rest_behind : (x n m : ℕ) → m ≡ n → n ≤ x → x ≡ m + (x - n)
rest_behind x n m p l = sym (rest_added n x l) ∙ ap (λ z. z + (x - n)) (sym p)

pub rest_below : (x n c m : ℕ) → n ≤ x → x < m → m ≡ n + c → x - n < c
rest_below x n c m l h p = omega (arith, l, h, p)

pub first_within : (a b : ℕ) → a ≤ a + b
first_within a b = omega arith

pub nothing_added : (e : ℕ) → 0 + e ≡ e
nothing_added e = omega arith
