-- What holds of each item of a list, one by one.
use Rattle.std.proofs.Common.{◌≡◌, ℕ, zero, suc, ◌+◌, List, [], ◌∷◌, Some, slice_get, subst, arith}

abbrev pub EachFrom : {A : Type 0} → (ℕ → A → Type 0) → ℕ → List A → Type 0
EachFrom P k [] = Unit {0}
EachFrom P k (x ∷ xs) = P k x × EachFrom P (suc k) xs

item_from : {A : Type 0} (P : ℕ → A → Type 0) (xs : List A) (k i : ℕ) (x : A) → EachFrom P k xs → slice_get xs i ≡ Some x → P (k + i) x
item_from P [] k i x each at = absurd (cc)
item_from P (y ∷ xs) k zero x each at =
    let same : y ≡ x = cc in
    subst (λ k. P k x) (omega arith) (subst (P k) same each.0)
item_from P (y ∷ xs) k (suc i) x each at = subst (λ k. P k x) (omega arith) (item_from P xs (suc k) i x each.1 at)

pub each_at : {A : Type 0} (P : ℕ → A → Type 0) (xs : List A) → EachFrom P 0 xs → (i : ℕ) (x : A) → slice_get xs i ≡ Some x → P i x
each_at P xs each i x at = subst (λ k. P k x) (omega arith) (item_from P xs 0 i x each at)
