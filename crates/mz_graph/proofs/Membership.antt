-- Numbers in lists, and lists with more at their end.
use Rattle.std.proofs.Common.{◌≡◌, ℕ, zero, suc, ◌+◌, ◌<◌, ◌≤◌, ◌⊎◌, inl, inr, List, [], ◌∷◌, ◌++◌, refl, ap, sym, arith, length, get_or, drop}
use Rattle.mz_graph.specs.Graph.{IsIn}

pub below_or_not : (j k : ℕ) → (j < k) ⊎ (k ≤ j)
below_or_not j zero = inr (omega arith)
below_or_not zero (suc k) = inl (omega arith)
below_or_not (suc j) (suc k) = elim (below_or_not j k) [ inl h ↦ inl (omega arith) | inr h ↦ inr (omega arith) ]

pub same_or_not : (j k : ℕ) → (j ≡ k) ⊎ (j ≡ k → ⊥)
same_or_not j k = elim (below_or_not j k) [
  | inl h ↦ inr (λ e. absurd (omega arith))
  | inr h ↦ elim (below_or_not k j) [ inl g ↦ inr (λ e. absurd (omega arith)) | inr g ↦ inl (omega arith) ]
]

pub in_or_not : (x : ℕ) (xs : List ℕ) → IsIn x xs ⊎ (IsIn x xs → ⊥)
in_or_not x [] = inr (λ h. h)
in_or_not x (y ∷ ys) = elim (same_or_not x y) [
  | inl e ↦ inl (inl e)
  | inr n ↦ elim (in_or_not x ys) [ inl h ↦ inl (inr h) | inr m ↦ inr (λ h. elim h [ inl e ↦ n e | inr t ↦ m t ]) ]
]

pub in_front : (x : ℕ) (xs ys : List ℕ) → IsIn x xs → IsIn x (xs ++ ys)
in_front x [] ys h = absurd h
in_front x (y ∷ xs) ys h = elim h [ inl e ↦ inl e | inr t ↦ inr (in_front x xs ys t) ]

pub in_back : (x : ℕ) (xs ys : List ℕ) → IsIn x ys → IsIn x (xs ++ ys)
in_back x [] ys h = h
in_back x (y ∷ xs) ys h = inr (in_back x xs ys h)

pub in_either : (x : ℕ) (xs ys : List ℕ) → IsIn x (xs ++ ys) → IsIn x xs ⊎ IsIn x ys
in_either x [] ys h = inr h
in_either x (y ∷ xs) ys h = elim h [
  | inl e ↦ inl (inl e)
  | inr t ↦ elim (in_either x xs ys t) [ inl a ↦ inl (inr a) | inr b ↦ inr b ]
]

pub in_last : (x : ℕ) (xs : List ℕ) → IsIn x (xs ++ x ∷ [])
in_last x xs = in_back x xs (x ∷ []) (inl refl)

pub old_or_last : (x y : ℕ) (xs : List ℕ) → IsIn x (xs ++ y ∷ []) → IsIn x xs ⊎ (x ≡ y)
old_or_last x y xs h = elim (in_either x xs (y ∷ []) h) [
  | inl a ↦ inl a
  | inr b ↦ elim b [ inl e ↦ inr e | inr n ↦ absurd n ]
]

pub in_at : (xs : List ℕ) (k d : ℕ) → k < length xs → IsIn (get_or xs k d) xs
in_at [] k d h = absurd (omega arith)
in_at (x ∷ xs) zero d h = inl refl
in_at (x ∷ xs) (suc k) d h = inr (in_at xs k d (omega arith))

pub in_rest : (xs : List ℕ) (k d : ℕ) → k < length xs → IsIn (get_or xs k d) (drop k xs)
in_rest [] k d h = absurd (omega arith)
in_rest (x ∷ xs) zero d h = inl refl
in_rest (x ∷ xs) (suc k) d h = in_rest xs k d (omega arith)

-- a place where a number of the list is
pub record Place (x : ℕ) (xs : List ℕ) : Type 0 where
  pub at : ℕ
  pub within : at < length xs
  pub is : (d : ℕ) → get_or xs at d ≡ x

pub place_of : (x : ℕ) (xs : List ℕ) → IsIn x xs → Place x xs
place_of x [] h = absurd h
place_of x (y ∷ xs) h = elim h [
  | inl e ↦ record { at = 0; within = omega arith; is = λ d. sym e }
  | inr t ↦ let p = place_of x xs t in record { at = suc p.at; within = omega arith; is = λ d. p.is d }
]

pub one_longer : (xs : List ℕ) (y : ℕ) → length (xs ++ y ∷ []) ≡ length xs + 1
one_longer [] y = refl
one_longer (x ∷ xs) y = let r = one_longer xs y in omega arith

pub both_long : (xs ys : List ℕ) → length (xs ++ ys) ≡ length xs + length ys
both_long [] ys = omega arith
both_long (x ∷ xs) ys = let r = both_long xs ys in omega arith

pub item_in_front : (xs ys : List ℕ) (i : ℕ) → i < length xs → get_or (xs ++ ys) i 0 ≡ get_or xs i 0
item_in_front [] ys i h = absurd (omega arith)
item_in_front (x ∷ xs) ys zero h = refl
item_in_front (x ∷ xs) ys (suc i) h = item_in_front xs ys i (omega arith)

pub item_in_back : (xs ys : List ℕ) (i j : ℕ) → i ≡ length xs + j → get_or (xs ++ ys) i 0 ≡ get_or ys j 0
item_in_back [] ys i j e = let f : i ≡ j = omega arith in ap (λ z. get_or ys z 0) f
item_in_back (x ∷ xs) ys zero j e = absurd (omega arith)
item_in_back (x ∷ xs) ys (suc i) j e = item_in_back xs ys i j (omega arith)

pub last_item : (xs : List ℕ) (y i : ℕ) → i ≡ length xs → get_or (xs ++ y ∷ []) i 0 ≡ y
last_item xs y i e = item_in_back xs (y ∷ []) i 0 (omega arith)

pub front_or_last : (xs : List ℕ) (y i : ℕ) → i < length (xs ++ y ∷ []) → (i < length xs) ⊎ (i ≡ length xs)
front_or_last xs y i h =
    let l = one_longer xs y in
    elim (below_or_not i (length xs)) [ inl a ↦ inl a | inr b ↦ inr (omega arith) ]
