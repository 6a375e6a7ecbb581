-- Two lists side by side, one place more.
use Rattle.std.proofs.Common.{◌≡◌, ◌∙◌, ℕ, zero, suc, ◌<◌, ◌≤◌, min, List, [], ◌∷◌, ◌++◌, length, drop, zip, slice_index_or, refl, sym, ap, arith, append-nil, append_assoc}
use Rattle.glob_nodes.proofs.Telling.{drop_at}

zip_none : {A B : Type 0} (xs : List A) → zip {K = A} {X = B} xs [] ≡ []
zip_none [] = refl
zip_none (x ∷ xs) = refl

pub zip_over : {A B : Type 0} (xs : List A) (ys : List B) (k : ℕ) → min (length xs) (length ys) ≤ k → zip (drop k xs) (drop k ys) ≡ []
zip_over [] ys zero h = refl
zip_over [] ys (suc k) h = refl
zip_over (x ∷ xs) [] zero h = refl
zip_over (x ∷ xs) [] (suc k) h = zip_none (drop k xs)
zip_over (x ∷ xs) (y ∷ ys) zero h = absurd (omega (arith, h))
zip_over (x ∷ xs) (y ∷ ys) (suc k) h = zip_over xs ys k (omega (arith, h))

pub zip_step : {A B : Type 0} (d x : A) (e y : B) (xs : List A) (ys : List B) (k : ℕ) → k < length xs → k < length ys → x ≡ slice_index_or xs k d → y ≡ slice_index_or ys k e → zip (drop k xs) (drop k ys) ≡ (x, y) ∷ zip (drop (suc k) xs) (drop (suc k) ys)
zip_step d x e y xs ys k h g p q = ap (λ us. zip us (drop k ys)) (drop_at d x xs k h p) ∙ ap (λ vs. zip (x ∷ drop (suc k) xs) vs) (drop_at e y ys k g q)

-- what is built, with what is left
pub zip_grows : {A B : Type 0} (ps qs whole : List (A × B)) (d x : A) (e y : B) (xs : List A) (ys : List B) (k j : ℕ) → qs ≡ ps ++ (x, y) ∷ [] → j ≡ suc k → k < length xs → k < length ys → x ≡ slice_index_or xs k d → y ≡ slice_index_or ys k e → ps ++ zip (drop k xs) (drop k ys) ≡ whole → qs ++ zip (drop j xs) (drop j ys) ≡ whole
zip_grows ps qs whole d x e y xs ys k j b i h g p q w =
    ap (λ i. qs ++ zip (drop i xs) (drop i ys)) i
    ∙ ap (λ rs. rs ++ zip (drop (suc k) xs) (drop (suc k) ys)) b
    ∙ append_assoc ps ((x, y) ∷ []) (zip (drop (suc k) xs) (drop (suc k) ys))
    ∙ ap (λ rs. ps ++ rs) (sym (zip_step d x e y xs ys k h g p q))
    ∙ w

pub zip_whole : {A B : Type 0} (ps whole : List (A × B)) (xs : List A) (ys : List B) (k : ℕ) → min (length xs) (length ys) ≤ k → ps ++ zip (drop k xs) (drop k ys) ≡ whole → ps ≡ whole
zip_whole ps whole xs ys k h w = sym (append-nil ps) ∙ ap (λ rs. ps ++ rs) (sym (zip_over xs ys k h)) ∙ w
