-- A loop over the lists of consecutive elements.
use Rattle.std.proofs.Common.{◌≡◌, ℕ, zero, suc, ◌+◌, ◌-◌, ◌<◌, ◌≤◌, List, [], ◌∷◌, length, take, drop, Bool, true, false, ◌&&◌, refl, sym, ap, ◌∙◌, arith}
use Rattle.std.specs.List.{list_all}
use Rattle.mz_globals.specs.Lists.{windows, windows_from}

drop_one : {A : Type 0} (k : ℕ) (xs : List A) → drop 1 (drop k xs) ≡ drop (suc k) xs
drop_one zero [] = refl
drop_one zero (x ∷ xs) = refl
drop_one (suc k) [] = refl
drop_one (suc k) (x ∷ xs) = drop_one k xs

pub at_turn : {A : Type 0} (n k size : ℕ) (xs : List A) → k < n → windows_from (n - k) size (drop k xs) ≡ take size (drop k xs) ∷ windows_from (n - (k + 1)) size (drop (k + 1) xs)
at_turn n k size xs l =
    let one : n - k ≡ suc (n - (k + 1)) = omega (arith, l) in
    let next : suc k ≡ k + 1 = omega arith in
    ap (λ m. windows_from m size (drop k xs)) one ∙ ap (λ ys. take size (drop k xs) ∷ windows_from (n - (k + 1)) size ys) (drop_one k xs ∙ ap (λ m. drop m xs) next)

-- as the code cuts a list out
as_cut : {A : Type 0} (test : List A → Bool) (k size : ℕ) (xs : List A) → test (take size (drop k xs)) ≡ test (take (k + size - k) (drop k xs))
as_cut test k size xs =
    let same : size ≡ k + size - k = omega arith in
    ap (λ m. test (take m (drop k xs))) same

pub window_fails : {A : Type 0} (test : List A → Bool) (n k size : ℕ) (xs : List A) (whole : Bool) → k < n → test (take (k + size - k) (drop k xs)) ≡ false → list_all test (windows_from (n - k) size (drop k xs)) ≡ whole → false ≡ whole
window_fails test n k size xs whole l e w =
    sym (ap (list_all test) (at_turn n k size xs l) ∙ ap (λ b. b && list_all test (windows_from (n - (k + 1)) size (drop (k + 1) xs))) (as_cut test k size xs ∙ e)) ∙ w

pub window_holds : {A : Type 0} (test : List A → Bool) (n k size : ℕ) (xs : List A) (whole : Bool) → k < n → test (take (k + size - k) (drop k xs)) ≡ true → list_all test (windows_from (n - k) size (drop k xs)) ≡ whole → list_all test (windows_from (n - (k + 1)) size (drop (k + 1) xs)) ≡ whole
window_holds test n k size xs whole l e w =
    sym (ap (list_all test) (at_turn n k size xs l) ∙ ap (λ b. b && list_all test (windows_from (n - (k + 1)) size (drop (k + 1) xs))) (as_cut test k size xs ∙ e)) ∙ w

pub windows_end : {A : Type 0} (test : List A → Bool) (n k size : ℕ) (xs : List A) (whole : Bool) → n ≤ k → list_all test (windows_from (n - k) size (drop k xs)) ≡ whole → true ≡ whole
windows_end test n k size xs whole l w =
    let none : n - k ≡ 0 = omega (arith, l) in
    sym (ap (λ m. list_all test (windows_from m size (drop k xs))) none) ∙ w

-- none is longer than the list
pub none_longer : {A : Type 0} (test : List A → Bool) (size : ℕ) (xs : List A) → length xs < size → list_all test (windows size xs) ≡ true
none_longer test size xs l =
    let none : suc (length xs) - size ≡ 0 = omega (arith, l) in
    ap (λ m. list_all test (windows_from m size xs)) none
