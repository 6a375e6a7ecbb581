-- Loops over sums that look for the first bound outside the limit.
use Rattle.std.proofs.Common.{◌≡◌, ℕ, suc, ◌+◌, ◌-◌, ◌<◌, ◌≤◌, ℤ, List, [], ◌∷◌, length, get_or, take, drop, map, refl, sym, ap, ◌∙◌, arith}
use Rattle.std.proofs.lemmas.List.{at_drop_more, at_drop_all}
use Rattle.std.specs.Prelude.{Option, Some, None}
use Rattle.std.specs.Option.{option_or}
use Rattle.mz_interval.specs.Ends.{Ends}
use Rattle.mz_interval.specs.Rows.{sum_of}
use Rattle.mz_globals.specs.Lists.{windows_from}
use Rattle.mz_globals.specs.Givens.{outside, first_outside, sums_of, whole}
use Rattle.glob_count.proofs.WindowLists.{at_turn}

-- ---- sums of two elements

sums_turn : (es fs : List Ends) (k : ℕ) (d f : Ends) → k < length es → k < length fs → first_outside (sums_of (drop k es) (drop k fs)) ≡ option_or (outside (sum_of (get_or es k d) (get_or fs k f))) (first_outside (sums_of (drop (k + 1) es) (drop (k + 1) fs)))
sums_turn es fs k d f l m =
    at_drop_more (λ zs. first_outside (sums_of zs (drop k fs))) es k d l ∙ at_drop_more (λ zs. first_outside (sums_of (get_or es k d ∷ drop (k + 1) es) zs)) fs k f m

pub sum_found : (es fs : List Ends) (k : ℕ) (d f : Ends) (n : ℤ) (all : Option ℤ) → k < length es → k < length fs → outside (sum_of (get_or es k d) (get_or fs k f)) ≡ Some n → first_outside (sums_of (drop k es) (drop k fs)) ≡ all → Some n ≡ all
sum_found es fs k d f n all l m e w = sym (sums_turn es fs k d f l m ∙ ap (λ o. option_or o (first_outside (sums_of (drop (k + 1) es) (drop (k + 1) fs)))) e) ∙ w

pub sum_passed : (es fs : List Ends) (k : ℕ) (d f : Ends) (all : Option ℤ) → k < length es → k < length fs → outside (sum_of (get_or es k d) (get_or fs k f)) ≡ None → first_outside (sums_of (drop k es) (drop k fs)) ≡ all → first_outside (sums_of (drop (k + 1) es) (drop (k + 1) fs)) ≡ all
sum_passed es fs k d f all l m e w = sym (sums_turn es fs k d f l m ∙ ap (λ o. option_or o (first_outside (sums_of (drop (k + 1) es) (drop (k + 1) fs)))) e) ∙ w

none_beside : (es : List Ends) → first_outside (sums_of es []) ≡ None
none_beside [] = refl
none_beside (e ∷ es) = refl

pub no_first : (es fs : List Ends) (k : ℕ) (all : Option ℤ) → length es ≤ k → first_outside (sums_of (drop k es) (drop k fs)) ≡ all → None ≡ all
no_first es fs k all l w = sym (at_drop_all (λ zs. first_outside (sums_of zs (drop k fs))) es k l) ∙ w

pub no_second : (es fs : List Ends) (k : ℕ) (all : Option ℤ) → length fs ≤ k → first_outside (sums_of (drop k es) (drop k fs)) ≡ all → None ≡ all
no_second es fs k all l w = sym (at_drop_all (λ zs. first_outside (sums_of (drop k es) zs)) fs k l ∙ none_beside (drop k es)) ∙ w

-- ---- sums of consecutive elements

abbrev of_windows : ℕ → ℕ → List Ends → Option ℤ
of_windows n size es = first_outside (map whole (windows_from n size es))

window_turn : (n k size : ℕ) (es : List Ends) → k < n → of_windows (n - k) size (drop k es) ≡ option_or (outside (whole (take (k + size - k) (drop k es)))) (of_windows (n - (k + 1)) size (drop (k + 1) es))
window_turn n k size es l =
    let same : size ≡ k + size - k = omega arith in
    ap (λ ws. first_outside (map whole ws)) (at_turn n k size es l) ∙ ap (λ m. option_or (outside (whole (take m (drop k es)))) (of_windows (n - (k + 1)) size (drop (k + 1) es))) same

pub window_found : (n k size : ℕ) (es : List Ends) (b : ℤ) (all : Option ℤ) → k < n → outside (whole (take (k + size - k) (drop k es))) ≡ Some b → first_outside (map whole (windows_from (n - k) size (drop k es))) ≡ all → Some b ≡ all
window_found n k size es b all l e w = sym (window_turn n k size es l ∙ ap (λ o. option_or o (of_windows (n - (k + 1)) size (drop (k + 1) es))) e) ∙ w

pub window_passed : (n k size : ℕ) (es : List Ends) (all : Option ℤ) → k < n → outside (whole (take (k + size - k) (drop k es))) ≡ None → first_outside (map whole (windows_from (n - k) size (drop k es))) ≡ all → first_outside (map whole (windows_from (n - (k + 1)) size (drop (k + 1) es))) ≡ all
window_passed n k size es all l e w = sym (window_turn n k size es l ∙ ap (λ o. option_or o (of_windows (n - (k + 1)) size (drop (k + 1) es))) e) ∙ w

pub windows_passed : (n k size : ℕ) (es : List Ends) (all : Option ℤ) → n ≤ k → first_outside (map whole (windows_from (n - k) size (drop k es))) ≡ all → None ≡ all
windows_passed n k size es all l w =
    let none : n - k ≡ 0 = omega (arith, l) in
    sym (ap (λ m. of_windows m size (drop k es)) none) ∙ w

-- none is longer than the list
pub none_longer : (size : ℕ) (es : List Ends) → length es < size → first_outside (map whole (windows_from (suc (length es) - size) size es)) ≡ None
none_longer size es l =
    let none : suc (length es) - size ≡ 0 = omega (arith, l) in
    ap (λ m. of_windows m size es) none
