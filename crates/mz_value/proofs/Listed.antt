-- Elements with commas between them.
use Rattle.std.proofs.Common.{◌≡◌, ℕ, suc, List, [], ◌∷◌, ◌++◌, map, refl, sym, ap, ◌∙◌, append_assoc, arith}
use Rattle.std.proofs.lemmas.List.{map-append}
use Rattle.std.proofs.lemmas.List.Concat.{flat_map-append}
use Rattle.std.proofs.lemmas.Int.{ints}
use Rattle.std.specs.Prelude.{ℤ, pos, nat_abs, ◌+ℤ◌, ◌-ℤ◌, ◌<ℤ◌, codes}
use Rattle.std.specs.List.{flat_map}
use Rattle.mz_value.specs.Ranges.{Range}
use Rattle.mz_value.specs.Shown.{range_elements, numbers_from, listed}

-- texts with a comma before each
abbrev pub after_commas : List (List ℕ) → List ℕ
after_commas ts = flat_map (λ t. codes ", " ++ t) ts

after_commas-append : (f : ℤ → List ℕ) (xs ys : List ℤ) → after_commas (map f (xs ++ ys)) ≡ after_commas (map f xs) ++ after_commas (map f ys)
after_commas-append f xs ys = ap after_commas (map-append f xs ys) ∙ flat_map-append (λ t. codes ", " ++ t) (map f xs) (map f ys)

-- the integers above n up to hi, each with a comma before it
abbrev pub above : (ℤ → List ℕ) → ℤ → ℤ → List ℕ
above f n hi = after_commas (map f (numbers_from (n +ℤ pos 1) (nat_abs (hi -ℤ n))))

pub above_first : (f : ℤ → List ℕ) (r : Range) (old new : List ℕ) → new ≡ old ++ f r.0 → new ++ above f r.0 r.1 ≡ old ++ listed (map f (range_elements r))
unfolding range_elements
above_first f r old new step = ap (λ t. t ++ above f r.0 r.1) step ∙ append_assoc old (f r.0) (above f r.0 r.1)

above_next : (f : ℤ → List ℕ) (n m hi : ℤ) → n <ℤ hi → m ≡ n +ℤ pos 1 → above f n hi ≡ (codes ", " ++ f m) ++ above f m hi
above_next f n m hi below next =
    let count : nat_abs (hi -ℤ n) ≡ suc (nat_abs (hi -ℤ m)) = grind (arith, ints) in
    rw (count, next) refl

-- one integer more
pub above_more : (f : ℤ → List ℕ) (n m hi : ℤ) (old comma new whole : List ℕ) → n <ℤ hi → m ≡ n +ℤ pos 1 → comma ≡ old ++ codes ", " → new ≡ comma ++ f m → old ++ above f n hi ≡ whole → new ++ above f m hi ≡ whole
above_more f n m hi old comma new whole below next first second kept =
    ap (λ t. t ++ above f m hi) (second ∙ ap (λ t. t ++ f m) first ∙ append_assoc old (codes ", ") (f m)) ∙ append_assoc old (codes ", " ++ f m) (above f m hi) ∙ ap (λ t. old ++ t) (sym (above_next f n m hi below next)) ∙ kept

-- the ranges' elements, with a comma before each range
abbrev pub ranges_after_commas : (ℤ → List ℕ) → List Range → List ℕ
ranges_after_commas f rs = flat_map (λ r. codes ", " ++ listed (map f (range_elements r))) rs

elements_after : (f : ℤ → List ℕ) (rs : List Range) → after_commas (map f (flat_map range_elements rs)) ≡ ranges_after_commas f rs
unfolding range_elements
elements_after f [] = refl
elements_after f (r ∷ rs) =
    let count = nat_abs (r.1 -ℤ r.0) in
    let behind = numbers_from (r.0 +ℤ pos 1) count in
    let rest = flat_map range_elements rs in
    ap (λ t. (codes ", " ++ f r.0) ++ t) (after_commas-append f behind rest ∙ ap (λ t. after_commas (map f behind) ++ t) (elements_after f rs))
    ∙ sym (append_assoc (codes ", " ++ f r.0) (after_commas (map f behind)) (ranges_after_commas f rs))
    ∙ ap (λ t. t ++ ranges_after_commas f rs) (append_assoc (codes ", ") (f r.0) (after_commas (map f behind)))

pub listed_elements : (f : ℤ → List ℕ) (r : Range) (rs : List Range) → listed (map f (flat_map range_elements (r ∷ rs))) ≡ listed (map f (range_elements r)) ++ ranges_after_commas f rs
unfolding range_elements
listed_elements f r rs =
    let behind = numbers_from (r.0 +ℤ pos 1) (nat_abs (r.1 -ℤ r.0)) in
    let rest = flat_map range_elements rs in
    ap (λ t. f r.0 ++ t) (after_commas-append f behind rest ∙ ap (λ t. after_commas (map f behind) ++ t) (elements_after f rs))
    ∙ sym (append_assoc (f r.0) (after_commas (map f behind)) (ranges_after_commas f rs))
