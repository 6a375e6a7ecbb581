-- Consecutive arguments.
use Rattle.std.proofs.Common.{◌≡◌, ℕ, zero, suc, ◌-◌, ◌≤◌, List, [], ◌∷◌, length, take, drop, map, length-drop, refl, sym, ap, subst, ◌∙◌, arith}

drop_mapped : {A B : Type 0} (f : A → B) (n : ℕ) (xs : List A) → drop n (map f xs) ≡ map f (drop n xs)
drop_mapped f zero xs = refl
drop_mapped f (suc n) [] = refl
drop_mapped f (suc n) (x ∷ xs) = drop_mapped f n xs

take_mapped : {A B : Type 0} (f : A → B) (n : ℕ) (xs : List A) → take n (map f xs) ≡ map f (take n xs)
take_mapped f zero xs = refl
take_mapped f (suc n) [] = refl
take_mapped f (suc n) (x ∷ xs) = ap (λ ys. f x ∷ ys) (take_mapped f n xs)

none_taken : {A : Type 0} (n : ℕ) → take {A = A} n [] ≡ []
none_taken zero = refl
none_taken (suc n) = refl

all_taken : {A : Type 0} (n : ℕ) (xs : List A) → length xs ≤ n → take n xs ≡ xs
all_taken n [] l = none_taken n
all_taken zero (x ∷ xs) l = absurd (omega (arith, l))
all_taken (suc n) (x ∷ xs) l = ap (λ ys. x ∷ ys) (all_taken n xs (omega (arith, l)))

none_left : {A : Type 0} (n : ℕ) (xs : List A) → length xs ≤ n → drop n xs ≡ []
none_left zero [] l = refl
none_left (suc n) [] l = refl
none_left zero (x ∷ xs) l = absurd (omega (arith, l))
none_left (suc n) (x ∷ xs) l = none_left n xs (omega (arith, l))

-- what stands past the end
pub part_past : {A B : Type 0} (f : A → B) (first count : ℕ) (xs : List A) → length xs ≤ first → take count (drop first (map f xs)) ≡ []
part_past f first count xs l = ap (take count) (drop_mapped f first xs ∙ ap (map f) (none_left first xs l)) ∙ none_taken count

-- up to the end
part_to_end : {A B : Type 0} (f : A → B) (first count : ℕ) (xs : List A) → length (drop first xs) ≤ count → map f (drop first xs) ≡ take count (drop first (map f xs))
part_to_end f first count xs l = sym (ap (take count) (drop_mapped f first xs) ∙ take_mapped f count (drop first xs) ∙ ap (map f) (all_taken count (drop first xs) l))

part_within : {A B : Type 0} (f : A → B) (first count : ℕ) (xs : List A) → map f (take count (drop first xs)) ≡ take count (drop first (map f xs))
part_within f first count xs = sym (ap (take count) (drop_mapped f first xs) ∙ take_mapped f count (drop first xs))

-- ---- as the code cuts them out

whole_rest : {A : Type 0} (n : ℕ) (xs : List A) → take (length xs - n) (drop n xs) ≡ drop n xs
whole_rest n xs = all_taken (length xs - n) (drop n xs) (omega (arith, length-drop n xs))

pub rest_of : {A B : Type 0} (f : A → B) (first count : ℕ) (xs : List A) → length (take (length xs - first) (drop first xs)) ≤ count → map f (take (length xs - first) (drop first xs)) ≡ take count (drop first (map f xs))
rest_of f first count xs l =
    ap (map f) (whole_rest first xs) ∙ part_to_end f first count xs (subst (λ ys. length ys ≤ count) (whole_rest first xs) l)

pub part_of : {A B : Type 0} (f : A → B) (first count : ℕ) (xs : List A) → map f (take count (take (length xs - first) (drop first xs))) ≡ take count (drop first (map f xs))
part_of f first count xs = ap (λ ys. map f (take count ys)) (whole_rest first xs) ∙ part_within f first count xs
