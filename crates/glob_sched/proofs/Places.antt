-- Elements by numbers, and rows one after another.
use Rattle.std.proofs.Common.{◌≡◌, ℕ, zero, suc, ◌+◌, ◌-◌, ◌<◌, ◌≤◌, ℤ, pos, negsuc, ◌<ℤ◌, ◌≤ℤ◌, List, [], ◌∷◌, length, get_or, take, drop, Bool, true, false, ◌&&◌, ◌||◌, refl, sym, ap, ◌∙◌, arith}
use Rattle.std.proofs.lemmas.Int.{ints}
use Rattle.std.proofs.lemmas.List.{at_drop_all}
use Rattle.std.specs.Prelude.{Option, Some, None, slice_get}
use Rattle.std.specs.Ordering.{int_eq}
use Rattle.mz_globals.specs.Graphs.{nth, has_row, same_numbers}

-- ---- elements

get_past : (xs : List ℤ) (k : ℕ) → length xs ≤ k → slice_get xs k ≡ None
get_past [] k l = refl
get_past (x ∷ xs) zero l = absurd (omega (arith, l))
get_past (x ∷ xs) (suc k) l = get_past xs k (omega (arith, l))

get_at : (xs : List ℤ) (k : ℕ) (d : ℤ) → k < length xs → slice_get xs k ≡ Some (get_or xs k d)
get_at [] k d l = absurd (omega (arith, l))
get_at (x ∷ xs) zero d l = refl
get_at (x ∷ xs) (suc k) d l = get_at xs k d (omega (arith, l))

pub nth_below : (k : ℤ) (xs : List ℤ) → k <ℤ pos 0 → nth k xs ≡ None
nth_below (pos k) xs l = absurd (omega (arith, ints, l))
nth_below (negsuc k) xs l = refl

pub nth_above : (k : ℤ) (xs : List ℤ) → pos (length xs) ≤ℤ k → nth k xs ≡ None
nth_above (pos k) xs l = get_past xs k (omega (arith, ints, l))
nth_above (negsuc k) xs l = refl

pub nth_at : (k : ℤ) (i : ℕ) (xs : List ℤ) (d : ℤ) → k ≡ pos i → i < length xs → nth k xs ≡ Some (get_or xs i d)
nth_at k i xs d e l = ap (λ n. nth n xs) e ∙ get_at xs i d l

-- ---- rows

unequal : (xs ys : List ℤ) → length ys < length xs → same_numbers xs ys ≡ false
unequal [] ys l = absurd (omega (arith, l))
unequal (x ∷ xs) [] l = refl
unequal (x ∷ xs) (y ∷ ys) l = by (int_eq x y) (unequal xs ys (omega (arith, l)))
  where
    by : (b : Bool) → same_numbers xs ys ≡ false → (b && same_numbers xs ys) ≡ false
    by true e = e
    by false e = refl

taken_less : (n : ℕ) (xs : List ℤ) → length (take n xs) ≤ length xs
taken_less zero xs = omega arith
taken_less (suc n) [] = omega arith
taken_less (suc n) (x ∷ xs) = let l = taken_less n xs in omega (arith, l)

none_left : (n : ℕ) (x : ℤ) (xs : List ℤ) → has_row n (x ∷ xs) [] ≡ false
none_left zero x xs = refl
none_left (suc n) x xs = none_left n x xs

-- a row that is cut off is no row
pub cut_off : (n : ℕ) (xs cells : List ℤ) → length cells < length xs → has_row n xs cells ≡ false
cut_off n [] cells l = absurd (omega (arith, l))
cut_off zero (x ∷ xs) cells l = refl
cut_off (suc n) (x ∷ xs) cells l =
    let less = taken_less (length (x ∷ xs)) cells in
    let first : same_numbers (x ∷ xs) (take (length (x ∷ xs)) cells) ≡ false = unequal (x ∷ xs) (take (length (x ∷ xs)) cells) (omega (arith, l, less)) in
    let rest : has_row n (x ∷ xs) (drop (length (x ∷ xs)) cells) ≡ false = at_drop_all (has_row n (x ∷ xs)) cells (length (x ∷ xs)) (omega (arith, l)) ∙ none_left n x xs in
    rw (first) rest

one_row : (n : ℕ) (xs cells : List ℤ) → 0 < n → has_row n xs cells ≡ (same_numbers xs (take (length xs) cells) || has_row (n - 1) xs (drop (length xs) cells))
one_row zero xs cells l = absurd (omega (arith, l))
one_row (suc n) xs cells l =
    let same : suc n - 1 ≡ n = omega arith in
    sym (ap (λ m. same_numbers xs (take (length xs) cells) || has_row m xs (drop (length xs) cells)) same)

pub row_found : (n : ℕ) (xs cells : List ℤ) (whole : Bool) → 0 < n → same_numbers xs (take (length xs) cells) ≡ true → has_row n xs cells ≡ whole → true ≡ whole
row_found n xs cells whole l e w = sym (one_row n xs cells l ∙ ap (λ b. b || has_row (n - 1) xs (drop (length xs) cells)) e) ∙ w

pub next_row : (n : ℕ) (xs cells : List ℤ) (whole : Bool) → 0 < n → same_numbers xs (take (length xs) cells) ≡ false → has_row n xs cells ≡ whole → has_row (n - 1) xs (drop (length xs) cells) ≡ whole
next_row n xs cells whole l e w = sym (one_row n xs cells l ∙ ap (λ b. b || has_row (n - 1) xs (drop (length xs) cells)) e) ∙ w
