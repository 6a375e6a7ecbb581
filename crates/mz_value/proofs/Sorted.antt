-- Sorted integers, each as a range of its own.
use Rattle.std.proofs.Common.{◌≡◌, ℕ, zero, suc, ◌<◌, List, [], ◌∷◌, length, map, get_or, refl, sym, inl, inr, subst, add-one, arith}
use Rattle.std.proofs.lemmas.Int.{ints, by_lt_z}
use Rattle.std.proofs.lemmas.List.Elements.{All-head, All-tail}
use Rattle.std.proofs.lemmas.List.Sorted.{IsPermutation-sym, Contains-permutation, All-permutation}
use Rattle.std.specs.Prelude.{ℤ, ◌≤ℤ◌, ◌↔◌, negsuc, true, false}
use Rattle.std.specs.List.{All, Contains}
use Rattle.std.specs.List.Sorted.{IsSorted, IsPermutation}
use Rattle.std.specs.Ordering.{int_cmp, is_lt}
use Rattle.mz_value.specs.Ranges.{Range, AreCanonical, Has, IsInLimit, AreInLimit, IsSetOf}
use Rattle.mz_value.specs.StepsWalks.{joined}
use Rattle.mz_value.proofs.Comparisons.{int_lt_true}
use Rattle.mz_value.proofs.Joined.{Ascends, joined_members, joined_canonical, joined_limit}

abbrev pub single : ℤ → Range
single x = (x, x)

abbrev pub singles : List ℤ → List Range
singles xs = map (λ x. (x, x)) xs

not_less : (x y : ℤ) → is_lt (int_cmp y x) ≡ false → x ≤ℤ y
not_less x y h = by_lt_z y x (λ l. let less : is_lt (int_cmp y x) ≡ true = rw (int_lt_true y x l) refl in cc) (λ l. l)

sorted_tail : (x : ℤ) (xs : List ℤ) → IsSorted int_cmp (x ∷ xs) → IsSorted int_cmp xs
sorted_tail x xs s k d low h = rw add-one (rw add-one at (s (suc k) d (omega arith) (omega arith)))

ascends_singles : (x : ℤ) (xs : List ℤ) → IsSorted int_cmp (x ∷ xs) → Ascends x (singles xs)
ascends_singles x [] s = tt
ascends_singles x (y ∷ ys) s =
    (not_less x y (s 0 y (omega arith) (omega arith)), omega (arith, ints), ascends_singles y ys (sorted_tail x (y ∷ ys) s))

-- joined single integers

singles_canonical : (xs : List ℤ) → IsSorted int_cmp xs → AreCanonical (joined (singles xs))
singles_canonical [] s = joined_canonical (negsuc 0) [] tt
singles_canonical (x ∷ xs) s = joined_canonical x (singles (x ∷ xs)) (omega (arith, ints), omega (arith, ints), ascends_singles x xs s)

contains_singles : (xs : List ℤ) (x : ℤ) → Has (singles xs) x → Contains xs x
contains_singles [] x h = absurd h
contains_singles (y ∷ ys) x (inl p) = (0, omega arith, omega (arith, ints))
contains_singles (y ∷ ys) x (inr h) = let k = contains_singles ys x h in (suc k.0, omega arith, k.2)

has_singles : (xs : List ℤ) (x : ℤ) (k : ℕ) → k < length xs → get_or xs k x ≡ x → Has (singles xs) x
has_singles [] x k l e = absurd (omega arith)
has_singles (y ∷ ys) x zero l e = inl (omega (arith, ints), omega (arith, ints))
has_singles (y ∷ ys) x (suc k) l e = inr (has_singles ys x k (omega arith) e)

joined_singles : (xs : List ℤ) → IsSorted int_cmp xs → (x : ℤ) → Has (joined (singles xs)) x ↔ Has (singles xs) x
joined_singles [] s x = joined_members (negsuc 0) [] tt x
joined_singles (y ∷ ys) s x = joined_members y (singles (y ∷ ys)) (omega (arith, ints), omega (arith, ints), ascends_singles y ys s) x

pub limit_singles : (xs : List ℤ) → All IsInLimit xs → AreInLimit (singles xs)
limit_singles [] all = tt
limit_singles (x ∷ xs) all =
    let first = All-head IsInLimit x xs all in
    (first, first, limit_singles xs (All-tail IsInLimit x xs all))

pub limit_sorted : (items xs : List ℤ) → All IsInLimit items → IsPermutation items xs → AreInLimit (singles xs)
limit_sorted items xs all same = limit_singles xs (All-permutation IsInLimit items xs same all)

abbrev pub MakesSet : List ℤ → List Range → Type 0
MakesSet items s = IsSetOf items s × AreCanonical s × AreInLimit s

pub makes_set : (items xs : List ℤ) (s : List Range) → All IsInLimit items → IsPermutation items xs → IsSorted int_cmp xs → s ≡ joined (singles xs) → MakesSet items s
makes_set items xs s all same sorted made =
    let P : List Range → Type 0 = MakesSet items in
    let members : IsSetOf items (joined (singles xs)) = λ x. (
      λ h. Contains-permutation xs items x (IsPermutation-sym items xs same) (contains_singles xs x ((joined_singles xs sorted x).0 h)),
      λ h. let k = Contains-permutation items xs x same h in (joined_singles xs sorted x).1 (has_singles xs x k.0 k.1 k.2),
    ) in
    subst P (sym made) (members, singles_canonical xs sorted, joined_limit (singles xs) (limit_sorted items xs all same))
