-- Folds over elements in bounds.
use Rattle.std.proofs.Common.{◌≡◌, ℕ, zero, suc, ◌+◌, ◌≤◌, length, ℤ, pos, ◌*ℤ◌, ◌+ℤ◌, ◌&&◌, Bool, true, false, cond, List, [], ◌∷◌, Some, subst, refl, ap, ◌∙◌, arith}
use Rattle.std.proofs.lemmas.Int.{ints}
use Rattle.mz_value.specs.Contents.{Content}
use Rattle.mz_interval.specs.Ends.{Ends, Encloses, is_number, hull_of}
use Rattle.mz_interval.proofs.Hulls.{hull_of-left, hull_of-right}
use Rattle.mz_interval.proofs.Products.{product_of-encloses}
use Rattle.mz_operations.specs.declared.row.Fold.{Fold}
use Rattle.mz_operations.specs.declared.row.Fold.TheVariants.{Sum, SumOfOptions, Product}
use Rattle.mz_operations.specs.declared.row.Side.{Side}
use Rattle.mz_operations.specs.Views.{as_int, is_absent}
use Rattle.mz_operations.specs.Numbers.{within, folded, fold_start, raised, toward, nearer, counted}
use Rattle.mz_operations.specs.Arrays.{fold_from, summand, truth_or}
use Rattle.mz_operations.specs.Bounds.{nothing, toward_ends, extreme_from, fold_ends, folded_ends, fold_start_ends, raised_ends}
use Rattle.mz_operations.specs.Laws.{IsLimited, LiesIn, AllLieIn, FoldEncloses, PowerEncloses, ExtremeEncloses, CountEncloses}
use Rattle.mz_operations.proofs.Options.{went}
use Rattle.mz_operations.proofs.Arithmetic.{sum_in, toward_in}

-- ---- partial results that leave the limit

abbrev is_limited : Ends → Bool
is_limited e = is_number e.0 && is_number e.1

limited_number : (e : Ends) (x : ℤ) → IsLimited e → Encloses e x → is_number x ≡ true
limited_number e x l h = grind (arith, ints)

fold_ends_stuck : (op : Fold) (acc e : Ends) → is_limited acc ≡ false → fold_ends op acc e ≡ acc
unfolding fold_ends
fold_ends_stuck Sum acc e h = rw h refl
fold_ends_stuck SumOfOptions acc e h = rw h refl
fold_ends_stuck Product acc e h = rw h refl

folded_ends_stuck : (op : Fold) (acc : Ends) (es : List Ends) → is_limited acc ≡ false → folded_ends op acc es ≡ acc
unfolding folded_ends
folded_ends_stuck op acc [] h = refl
folded_ends_stuck op acc (e ∷ es) h =
    let stays = fold_ends_stuck op acc e h in
    ap (λ a. folded_ends op a es) stays ∙ folded_ends_stuck op acc es h

-- what ends in the limit was in the limit
was_limited : (op : Fold) (acc : Ends) (es : List Ends) → IsLimited (folded_ends op acc es) → IsLimited acc
was_limited op acc es l = by (is_limited acc) refl
  where
    by : (t : Bool) → is_limited acc ≡ t → is_limited acc ≡ true
    by true e = e
    by false e = let out : is_limited (folded_ends op acc es) ≡ is_limited acc = ap is_limited (folded_ends_stuck op acc es e) in cc

-- what an element of a fold adds to the bounds
abbrev element_ends : Fold → Ends → Ends
element_ends Sum e = e
element_ends SumOfOptions e = hull_of nothing e
element_ends Product e = e

within_number : (x y : ℤ) → is_number x ≡ true → within x y ≡ y
within_number x y h = rw h refl

fold_step : (op : Fold) (acc e : Ends) (m x : ℤ) → IsLimited acc → Encloses acc m → Encloses (element_ends op e) x → Encloses (fold_ends op acc e) (folded op m x)
unfolding fold_ends folded
fold_step Sum acc e m x l h k = rw (l, within_number m (m +ℤ x) (limited_number acc m l h)) (sum_in acc e m x h k)
fold_step SumOfOptions acc e m x l h k = rw (l, within_number m (m +ℤ x) (limited_number acc m l h)) (sum_in acc (hull_of nothing e) m x h k)
fold_step Product acc e m x l h k = rw (l, within_number m (m *ℤ x) (limited_number acc m l h)) (product_of-encloses acc e m x h k)

zero_in : (e : Ends) → Encloses (hull_of nothing e) (pos 0)
zero_in e = hull_of-left nothing e (pos 0) (record { from = omega (arith, ints); to = omega (arith, ints) })

optional_in : (e : Ends) (x : Content) (n : ℤ) (b : Bool) → LiesIn e x → cond b (Some (pos 0)) (as_int x) ≡ Some n → Encloses (hull_of nothing e) n
optional_in e x n true h s = let same : pos 0 ≡ n = cc in subst (Encloses (hull_of nothing e)) same (zero_in e)
optional_in e x n false h s = hull_of-right nothing e n (h.inside n s)

summand_in : (op : Fold) (e : Ends) (x : Content) (n : ℤ) → LiesIn e x → summand op x ≡ Some n → Encloses (element_ends op e) n
unfolding summand
summand_in Sum e x n h s = h.inside n s
summand_in SumOfOptions e x n h s = optional_in e x n (is_absent x) h s
summand_in Product e x n h s = h.inside n s

fold_in : (op : Fold) (acc : Ends) (m : ℤ) (es : List Ends) (xs : List Content) (n : ℤ) → AllLieIn es xs → IsLimited (folded_ends op acc es) → Encloses acc m → fold_from (summand op) (folded op) m xs ≡ Some n → Encloses (folded_ends op acc es) n
unfolding folded_ends fold_from
fold_in op acc m [] [] n all l h s = let same : m ≡ n = cc in subst (Encloses acc) same h
fold_in op acc m [] (x ∷ xs) n all l h s = absurd all
fold_in op acc m (e ∷ es) [] n all l h s = absurd all
fold_in op acc m (e ∷ es) (x ∷ xs) n all l h s =
    let w = went (summand op x) (λ a. fold_from (summand op) (folded op) (folded op m a) xs) n s in
    fold_in op (fold_ends op acc e) (folded op m w.value) es xs n all.1 l (fold_step op acc e m w.value (was_limited op acc (e ∷ es) l) h (summand_in op e x w.value all.0 w.was)) w.rest

start_in : (op : Fold) → Encloses (fold_start_ends op) (fold_start op)
start_in Sum = record { from = omega (arith, ints); to = omega (arith, ints) }
start_in SumOfOptions = record { from = omega (arith, ints); to = omega (arith, ints) }
start_in Product = record { from = omega (arith, ints); to = omega (arith, ints) }

pub fold_encloses : FoldEncloses
fold_encloses op es xs n all l s = fold_in op (fold_start_ends op) (fold_start op) es xs n all l (start_in op) s

raised_was_limited : (e : Ends) (k : ℕ) → IsLimited (raised_ends e (suc k)) → IsLimited (raised_ends e k)
unfolding raised_ends
raised_was_limited e k l = by (is_limited (raised_ends e k)) refl
  where
    by : (t : Bool) → is_limited (raised_ends e k) ≡ t → is_limited (raised_ends e k) ≡ true
    by true h = h
    by false h = let out : is_limited (fold_ends Product (raised_ends e k) e) ≡ is_limited (raised_ends e k) = ap is_limited (fold_ends_stuck Product (raised_ends e k) e h) in cc

pub power_encloses : PowerEncloses
unfolding raised_ends raised
power_encloses e x zero h l = record { from = omega (arith, ints); to = omega (arith, ints) }
power_encloses e x (suc k) h l =
    let before = raised_was_limited e k l in
    fold_step Product (raised_ends e k) e (raised x k) x before (power_encloses e x k h before) h

-- ---- extremes and counts

extreme_in : (side : Side) (acc : Ends) (m : ℤ) (es : List Ends) (xs : List Content) (n : ℤ) → AllLieIn es xs → Encloses acc m → fold_from as_int (nearer side) (Some m) xs ≡ Some (Some n) → Encloses (extreme_from side acc es) n
unfolding extreme_from fold_from nearer
extreme_in side acc m [] [] n all h s = let same : m ≡ n = cc in subst (Encloses acc) same h
extreme_in side acc m [] (x ∷ xs) n all h s = absurd all
extreme_in side acc m (e ∷ es) [] n all h s = absurd all
extreme_in side acc m (e ∷ es) (x ∷ xs) n all h s =
    let w = went (as_int x) (λ a. fold_from as_int (nearer side) (Some (toward side m a)) xs) (Some n) s in
    extreme_in side (toward_ends side acc e) (toward side m w.value) es xs n all.1 (toward_in side acc e m w.value h (all.0.inside w.value w.was)) w.rest

pub extreme_encloses : ExtremeEncloses
unfolding fold_from nearer
extreme_encloses side [] [] n all s = cc
extreme_encloses side [] (x ∷ xs) n all s = absurd all
extreme_encloses side (e ∷ es) [] n all s = absurd all
extreme_encloses side (e ∷ es) (x ∷ xs) n all s =
    let w = went (as_int x) (λ a. fold_from as_int (nearer side) (Some a) xs) (Some n) s in
    extreme_in side e w.value es xs n all.1 (all.0.inside w.value w.was) w.rest

counted-le : (k : ℕ) (b : Bool) → counted k b ≤ k + 1
counted-le k true = omega arith
counted-le k false = omega arith

count_le : (k : ℕ) (xs : List Content) (n : ℕ) → fold_from (truth_or false) counted k xs ≡ Some n → n ≤ k + length xs
unfolding fold_from
count_le k [] n s = let same : k ≡ n = cc in omega arith
count_le k (x ∷ xs) n s =
    let w = went (truth_or false x) (λ a. fold_from (truth_or false) counted (counted k a) xs) n s in
    let rest = count_le (counted k w.value) xs n w.rest in
    let step = counted-le k w.value in
    omega arith

pub count_encloses : CountEncloses
count_encloses xs n s = let most = count_le 0 xs n s in record { from = omega (arith, ints); to = omega (arith, ints) }
