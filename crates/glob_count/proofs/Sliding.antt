-- `sliding_sum`: its cost, its line, and what its term tells.
use Rattle.std.proofs.Common.{◌≡◌, ◌∙◌, ℕ, zero, suc, ◌+◌, ◌*◌, ◌-◌, ◌<◌, ◌≤◌, ℤ, pos, ◌+ℤ◌, int_le, Bool, true, ◌&&◌, List, [], ◌∷◌, length, map, take, drop, slice_index_or, Option, Some, None, refl, sym, ap, arith}
use Rattle.std.proofs.lemmas.Int.{ints}
use Rattle.std.specs.List.{list_all}
use Rattle.std.specs.Option.{option_map}
use Rattle.mz_value.specs.Ranges.{Range}
use Rattle.mz_value.specs.Contents.{Content}
use Rattle.mz_value.specs.Contents as values
use Rattle.mz_operations.specs.Arguments.{int_at}
use Rattle.mz_operations.specs.Views.{◌>>=◌}
use Rattle.mz_globals.specs.declared.global.Global.TheVariants as global
use Rattle.mz_globals.specs.Counting as counting
use Rattle.mz_globals.specs.Lists.{total, windows, windows_from}
use Rattle.mz_globals.specs.Reading.{ints_at}
use Rattle.mz_globals.specs.Table.{line_of, truth}
use Rattle.mz_symbol.specs.Runs.{Run}
use Rattle.mz_symbol.specs.Readings.{Reading}
use Rattle.mz_symbol.specs.Makes.{GoesOnBy}
use Rattle.glob_nodes.specs.declared.nodes.Compare.TheVariants.{AtMost}
use Rattle.glob_nodes.specs.Says.{compares, num}
use Rattle.glob_nodes.specs.Arguments.{array_of}
use Rattle.glob_nodes.specs.Rows.{row_cost}
use Rattle.glob_nodes.proofs.Rows.{found, ints_are, int_is, at_first, at_second, at_third}
use Rattle.glob_nodes.proofs.Telling.{drop_at, goes_more, grows}
use Rattle.glob_nodes.specs.Numbers.{IsNumber, plus}
use Rattle.glob_nodes.proofs.Seen.{both_same, head_there, tail_there}
use Rattle.glob_nodes.proofs.Several.{at_fourth, same_four}
use Rattle.glob_nodes.proofs.Squares.{below_square}
use Rattle.glob_count.specs.Windows.{count_value, left_sum, sum_in, sum_fits, SumOnward}

-- ---- the cost

no_times : (k : ℕ) → k * 0 ≡ 0
no_times k = grind arith

other_way : (k n : ℕ) → k * suc n ≡ suc n * k
other_way k n = grind arith

next_product : (n : ℕ) → suc n * n ≡ n * n + n
next_product n = grind arith

of_windows : (n k m : ℕ) → m ≡ suc n - k → k * m ≤ n * n + n
of_windows n k zero h = let none = no_times k in omega (arith, none)
of_windows n k (suc j) h =
    let low : k ≤ n = omega (arith, h) in
    let high : suc j ≤ suc n = omega (arith, h) in
    let one = grows k (suc j) (suc n) high in
    let same = other_way k n in
    let two = grows (suc n) k n low in
    let all = next_product n in
    omega (arith, one, same, two, all)

opened : (k m : ℕ) → (4 * k + 24) * m ≡ 4 * (k * m) + 24 * m
opened k m = grind arith

slides_cost : (n k m : ℕ) → m ≡ suc n - k → (4 * k + 24) * m + 30 ≤ 56 * (1 + n * n)
slides_cost n k m h =
    let same = opened k m in
    let most = of_windows n k m h in
    let more = below_square n in
    omega (arith, same, most, more, h)

same_square : (n : ℕ) → 56 * (1 + n * n) ≤ 56 * (1 + (0 + n) * (0 + n))
same_square n = grind arith

pub sliding_cost : (seq : ℕ) (xs : List ℕ) → (4 * seq + 24) * (suc (length xs) - seq) + 30 ≤ 56 * row_cost global.SlidingSum (1 ∷ 1 ∷ 1 ∷ length xs ∷ [])
unfolding line_of
sliding_cost seq xs =
    let most = slides_cost (length xs) seq (suc (length xs) - seq) refl in
    let same = same_square (length xs) in
    omega (arith, most, same)

-- ---- the line

abbrev slid_of : Option ℤ → Option ℤ → Option ℤ → Option (List ℤ) → Option Content
slid_of o p s q = truth (o >>= λ l. p >>= λ u. s >>= λ k. q >>= λ ns. Some (counting.slides l u k ns))

-- low and up, then the array
abbrev pub slides : ℕ → ℤ → ℤ → List ℤ → Bool
slides seq l u ns = counting.slides l u (pos seq) ns

slid_found : (seq : ℕ) (o p : Option ℤ) (q : Option (List ℤ)) → slid_of o p (Some (pos seq)) q ≡ Some (values.bool (found (λ l. found (λ u. found (slides seq l u) q) p) o))
slid_found seq None p q = refl
slid_found seq (Some l) None q = refl
slid_found seq (Some l) (Some u) None = refl
slid_found seq (Some l) (Some u) (Some ns) = refl

pub sliding_line : (seq : ℕ) (x : Range) (o p : Option ℤ) (q : Option (List ℤ)) → (line_of global.SlidingSum).value (option_map values.int o ∷ option_map values.int p ∷ count_value seq ∷ array_of x q ∷ []) ≡ Some (values.bool (found (λ l. found (λ u. found (slides seq l u) q) p) o))
unfolding line_of
sliding_line seq x o p q =
    same_four slid_of (int_at (option_map values.int o ∷ option_map values.int p ∷ count_value seq ∷ array_of x q ∷ []) 0) o (int_at (option_map values.int o ∷ option_map values.int p ∷ count_value seq ∷ array_of x q ∷ []) 1) p (int_at (option_map values.int o ∷ option_map values.int p ∷ count_value seq ∷ array_of x q ∷ []) 2) (Some (pos seq)) (ints_at (option_map values.int o ∷ option_map values.int p ∷ count_value seq ∷ array_of x q ∷ []) 3) q
    (int_is (option_map values.int o ∷ option_map values.int p ∷ count_value seq ∷ array_of x q ∷ []) 0 o (at_first (option_map values.int o) (option_map values.int p ∷ count_value seq ∷ array_of x q ∷ [])))
    (int_is (option_map values.int o ∷ option_map values.int p ∷ count_value seq ∷ array_of x q ∷ []) 1 p (at_second (option_map values.int o) (option_map values.int p) (count_value seq ∷ array_of x q ∷ [])))
    (int_is (option_map values.int o ∷ option_map values.int p ∷ count_value seq ∷ array_of x q ∷ []) 2 (Some (pos seq)) (at_third (option_map values.int o) (option_map values.int p) (count_value seq) (array_of x q ∷ [])))
    (ints_are (option_map values.int o ∷ option_map values.int p ∷ count_value seq ∷ array_of x q ∷ []) 3 x q (at_fourth (option_map values.int o) (option_map values.int p) (count_value seq) (array_of x q) []))
    ∙ slid_found seq o p q

-- ---- sums

regrouped : (a n t : ℤ) → (a +ℤ n) +ℤ t ≡ a +ℤ (n +ℤ t)
regrouped a n t = omega (arith, ints)

with_none : (a : ℤ) → a ≡ a +ℤ pos 0
with_none a = omega (arith, ints)

from_none : (a : ℤ) → pos 0 +ℤ a ≡ a
from_none a = omega (arith, ints)

left_total : (a : ℤ) (ns : List ℤ) → left_sum (Some a) (map (λ n. Some n) ns) ≡ Some (a +ℤ total (λ x. x) ns)
left_total a [] = ap (λ n. Some n) (with_none a)
left_total a (n ∷ ns) = left_total (a +ℤ n) ns ∙ ap (λ m. Some m) (regrouped a n (total (λ x. x) ns))

sum_told : (r : Reading) (ids : List ℕ) (ns : List ℤ) → map (num r) ids ≡ map (λ n. Some n) ns → sum_in r ids ≡ Some (total (λ x. x) ns)
sum_told r ids ns h = ap (left_sum (Some (pos 0))) h ∙ left_total (pos 0) ns ∙ ap (λ n. Some n) (from_none (total (λ x. x) ns))

fits_told : (r : Reading) (low up : ℕ) (l u : ℤ) → num r low ≡ Some l → num r up ≡ Some u → (ids : List ℕ) (ns : List ℤ) → map (num r) ids ≡ map (λ n. Some n) ns → sum_fits r low up ids ≡ counting.sum_fits l u ns
fits_told r low up l u h k ids ns e =
    both_same (compares AtMost (num r low) (sum_in r ids)) (compares AtMost (sum_in r ids) (num r up)) (int_le l (total (λ x. x) ns)) (int_le (total (λ x. x) ns) u)
    (ap (λ o. compares AtMost o (sum_in r ids)) h ∙ ap (compares AtMost (Some l)) (sum_told r ids ns e))
    (ap (λ o. compares AtMost o (num r up)) (sum_told r ids ns e) ∙ ap (compares AtMost (Some (total (λ x. x) ns))) k)

-- ---- windows

taken_there : (r : Reading) (k : ℕ) (ids : List ℕ) (ns : List ℤ) → map (num r) ids ≡ map (λ n. Some n) ns → map (num r) (take k ids) ≡ map (λ n. Some n) (take k ns)
taken_there r zero ids ns h = refl
taken_there r (suc k) [] [] h = refl
taken_there r (suc k) [] (n ∷ ns) h = absurd (cc)
taken_there r (suc k) (x ∷ xs) [] h = absurd (cc)
taken_there r (suc k) (x ∷ xs) (n ∷ ns) h =
    ap (λ o. o ∷ map (num r) (take k xs)) (head_there (num r x) (map (num r) xs) n ns h)
    ∙ ap (λ os. Some n ∷ os) (taken_there r k xs ns (tail_there (num r x) (map (num r) xs) n ns h))

one_less : (r : Reading) (ids : List ℕ) (ns : List ℤ) → map (num r) ids ≡ map (λ n. Some n) ns → map (num r) (drop 1 ids) ≡ map (λ n. Some n) (drop 1 ns)
one_less r [] [] h = refl
one_less r [] (n ∷ ns) h = absurd (cc)
one_less r (x ∷ xs) [] h = absurd (cc)
one_less r (x ∷ xs) (n ∷ ns) h = tail_there (num r x) (map (num r) xs) n ns h

windows_told : (r : Reading) (low up : ℕ) (l u : ℤ) → num r low ≡ Some l → num r up ≡ Some u → (k m : ℕ) (ids : List ℕ) (ns : List ℤ) → map (num r) ids ≡ map (λ n. Some n) ns → list_all (λ w. sum_fits r low up w) (windows_from m k ids) ≡ list_all (counting.sum_fits l u) (windows_from m k ns)
windows_told r low up l u h i k zero ids ns e = refl
windows_told r low up l u h i k (suc m) ids ns e =
    both_same (sum_fits r low up (take k ids)) (list_all (λ w. sum_fits r low up w) (windows_from m k (drop 1 ids))) (counting.sum_fits l u (take k ns)) (list_all (counting.sum_fits l u) (windows_from m k (drop 1 ns)))
    (fits_told r low up l u h i (take k ids) (take k ns) (taken_there r k ids ns e))
    (windows_told r low up l u h i k m (drop 1 ids) (drop 1 ns) (one_less r ids ns e))

as_long : (r : Reading) (ids : List ℕ) (ns : List ℤ) → map (num r) ids ≡ map (λ n. Some n) ns → length ids ≡ length ns
as_long r [] [] h = refl
as_long r [] (n ∷ ns) h = absurd (cc)
as_long r (x ∷ xs) [] h = absurd (cc)
as_long r (x ∷ xs) (n ∷ ns) h = ap suc (as_long r xs ns (tail_there (num r x) (map (num r) xs) n ns h))

pub sliding_told : (r : Reading) (low up seq : ℕ) (ids : List ℕ) (l u : ℤ) (ns : List ℤ) → num r low ≡ Some l → num r up ≡ Some u → map (num r) ids ≡ map (λ n. Some n) ns → list_all (λ w. sum_fits r low up w) (windows seq ids) ≡ slides seq l u ns
sliding_told r low up seq ids l u ns h k e =
    windows_told r low up l u h k seq (suc (length ids) - seq) ids ns e
    ∙ ap (λ n. list_all (counting.sum_fits l u) (windows_from (suc n - seq) seq ns)) (as_long r ids ns e)

-- ---- the code's steps

pub sum_begins : (old new : Run) (ids : List ℕ) (acc : ℕ) → GoesOnBy 0 old new → IsNumber old new (λ r. Some (pos 0)) acc → SumOnward 0 old new ids ids acc
sum_begins old new ids acc goes s = record { goes = goes; same = s.same; onward = λ r q. ap (λ o. left_sum o (map (num r) ids)) (s.is r q) }

pub sum_goes : (n : ℕ) (old mid new : Run) (all : List ℕ) (k j acc id : ℕ) → SumOnward n old mid all (drop k all) acc → k < length all → j ≡ suc k → GoesOnBy 4 mid new → IsNumber mid new (λ r. plus (num r acc) (num r (slice_index_or all k 0))) id → SumOnward (n + 4) old new all (drop j all) id
sum_goes n old mid new all k j acc id t low next goes s = record {
  goes = goes_more n 4 (n + 4) old mid new (omega arith) t.goes goes;
  same = λ r q. t.same r (goes.back r q) ∙ s.same r q;
  onward = λ r q.
      ap (λ i. left_sum (num r id) (map (num r) (drop i all))) next
      ∙ ap (λ o. left_sum o (map (num r) (drop (suc k) all))) (s.is r q)
      ∙ ap (λ is. left_sum (num r acc) (map (num r) is)) (sym (drop_at 0 (slice_index_or all k 0) all k low refl))
      ∙ t.onward r (goes.back r q);
}

pub sum_ends : (n : ℕ) (old new : Run) (all : List ℕ) (k acc : ℕ) → SumOnward n old new all (drop k all) acc → length all ≤ k → IsNumber old new (λ r. sum_in r all) acc
sum_ends n old new all k acc t high = record { same = t.same; is = λ r q. sym (ap (λ is. left_sum (num r acc) (map (num r) is)) (dropped k all high)) ∙ t.onward r q }
  where
    dropped : (k : ℕ) (xs : List ℕ) → length xs ≤ k → drop k xs ≡ []
    dropped zero [] h = refl
    dropped (suc k) [] h = refl
    dropped zero (x ∷ xs) h = absurd (omega (arith, h))
    dropped (suc k) (x ∷ xs) h = dropped k xs (omega (arith, h))

pub less_room : (n k : ℕ) → k ≤ n → 4 * k ≤ 4 * n
less_room n k h = omega (arith, h)

-- one window more

take_short : (n : ℕ) (xs : List ℕ) → length (take n xs) ≤ n
take_short zero xs = omega arith
take_short (suc n) [] = omega arith
take_short (suc n) (x ∷ xs) = let less = take_short n xs in omega (arith, less)

pub window_room : (i seq : ℕ) (xs : List ℕ) → 4 * length (take (i + seq - i) (drop i xs)) + 18 + 6 ≤ 4 * seq + 24
window_room i seq xs =
    let short = take_short (i + seq - i) (drop i xs) in
    omega (arith, short)

drop_next : (i : ℕ) (xs : List ℕ) → drop 1 (drop i xs) ≡ drop (suc i) xs
drop_next zero [] = refl
drop_next zero (x ∷ xs) = refl
drop_next (suc i) [] = refl
drop_next (suc i) (x ∷ xs) = drop_next i xs

pub one_window_more : (p : List ℕ → Bool) (m i seq : ℕ) (xs : List ℕ) → i ≤ m → 0 < i → (p (take ((i - 1) + seq - (i - 1)) (drop (i - 1) xs)) && list_all p (windows_from (m - i) seq (drop i xs))) ≡ list_all p (windows_from (m - (i - 1)) seq (drop (i - 1) xs))
one_window_more p m i seq xs h low =
    let size : (i - 1) + seq - (i - 1) ≡ seq = omega arith in
    let count : m - (i - 1) ≡ suc (m - i) = omega (arith, h, low) in
    let next : suc (i - 1) ≡ i = omega (arith, low) in
    ap (λ n. p (take n (drop (i - 1) xs)) && list_all p (windows_from (m - i) seq (drop i xs))) size
    ∙ ap (λ n. p (take seq (drop (i - 1) xs)) && list_all p (windows_from (m - i) seq (drop n xs))) (sym next)
    ∙ ap (λ ys. p (take seq (drop (i - 1) xs)) && list_all p (windows_from (m - i) seq ys)) (sym (drop_next (i - 1) xs))
    ∙ ap (λ n. list_all p (windows_from n seq (drop (i - 1) xs))) (sym count)

pub no_window : (p : List ℕ → Bool) (m seq : ℕ) (xs : List ℕ) → true ≡ list_all p (windows_from (m - m) seq (drop m xs))
no_window p m seq xs =
    let none : m - m ≡ 0 = omega arith in
    sym (ap (λ n. list_all p (windows_from n seq (drop m xs))) none)
