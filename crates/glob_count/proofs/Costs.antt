-- What rows cost, against the charges of their nodes.
use Rattle.std.proofs.Common.{ℕ, zero, suc, ◌+◌, ◌*◌, ◌-◌, ◌<◌, ◌≤◌, List, [], ◌∷◌, length, drop, slice_index_or, refl, sym, subst, arith}
use Rattle.mz_globals.specs.declared.global.Global.TheVariants as global
use Rattle.mz_globals.specs.declared.global.Relation.{Relation}
use Rattle.mz_globals.specs.Table.{line_of}
use Rattle.glob_nodes.specs.Says.{pair_count}
use Rattle.glob_nodes.specs.Rows.{row_cost}
use Rattle.glob_nodes.proofs.Telling.{drop_before, fewer_pairs}

pub count_cost : {A : Type 0} (xs : List A) → 14 * length xs + 6 + 30 ≤ 56 * row_cost global.Count (length xs ∷ 1 ∷ 1 ∷ [])
unfolding line_of
count_cost xs = omega arith

pub count_of_cost : {A : Type 0} (xs : List A) → 14 * length xs + 26 ≤ 56 * row_cost global.CountOf (length xs ∷ 1 ∷ [])
unfolding line_of
count_of_cost xs = omega arith

pub times_cost : {A : Type 0} (relation : Relation) (xs : List A) → 14 * length xs + 6 + 30 ≤ 56 * row_cost (global.Times relation) (1 ∷ length xs ∷ 1 ∷ [])
unfolding line_of
times_cost relation xs = omega arith

-- ---- different values

squares : (n : ℕ) → n + n * n ≤ suc n * suc n
squares n = grind arith

pairs_within : {A : Type 0} (xs : List A) → pair_count xs ≤ length xs * length xs
pairs_within [] = omega arith
pairs_within (x ∷ xs) =
    let less = pairs_within xs in
    let more = squares (length xs) in
    omega (arith, less, more)

next : (n : ℕ) → suc n ≤ suc n * suc n
next n = grind arith

below_square : (n : ℕ) → n ≤ n * n
below_square zero = omega arith
below_square (suc n) = let more = squares n in omega (arith, more, next n)

same_square : (n : ℕ) → n * n ≤ (0 + n) * (0 + n)
same_square n = grind arith

pub distinct_cost : {A : Type 0} (xs : List A) → 20 * (length xs + pair_count xs) + 6 + 18 ≤ 56 * row_cost global.DifferentValues (1 ∷ length xs ∷ [])
unfolding line_of
distinct_cost xs =
    let pairs = pairs_within xs in
    let one = below_square (length xs) in
    let same = same_square (length xs) in
    omega (arith, pairs, one, same)

one_room : {A : Type 0} (x : A) (xs : List A) → 20 * (length xs + pair_count xs) + (12 * length xs + 8) ≤ 20 * (length (x ∷ xs) + pair_count (x ∷ xs))
one_room x xs = omega arith

pub distinct_room : (xs : List ℕ) (k : ℕ) → k ≤ length xs → 0 < k → 20 * (length (drop k xs) + pair_count (drop k xs)) + (12 * length (drop k xs) + 8) ≤ 20 * (length (drop (k - 1) xs) + pair_count (drop (k - 1) xs))
distinct_room xs k h p = subst (λ ys. 20 * (length (drop k xs) + pair_count (drop k xs)) + (12 * length (drop k xs) + 8) ≤ 20 * (length ys + pair_count ys)) (sym (drop_before 0 (slice_index_or xs (k - 1) 0) xs k h p refl)) (one_room (slice_index_or xs (k - 1) 0) (drop k xs))

fewer : {A : Type 0} (k : ℕ) (xs : List A) → length (drop k xs) ≤ length xs
fewer zero xs = omega arith
fewer (suc k) [] = omega arith
fewer (suc k) (x ∷ xs) = let less = fewer k xs in omega (arith, less)

pub distinct_most : (xs : List ℕ) (k : ℕ) → k ≤ length xs → 0 < k → 20 * (length (drop k xs) + pair_count (drop k xs)) + (12 * length (drop k xs) + 8) ≤ 20 * (length xs + pair_count xs)
distinct_most xs k h p =
    let one = distinct_room xs k h p in
    let pairs = fewer_pairs (k - 1) xs in
    let less = fewer (k - 1) xs in
    omega (arith, one, pairs, less)
