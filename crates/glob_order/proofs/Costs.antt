-- What rows cost, against the charges of their nodes.
use Rattle.std.proofs.Common.{ℕ, suc, ◌+◌, ◌*◌, ◌≤◌, List, [], ◌∷◌, length, min, Bool, arith}
use Rattle.mz_operations.specs.declared.row.Comparison.{Comparison}
use Rattle.mz_operations.specs.declared.row.Side.{Side}
use Rattle.mz_globals.specs.declared.global.Global.TheVariants as global
use Rattle.mz_globals.specs.Table.{line_of}
use Rattle.glob_nodes.specs.Says.{pair_count}
use Rattle.glob_nodes.specs.Rows.{row_cost}

squares : (n : ℕ) → n + n * n ≤ suc n * suc n
squares n = grind arith

pub pairs_within : {A : Type 0} (xs : List A) → pair_count xs ≤ length xs * length xs
pairs_within [] = omega arith
pairs_within (x ∷ xs) =
    let less = pairs_within xs in
    let more = squares (length xs) in
    omega (arith, less, more)

same_square : (n : ℕ) → n * n ≤ (0 + n) * (0 + n)
same_square n = grind arith

quadratic : {A : Type 0} (xs : List A) → 24 * pair_count xs + 6 ≤ 56 * (1 + (0 + length xs) * (0 + length xs))
quadratic xs =
    let less = pairs_within xs in
    let same = same_square (length xs) in
    omega (arith, less, same)

pub different_cost : {A : Type 0} (xs : List A) → 12 * pair_count xs + 6 ≤ 56 * row_cost global.AllDifferent (length xs ∷ [])
unfolding line_of
different_cost xs = let more = quadratic xs in omega (arith, more)

pub but_zero_cost : {A : Type 0} (xs : List A) → 24 * pair_count xs + 6 ≤ 56 * row_cost global.DifferentButZero (length xs ∷ [])
unfolding line_of
but_zero_cost xs = quadratic xs

pub equal_cost : {A : Type 0} (xs : List A) → 12 * length xs + 6 ≤ 56 * row_cost global.AllEqual (length xs ∷ [])
unfolding line_of
equal_cost xs = omega arith

pub ordered_cost : {A : Type 0} (op : Comparison) (xs : List A) → 12 * length xs + 6 ≤ 56 * row_cost (global.Ordered op) (length xs ∷ [])
unfolding line_of
ordered_cost op xs = omega arith

pub extreme_cost : {A : Type 0} (side : Side) (xs : List A) → 8 * length xs + 14 + 18 ≤ 56 * row_cost (global.Extreme side) (1 ∷ length xs ∷ [])
unfolding line_of
extreme_cost side xs = omega arith

pub member_cost : {A : Type 0} (xs : List A) → 12 * length xs + 18 ≤ 56 * row_cost global.Member (length xs ∷ 1 ∷ [])
unfolding line_of
member_cost xs = omega arith

pub lex_cost : {A : Type 0} (same : Bool) (xs ys : List A) → 24 * min (length xs) (length ys) + 12 ≤ 56 * row_cost (global.Lex same) (length xs ∷ length ys ∷ [])
unfolding line_of
lex_cost same xs ys = omega arith

pub precede_cost : {A : Type 0} (xs : List A) → 24 * length xs + 30 ≤ 56 * row_cost global.Precede (1 ∷ 1 ∷ length xs ∷ [])
unfolding line_of
precede_cost xs = omega arith
