-- Rows over lines: lines that are there already, and what the row's node pays for.
use Rattle.std.proofs.Common.{◌≡◌, ◌∙◌, ℕ, ◌+◌, ◌*◌, ◌^◌, ◌≤◌, ◌<◌, min, true, List, [], ◌∷◌, Option, Some, None, refl, sym, ap, arith}
use Rattle.std.specs.Prelude.{IfSome, unwrap_or}
use Rattle.std.specs.Option.{option_map}
use Rattle.mz_value.specs.Ranges.{Range}
use Rattle.mz_value.specs.Contents.{Content, contents}
use Rattle.mz_value.specs.Contents as values
use Rattle.mz_operations.specs.declared.row.ScalarRow.{ScalarRow}
use Rattle.mz_operations.specs.declared.row.ScalarRow.TheVariants as scalar
use Rattle.mz_operations.specs.declared.row.MadeRow.{MadeRow}
use Rattle.mz_operations.specs.declared.row.MadeRow.TheVariants as made
use Rattle.mz_operations.specs.declared.row.Row.TheVariants.{Made, Scalar}
use Rattle.mz_operations.specs.Costs.{cost, counts_from, made_counts, scalar_counts}
use Rattle.mz_meaning.specs.Cells.{Mode, Blank, Given, held, length_of, or_zero}
use Rattle.mz_meaning.specs.Operations.{own_size, row_cost, size_of}
use Rattle.mz_symbol.specs.Readings.{Reading}
use Rattle.mz_symbol_arrays.specs.LineValues.{array_argument}
use Rattle.mz_eval_cells.specs.declared.types.Known.{Known}
use Rattle.mz_eval_cells.specs.declared.types.VarItems.{VarItems}
use Rattle.mz_eval_cells.specs.declared.types.Origins.TheVariants as origins
use Rattle.mz_eval_cells.specs.Views.{array_of, cast_by, cell_of, origins_value, row_content}
use Rattle.mz_eval_symbols.specs.Taken.{count_in}
use Rattle.mz_eval_row_symbols.specs.StepsRows.{takes_array, takes_sets}

held_twice : (m : Mode) (v : Option Content) → held m v ≡ held m (held m v)
held_twice (Blank n) v = refl
held_twice (Given f) v = refl

-- the elements of a line, as an array
array_is : (m : Mode) (ix : List Range) (v : Option (List Content)) → held m (option_map (λ xs. values.array ix (contents xs)) v) ≡ held m (array_of ix v)
array_is m ix None = refl
array_is m ix (Some xs) = refl

line_told : (r : Reading) (ix : List Range) (n : ℕ) (xs : VarItems) → xs.cast ≡ None → xs.origins ≡ origins.Line n → array_argument r ix n ≡ held r.mode (held r.mode (row_content r.line ix xs))
line_told r ix n xs e f =
    array_is r.mode ix (r.line n)
    ∙ ap (λ o. held r.mode (array_of ix (origins_value r.line o))) (sym f)
    ∙ ap (λ b. held r.mode (cast_by b (array_of ix (origins_value r.line xs.origins)))) (sym e)
    ∙ held_twice r.mode (row_content r.line ix xs)

-- a line that is there
pub number_told : (ix : List Range) (xs : VarItems) (o : Option ℕ) → xs.cast ≡ None → IfSome o (λ n. xs.origins ≡ origins.Line n) → IfSome o (λ n. (r : Reading) → array_argument r ix n ≡ held r.mode (held r.mode (row_content r.line ix xs)))
number_told ix xs None e h = tt
number_told ix xs (Some n) e h = λ r. line_told r ix n xs e h

-- ---- charges

count_size : (o : Option ℕ) (n : ℕ) → or_zero o ≤ unwrap_or o n
count_size None n = omega arith
count_size (Some k) n = omega arith

paid_for : (c n : ℕ) → c ≤ n → c < 2 ^ 60 → 64 * c + 28 ≤ 64 * (1 + min (2 ^ 62) (1 + (0 + n)))
paid_for c n h p = omega (arith, h, p)

-- what a row of an array spends pays for its elements
pub array_pays : (w : ScalarRow) (k : Known) → takes_array w ≡ true → count_in k < 2 ^ 60 → 64 * count_in k + 28 ≤ 64 * (1 + row_cost (Scalar w) (cell_of k ∷ []))
unfolding cost counts_from scalar_counts
array_pays (scalar.Fold op) k e h = paid_for (count_in k) (size_of (cell_of k)) (count_size (length_of (cell_of k)) (own_size (cell_of k))) h
array_pays (scalar.Quantified op) k e h = paid_for (count_in k) (size_of (cell_of k)) (count_size (length_of (cell_of k)) (own_size (cell_of k))) h
array_pays scalar.Count k e h = paid_for (count_in k) (size_of (cell_of k)) (count_size (length_of (cell_of k)) (own_size (cell_of k))) h
array_pays (scalar.Extreme side) k e h = paid_for (count_in k) (size_of (cell_of k)) (count_size (length_of (cell_of k)) (own_size (cell_of k))) h
array_pays w k e h = absurd (cc)

pub sets_pay : (w : MadeRow) (k : Known) → takes_sets w ≡ true → count_in k < 2 ^ 60 → 64 * count_in k + 28 ≤ 64 * (1 + row_cost (Made w) (cell_of k ∷ []))
unfolding cost counts_from made_counts
sets_pay made.ArrayUnion k e h = paid_for (count_in k) (size_of (cell_of k)) (count_size (length_of (cell_of k)) (own_size (cell_of k))) h
sets_pay made.ArrayIntersect k e h = paid_for (count_in k) (size_of (cell_of k)) (count_size (length_of (cell_of k)) (own_size (cell_of k))) h
sets_pay w k e h = absurd (cc)

-- `clause` pays for the elements of both arrays
both_paid : (c d n m : ℕ) → c ≤ n → d ≤ m → c < 2 ^ 60 → d < 2 ^ 60 → 58 * c + 58 * d + 76 ≤ 64 * (1 + min (2 ^ 62) (1 + (0 + n + m)))
both_paid c d n m h k p q = omega (arith, h, k, p, q)

pub clause_pays : (a b : Known) → count_in a < 2 ^ 60 → count_in b < 2 ^ 60 → 58 * count_in a + 58 * count_in b + 76 ≤ 64 * (1 + row_cost (Scalar scalar.Clause) (cell_of a ∷ cell_of b ∷ []))
unfolding cost counts_from scalar_counts
clause_pays a b p q = both_paid (count_in a) (count_in b) (size_of (cell_of a)) (size_of (cell_of b)) (count_size (length_of (cell_of a)) (own_size (cell_of a))) (count_size (length_of (cell_of b)) (own_size (cell_of b))) p q
