-- `++` of two arrays of which one is a run's.
use Rattle.std.proofs.Common.{◌≡◌, ◌∙◌, ℕ, ◌+◌, ◌*◌, ◌^◌, ◌≤◌, ◌<◌, pos, min, Bool, true, false, ◌&&◌, List, [], ◌∷◌, ◌++◌, length, Option, Some, None, refl, sym, ap, arith}
use Rattle.std.specs.Prelude.{unwrap_or}
use Rattle.std.specs.Option.{option_map, option_and_then}
use Rattle.mz_value.specs.Ranges.{Range}
use Rattle.mz_value.specs.Contents.{Content, contents}
use Rattle.mz_value.specs.Contents as values
use Rattle.mz_value.specs.Shown.{Names}
use Rattle.mz_core.specs.declared.types.Base.{Base}
use Rattle.mz_core.specs.Types.{PlainType}
use Rattle.mz_operations.specs.declared.row.MadeRow.TheVariants as made
use Rattle.mz_operations.specs.declared.row.Row.TheVariants.{Made}
use Rattle.mz_operations.specs.Arguments.{Arguments, at, row_at}
use Rattle.mz_operations.specs.Arrays.{line}
use Rattle.mz_operations.specs.Costs.{cost, counts_from, made_counts}
use Rattle.mz_operations.specs.Values.{made_value}
use Rattle.mz_operations.specs.Views.{as_row}
use Rattle.mz_builtin_arguments.proofs.Views.{items_in_contents}
use Rattle.mz_meaning.specs.Cells.{Mode, Blank, Given, held, length_of, or_zero, value_of}
use Rattle.mz_meaning.specs.Coerced.{recast}
use Rattle.mz_meaning.specs.Operations.{own_size, row_cost, size_of}
use Rattle.mz_symbol.specs.Runs.{Run}
use Rattle.mz_symbol.specs.Readings.{Reading, Reads}
use Rattle.mz_symbol.specs.Makes.{GoesOnBy}
use Rattle.mz_symbol_arrays.specs.LineValues.{IsLineOf, array_argument}
use Rattle.mz_symbol_access.specs.JoinValues.{joined_line, joined_values}
use Rattle.mz_eval_cells.specs.declared.types.Known.{Known}
use Rattle.mz_eval_cells.specs.Views.{cell_of, seen}
use Rattle.mz_eval_symbols.specs.Taken.{cell_value, count_in, line_seen, ranges_in}
use Rattle.mz_eval_arrays.specs.Told.{is_told}
use Rattle.mz_eval_arrays.proofs.Missing.{held_none, untold}
use Rattle.mz_eval_row_symbols.specs.NodeRows.{var_value}
use Rattle.mz_eval_rows.specs.StepsCells.{HasCount}
use Rattle.mz_eval_rows.proofs.HandedLaws.{line_count, recast_array}
use Rattle.mz_eval_rows.specs.StepsJoined.{line_as, listed}

-- an array with these elements, where they are there
abbrev array_on : List Range → Option (List Content) → Option Content
array_on ix o = option_map (λ xs. values.array ix (contents xs)) o

-- ---- the value

one_row : (ix : List Range) (xs : List Content) → length ix ≡ 1 → as_row (values.array ix (contents xs)) ≡ Some xs
unfolding as_row
one_row [] xs e = absurd (omega (arith, e))
one_row (r ∷ []) xs e = ap Some (items_in_contents xs)
one_row (r ∷ s ∷ ix) xs e = absurd (omega (arith, e))

row_there : (args : Arguments) (k : ℕ) (ix : List Range) (o : Option (List Content)) → length ix ≡ 1 → at args k ≡ array_on ix o → row_at args k ≡ o
unfolding row_at
row_there args k ix None e f = ap (option_and_then as_row) f
row_there args k ix (Some xs) e f = ap (option_and_then as_row) f ∙ one_row ix xs e

both_listed : (b : Base) (o p : Option (List Content)) → option_map (recast b) (option_and_then (λ xs. option_and_then (λ ys. Some (line (xs ++ ys))) p) o) ≡ listed b (joined_values o p)
both_listed b None p = refl
both_listed b (Some xs) None = refl
both_listed b (Some xs) (Some ys) = refl

concat_is : (b : Base) (v w : Option Content) (ix jx : List Range) (o p : Option (List Content)) → length ix ≡ 1 → length jx ≡ 1 → v ≡ array_on ix o → w ≡ array_on jx p → option_map (recast b) (made_value made.Concat (v ∷ w ∷ [])) ≡ listed b (joined_values o p)
unfolding made_value at
concat_is b v w ix jx o p e f g h =
    ap (λ a. option_map (recast b) (option_and_then (λ xs. option_and_then (λ ys. Some (line (xs ++ ys))) (row_at (v ∷ w ∷ []) 1)) a)) (row_there (v ∷ w ∷ []) 0 ix o e g)
    ∙ ap (λ a. option_map (recast b) (option_and_then (λ xs. option_and_then (λ ys. Some (line (xs ++ ys))) a) o)) (row_there (v ∷ w ∷ []) 1 jx p f h)
    ∙ both_listed b o p

by_mode : (m : Mode) (b : Base) (v w : Option Content) (ix jx : List Range) (o p q : Option (List Content)) → length ix ≡ 1 → length jx ≡ 1 → held m v ≡ held m (array_on ix o) → held m w ≡ held m (array_on jx p) → joined_values o p ≡ q → held m (option_map (recast b) (made_value made.Concat (v ∷ w ∷ []))) ≡ held m (listed b q)
by_mode (Blank k) b v w ix jx o p q e f g h i = refl
by_mode (Given k) b v w ix jx o p q e f g h i = concat_is b v w ix jx o p e f g h ∙ ap (listed b) i

pub joined_told : (r : Reading) (names : Names) (t : PlainType) (a b : Known) (x y n : ℕ) → length (ranges_in a) ≡ 1 → length (ranges_in b) ≡ 1 → cell_value r a ≡ line_seen a r x → cell_value r b ≡ line_seen b r y → joined_line r x y ≡ r.line n → var_value r.mode names (Made made.Concat) t (seen r a ∷ seen r b ∷ []) ≡ line_as t r n
joined_told r names t a b x y n e f g h i = by_mode r.mode t.base (value_of (seen r a)) (value_of (seen r b)) (ranges_in a) (ranges_in b) (r.line x) (r.line y) (r.line n) e f g h i

-- ---- what is undefined wherever it is read

row_none : (args : Arguments) (k : ℕ) → at args k ≡ None → row_at args k ≡ None
unfolding row_at
row_none args k f = ap (option_and_then as_row) f

none_then : (b : Base) (o : Option (List Content)) → option_map (recast b) (option_and_then (λ xs. option_and_then (λ ys. Some (line (xs ++ ys))) None) o) ≡ None
none_then b None = refl
none_then b (Some xs) = refl

first_none : (b : Base) (v w : Option Content) → v ≡ None → option_map (recast b) (made_value made.Concat (v ∷ w ∷ [])) ≡ None
unfolding made_value at
first_none b v w e = ap (λ a. option_map (recast b) (option_and_then (λ xs. option_and_then (λ ys. Some (line (xs ++ ys))) (row_at (v ∷ w ∷ []) 1)) a)) (row_none (v ∷ w ∷ []) 0 e)

second_none : (b : Base) (v w : Option Content) → w ≡ None → option_map (recast b) (made_value made.Concat (v ∷ w ∷ [])) ≡ None
unfolding made_value at
second_none b v w e =
    ap (λ a. option_map (recast b) (option_and_then (λ xs. option_and_then (λ ys. Some (line (xs ++ ys))) a) (row_at (v ∷ w ∷ []) 0))) (row_none (v ∷ w ∷ []) 1 e)
    ∙ none_then b (row_at (v ∷ w ∷ []) 0)

pub untold_joined : (r : Reading) (names : Names) (t : PlainType) (a b : Known) → (is_told a && is_told b) ≡ false → var_value r.mode names (Made made.Concat) t (seen r a ∷ seen r b ∷ []) ≡ None
untold_joined r names t a b h = by (is_told a) refl h
  where
    by : (q : Bool) → is_told a ≡ q → (q && is_told b) ≡ false → var_value r.mode names (Made made.Concat) t (seen r a ∷ seen r b ∷ []) ≡ None
    by false e g = ap (held r.mode) (first_none t.base (value_of (seen r a)) (value_of (seen r b)) (untold r a e)) ∙ held_none r.mode
    by true e g = ap (held r.mode) (second_none t.base (value_of (seen r a)) (value_of (seen r b)) (untold r b g)) ∙ held_none r.mode

-- ---- the cell

lined_by : (m : Mode) (b : Base) (ix : List Range) (o : Option (List Content)) (n : ℕ) → HasCount o n → ix ≡ (pos 1, pos n) ∷ [] → held m (listed b o) ≡ held m (array_on ix o)
lined_by (Blank k) b ix o n h e = refl
lined_by (Given k) b ix None n h e = refl
lined_by (Given k) b ix (Some zs) n h e =
    ap (λ c. Some c) (recast_array b ((pos 1, pos (length zs)) ∷ []) (contents zs))
    ∙ ap (λ i. Some (values.array ((pos 1, pos i) ∷ []) (contents zs))) h
    ∙ ap (λ jx. Some (values.array jx (contents zs))) (sym e)

pub lined : (r : Reading) (s : Run) (t : PlainType) (ix : List Range) (k d n : ℕ) → Reads r s → IsLineOf s k d n → ix ≡ (pos 1, pos n) ∷ [] → line_as t r k ≡ array_argument r ix k
lined r s t ix k d n h l e = lined_by r.mode t.base ix (r.line k) n (line_count r s k n l.line h l.stands l.count) e

-- ---- charges

count_size : (o : Option ℕ) (n : ℕ) → or_zero o ≤ unwrap_or o n
count_size None n = omega arith
count_size (Some k) n = omega arith

both_paid : (c d n m : ℕ) → c ≤ n → d ≤ m → c < 2 ^ 60 → d < 2 ^ 60 → 40 * c + 40 * d + 6 ≤ 64 * (1 + min (2 ^ 62) (1 + (0 + n + m)))
both_paid c d n m h k p q = omega (arith, h, k, p, q)

-- what a row spends pays for the elements of both arrays
pub concat_pays : (a b : Known) → count_in a < 2 ^ 60 → count_in b < 2 ^ 60 → 40 * count_in a + 40 * count_in b + 6 ≤ 64 * (1 + row_cost (Made made.Concat) (cell_of a ∷ cell_of b ∷ []))
unfolding cost counts_from made_counts
concat_pays a b p q = both_paid (count_in a) (count_in b) (size_of (cell_of a)) (size_of (cell_of b)) (count_size (length_of (cell_of a)) (own_size (cell_of a))) (count_size (length_of (cell_of b)) (own_size (cell_of b))) p q

pub line_paid : (c d x y : ℕ) → x ≡ c → y ≡ d → 20 * c + 20 * d + (20 * x + 20 * y + 6) ≤ 40 * c + 40 * d + 6
line_paid c d x y e f = omega (arith, e, f)

-- nothing is made
pub goes_same : (n : ℕ) (s : Run) → GoesOnBy n s s
goes_same n s = record { back = λ r h. h; paid = omega arith }
