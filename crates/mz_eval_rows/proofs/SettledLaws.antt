-- Rows whose arguments' values no node tells.
use Rattle.std.proofs.Common.{◌≡◌, ◌∙◌, ℕ, ℤ, Bool, true, false, ◌&&◌, List, [], ◌∷◌, map, pos, Option, Some, None, Result, Ok, Err, IfOk, refl, sym, ap, subst, if◌then◌else◌}
use Rattle.std.specs.Option.{option_map, option_and_then}
use Rattle.mz_base.specs.declared.fault.Span.{Span}
use Rattle.mz_base.specs.declared.kind.Kind.TheVariants as kind
use Rattle.mz_value.specs.Ranges.{Range}
use Rattle.mz_value.specs.Contents.{Content}
use Rattle.mz_value.specs.Contents as values
use Rattle.mz_value.specs.Shown.{Names}
use Rattle.std.specs.Ordering.{int_eq}
use Rattle.std.proofs.lemmas.Bool.{and_parts}
use Rattle.std.proofs.lemmas.Bool.Decides.{Decides-int_eq}
use Rattle.mz_operations.specs.Sets.{same_set}
use Rattle.mz_interval.specs.Ends.{is_number}
use Rattle.mz_core.specs.declared.types.Base.{Base}
use Rattle.mz_core.specs.Types.{PlainType}
use Rattle.mz_operations.specs.declared.row.Fold.{Fold}
use Rattle.mz_operations.specs.declared.row.ScalarRow.TheVariants as scalar
use Rattle.mz_operations.specs.declared.row.Row.{Row}
use Rattle.mz_operations.specs.declared.row.Row.TheVariants.{Scalar, Made}
use Rattle.mz_operations.specs.Views.{as_int}
use Rattle.mz_operations.specs.Arguments.{at, int_at, items_at}
use Rattle.mz_operations.specs.Answers.{Answer, Gives, Stops, unless_negative, is_mismatched, negative, is_failed, limited, answer}
use Rattle.mz_operations.specs.Values.{value, scalar_value, power}
use Rattle.mz_meaning.specs.Exact.{exact_value, exact_power}
use Rattle.mz_meaning.specs.Runs.{State, Out}
use Rattle.mz_meaning.specs.Cells.{Cell, Par, Mode, Blank, Given, Bare, all_par, held, is_par, value_of}
use Rattle.mz_meaning.specs.Coerced.{recast}
use Rattle.mz_meaning.specs.Operations.{known_names, par_answer, par_row, reads_bounds, row_cell, var_row}
use Rattle.mz_operations.specs.RowBounds.{value_by_bounds}
use Rattle.mz_meaning.specs.Cells.{bounds_in}
use Rattle.mz_meaning.specs.Runs.{Run, give}
use Rattle.mz_symbol.proofs.ConstantLaws.{out_value}
use Rattle.mz_symbol.specs.Readings.{Reading, blank}
use Rattle.mz_base.specs.declared.stop.Memory.{Memory}
use Rattle.mz_eval_cells.specs.declared.types.Known.{Known}
use Rattle.mz_eval_cells.specs.declared.types.Known.TheVariants as known
use Rattle.mz_eval_cells.specs.Views.{cell_of, seen}
use Rattle.mz_eval_row_symbols.specs.NodeRows.{var_value}
use Rattle.mz_eval_rows.specs.Settled.{IsExact, IsSettled, is_fold, is_plain, is_power}

-- ---- values that no node tells

pub held_twice : (m : Mode) (v : Option Content) → held m (held m v) ≡ held m v
held_twice (Blank n) v = refl
held_twice (Given f) v = refl

par_seen : (r : Reading) (k : Known) → is_par (cell_of k) ≡ true → seen r k ≡ cell_of k
par_seen r known.Undefined h = refl
par_seen r (known.One i) h = refl
par_seen r (known.Array ix xs) h = refl
par_seen r (known.Var x) h = absurd (cc)
par_seen r (known.Row ix xs) h = absurd (cc)
par_seen r (known.Unshaped d) h = absurd (cc)

pub par_settled : (k x : Known) → is_par (cell_of k) ≡ true → cell_of x ≡ cell_of k → IsSettled k x
par_settled k x p f = record {
  par = ap (λ c. is_par c) f ∙ p;
  value = λ r. ap (λ c. held r.mode (value_of c)) (par_seen r k p ∙ sym f);
}

pub told_settled : (k : Known) (v : Reading → Option Content) (o : Result Known Memory) → ((r : Reading) → value_of (seen r k) ≡ held r.mode (v r)) → IfOk o (λ c. (r : Reading) → Par (v r) ≡ cell_of c) → IfOk o (IsSettled k)
told_settled k v (Ok c) e f = record {
  par = ap (λ y. is_par y) (sym (f blank));
  value = λ r. ap (held r.mode) (e r) ∙ held_twice r.mode (v r) ∙ ap (λ y. held r.mode (value_of y)) (f r);
}
told_settled k v (Err m) e f = tt

pub unshaped_settled : (k : Known) (d : ℕ) → k ≡ known.Unshaped d → IsSettled k known.Undefined
unshaped_settled k d e = record { par = refl; value = λ r. ap (λ y. held r.mode (value_of (seen r y))) e }

-- ---- rows that are exact

pub plain_exact : (row : Row) (vs : List (Option Content)) → is_plain row ≡ true → IsExact row vs
plain_exact row vs h = record { value = λ names. same names row vs h; shown = λ names. there names row vs h }
  where
    same : (names : Names) (row : Row) (vs : List (Option Content)) → is_plain row ≡ true → exact_value names row vs ≡ value names row vs
    same names (Scalar (scalar.Fold op)) vs h = absurd (cc)
    same names (Scalar scalar.Power) vs h = absurd (cc)
    same names (Scalar w) vs h = refl
    same names (Made w) vs h = refl
    same names row vs h = absurd (cc)

    there : (names : Names) (row : Row) (vs : List (Option Content)) → is_plain row ≡ true → known_names names row vs ≡ true
    there names (Scalar w) vs h = refl
    there names (Made w) vs h = refl
    there names row vs h = absurd (cc)

fold_exact : (op : Fold) → IsExact (Scalar (scalar.Fold op)) (None ∷ [])
unfolding scalar_value items_at at
fold_exact op = record { value = λ names. refl; shown = λ names. refl }

base_exact : (v : Option Content) → IsExact (Scalar scalar.Power) (None ∷ v ∷ [])
unfolding scalar_value int_at at
base_exact v = record { value = λ names. refl; shown = λ names. refl }

exponent_exact : (v : Option Content) → IsExact (Scalar scalar.Power) (v ∷ None ∷ [])
unfolding scalar_value int_at at
exponent_exact v = record { value = λ names. by (option_and_then as_int v); shown = λ names. refl }
  where
    by : (o : Option ℤ) → option_and_then (λ x. option_and_then (λ k. option_and_then (λ n. Some (values.int n)) (exact_power x k)) None) o ≡ option_and_then (λ x. option_and_then (λ k. option_and_then (λ n. Some (values.int n)) (power x k)) None) o
    by None = refl
    by (Some x) = refl

pub folded_exact : (row : Row) (c : Cell) → is_fold row ≡ true → c ≡ Par None → IsExact row (value_of c ∷ [])
folded_exact (Scalar (scalar.Fold op)) c p e = subst (λ x. IsExact (Scalar (scalar.Fold op)) (value_of x ∷ [])) (sym e) (fold_exact op)
folded_exact row c p e = absurd (cc)

pub base_undefined : (a b : Cell) → a ≡ Par None → IsExact (Scalar scalar.Power) (value_of a ∷ value_of b ∷ [])
base_undefined a b e = subst (λ x. IsExact (Scalar scalar.Power) (value_of x ∷ value_of b ∷ [])) (sym e) (base_exact (value_of b))

pub exponent_undefined : (a b : Cell) → b ≡ Par None → IsExact (Scalar scalar.Power) (value_of a ∷ value_of b ∷ [])
exponent_undefined a b e = subst (λ x. IsExact (Scalar scalar.Power) (value_of a ∷ value_of x ∷ [])) (sym e) (exponent_exact (value_of a))

pub power_is : (row : Row) → is_power row ≡ true → Scalar scalar.Power ≡ row
power_is (Scalar scalar.Power) p = refl
power_is row p = absurd (cc)

-- ---- what a row of par arguments answers

abbrev GivesOnly : Answer → Option Content → Type 0
GivesOnly (Gives w) v = w ≡ v
GivesOnly (Stops k n) v = Unit {0}

number_only : (n : ℤ) (b : Bool) → GivesOnly (if b then Gives (Some (values.int n)) else Stops kind.Bounds n) (Some (values.int n))
number_only n true = refl
number_only n false = tt

limited_only : (v : Option Content) → GivesOnly (limited v) v
unfolding limited
limited_only None = refl
limited_only (Some (values.int n)) = number_only n (is_number n)
limited_only (Some x) = refl

answer_only : (names : Names) (row : Row) (vs : List (Option Content)) → GivesOnly (answer names row vs) (value names row vs)
answer_only names row vs = by (is_mismatched row vs) (negative row vs) (is_failed row vs)
  where
    by : (p : Bool) (n : Option ℤ) (q : Bool) → GivesOnly (if p then Stops kind.IndexMismatch (pos 0) else unless_negative n (if q then Stops kind.AssertFailed (pos 0) else limited (value names row vs))) (value names row vs)
    by true n q = tt
    by false (Some n) q = tt
    by false None true = tt
    by false None false = limited_only (value names row vs)

answered : (b : Base) (place : Span) (a : Answer) (v : Option Content) (c : Cell) (s : State) → GivesOnly a v → par_answer b place a s ≡ Out c s → option_map (recast b) v ≡ value_of c
answered b place (Gives w) v c s e h = ap (option_map (recast b)) (sym e) ∙ ap value_of (out_value h)
answered b place (Stops k n) v c s e h = absurd (cc)

par_exact : (names : Names) (row : Row) (b : Base) (place : Span) (vs : List (Option Content)) (c : Cell) (s : State) → IsExact row vs → par_row names row b place vs s ≡ Out c s → option_map (recast b) (exact_value names row vs) ≡ value_of c
par_exact names row b place vs c s x h =
    ap (option_map (recast b)) (x.value names)
    ∙ answered b place (answer names row vs) (value names row vs) c s (answer_only names row vs)
    (ap (λ p. par_answer b place (if p then answer names row vs else Gives None) s) (sym (x.shown names)) ∙ h)

-- WHAT A ROW TELLS of arguments whose values these par cells have is what it gives of them
pub settled_told : (m : Mode) (names : Names) (row : Row) (t : PlainType) (place : Span) (ks xs : List Cell) (c : Cell) (s : State) → all_par xs ≡ true → IsExact row (map value_of xs) → map (λ k. held m (value_of k)) ks ≡ map (λ x. held m (value_of x)) xs → row_cell Bare names row t place xs s ≡ Out c s → var_value m names row t ks ≡ held m (value_of c)
settled_told (Blank n) names row t place ks xs c s p x e h = refl
settled_told (Given f) names row t place ks xs c s p x e h =
    let other : Run Cell = if reads_bounds row then give (Par (option_map (recast t.base) (value_by_bounds row (map bounds_in xs)))) else var_row Bare names row t place xs in
    ap (λ vs. option_map (recast t.base) (exact_value names row vs)) e
    ∙ par_exact names row t.base place (map value_of xs) c s x
    (sym (ap (λ b. (if b then par_row names row t.base place (map value_of xs) else other) s) p) ∙ h)

-- ---- index ranges

pub index_equal : (xs ys : List Range) → same_set xs ys ≡ true → xs ≡ ys
unfolding same_set
index_equal [] [] h = refl
index_equal [] (y ∷ ys) h = absurd (cc)
index_equal (x ∷ xs) [] h = absurd (cc)
index_equal (x ∷ xs) (y ∷ ys) h =
    let both = and_parts (int_eq x.0 y.0 && int_eq x.1 y.1) (same_set xs ys) h in
    let ends = and_parts (int_eq x.0 y.0) (int_eq x.1 y.1) both.0 in
    ap (λ n. (n, x.1) ∷ xs) ((Decides-int_eq x.0 y.0).0 ends.0) ∙ ap (λ n. (y.0, n) ∷ xs) ((Decides-int_eq x.1 y.1).0 ends.1) ∙ ap (λ zs. y ∷ zs) (index_equal xs ys both.1)
