-- What is asked of options: its nodes mean what the rows give.
use Rattle.std.proofs.Common.{◌≡◌, ◌∙◌, ℕ, ℤ, pos, Bool, true, false, not, ◌&&◌, [], ◌∷◌, Option, Some, None, refl, sym, ap, if◌then◌else◌, arith}
use Rattle.std.proofs.lemmas.Int.{ints}
use Rattle.std.specs.Option.{option_map}
use Rattle.std.specs.Ordering.{int_eq}
use Rattle.mz_value.specs.Contents.{Content}
use Rattle.mz_value.specs.Contents as values
use Rattle.mz_core.specs.declared.types.Base.{Base}
use Rattle.mz_core.specs.declared.types.Base.TheVariants as base
use Rattle.mz_operations.specs.declared.row.ScalarRow.TheVariants as row
use Rattle.mz_operations.specs.declared.row.MadeRow.TheVariants as made_row
use Rattle.mz_operations.specs.Views.{as_option, is_single, as_int}
use Rattle.mz_operations.specs.Arguments.{at, option_at}
use Rattle.mz_operations.specs.Arrays.{summand}
use Rattle.mz_operations.specs.Values.{scalar_value, made_value}
use Rattle.mz_arena.specs.Values.{Term, number, as_number, bit, is_true, holds, comparison_term, and_term, not_term, if_term, guard_term}
use Rattle.mz_symbol.specs.Symbols.{content_by, value_by}
use Rattle.mz_meaning.specs.Cells.{held}
use Rattle.mz_symbol.specs.declared.types.Symbol.{Symbol}
use Rattle.mz_symbol.specs.Readings.{Reading, symbol_seen}
use Rattle.mz_symbol_rows.specs.RowValues as rows
use Rattle.mz_symbol.specs.Arguments.{truth_of, as_argument}
use Rattle.mz_symbol_rows.specs.RowValues.{argument, row_value}
use Rattle.mz_symbol_rows.specs.OptionValues.{made_row_value, counted_as}
use Rattle.mz_symbol_rows.specs.StepsOptions.{IsOption, symbol_of, one, equal_where_term, value_term, summand_term}
use Rattle.mz_symbol_rows.proofs.OptionLaws.{option_of, of_option, truth_by, bit_true}

-- ---- whether an option is there

pub same_number : (n : ℤ) → int_eq n n ≡ true
same_number n = grind (arith, ints)

pub where_is : (o x y : Term) → bit (is_true o && holds (as_number x) (as_number y) int_eq) ≡ equal_where_term o x y
unfolding and_term comparison_term
where_is o x y = ap (λ p. bit (is_true o && p)) (sym (bit_true (holds (as_number x) (as_number y) int_eq)))

occurs_told : (b : Base) (o : Bool) (i : Option ℤ) → rows.is_single b ≡ true → truth_of (scalar_value row.Occurs (option_of b o i ∷ [])) ≡ Some (values.bool (o && holds i i int_eq))
unfolding scalar_value option_at at as_option is_single
occurs_told base.Bool false i h = refl
occurs_told base.Bool true None h = refl
occurs_told base.Bool true (Some n) h = ap (λ p. Some (values.bool p)) (sym (same_number n))
occurs_told base.Int false i h = refl
occurs_told base.Int true None h = refl
occurs_told base.Int true (Some n) h = ap (λ p. Some (values.bool p)) (sym (same_number n))
occurs_told (base.Enum e) false i h = refl
occurs_told (base.Enum e) true None h = refl
occurs_told (base.Enum e) true (Some n) h = ap (λ p. Some (values.bool p)) (sym (same_number n))
occurs_told b o i h = absurd (cc)

pub occurs_held : (r : Reading) (o id : ℕ) (a : Symbol) → IsOption o a → equal_where_term (r.term o) (r.term a.term) (r.term a.term) ≡ r.term id → held r.mode (truth_of (row_value r row.Occurs (a ∷ []))) ≡ symbol_seen r (symbol_of base.Bool None id)
occurs_held r o id a p e =
    let there : Bool = is_true (r.term o) && holds (as_number (r.term a.term)) (as_number (r.term a.term)) int_eq in
    of_option r (λ x. truth_of (scalar_value row.Occurs (x ∷ []))) o a (value_by base.Bool (r.term id)) p
    (occurs_told a.base (is_true (r.term o)) (as_number (r.term a.term)) p.single ∙ sym (truth_by there) ∙ ap (value_by base.Bool) (where_is (r.term o) (r.term a.term) (r.term a.term) ∙ e))

absent_told : (b : Base) (o : Bool) (i : Option ℤ) → rows.is_single b ≡ true → truth_of (scalar_value row.Absent (option_of b o i ∷ [])) ≡ Some (values.bool (not o))
unfolding scalar_value option_at at as_option is_single
absent_told base.Bool false i h = refl
absent_told base.Bool true None h = refl
absent_told base.Bool true (Some n) h = refl
absent_told base.Int false i h = refl
absent_told base.Int true None h = refl
absent_told base.Int true (Some n) h = refl
absent_told (base.Enum e) false i h = refl
absent_told (base.Enum e) true None h = refl
absent_told (base.Enum e) true (Some n) h = refl
absent_told b o i h = absurd (cc)

not_is : (o : Term) → bit (not (is_true o)) ≡ not_term o
unfolding not_term
not_is o = refl

pub absent_held : (r : Reading) (o id : ℕ) (a : Symbol) → IsOption o a → not_term (r.term o) ≡ r.term id → held r.mode (truth_of (row_value r row.Absent (a ∷ []))) ≡ symbol_seen r (symbol_of base.Bool None id)
absent_held r o id a p e =
    of_option r (λ x. truth_of (scalar_value row.Absent (x ∷ []))) o a (value_by base.Bool (r.term id)) p
    (absent_told a.base (is_true (r.term o)) (as_number (r.term a.term)) p.single ∙ sym (truth_by (not (is_true (r.term o)))) ∙ ap (value_by base.Bool) (not_is (r.term o) ∙ e))

-- ---- the value that is there

truth_told : (o : Bool) (i : Option ℤ) → as_argument base.Bool None (made_value made_row.Deopt (option_of base.Bool o i ∷ [])) ≡ Some (values.bool (o && holds i (Some (pos 1)) int_eq))
unfolding made_value option_at at as_option is_single
truth_told false i = refl
truth_told true None = refl
truth_told true (Some n) = refl

-- the value of what is there, and none of what is absent
abbrev only_there : Base → Bool → Option ℤ → Option Content
only_there b o i = if o then option_map (λ n. content_by b n []) i else None

int_told : (o : Bool) (i : Option ℤ) → made_value made_row.Deopt (option_of base.Int o i ∷ []) ≡ only_there base.Int o i
unfolding made_value option_at at as_option is_single
int_told false i = refl
int_told true None = refl
int_told true (Some n) = refl

case_told : (e : ℕ) (o : Bool) (i : Option ℤ) → made_value made_row.Deopt (option_of (base.Enum e) o i ∷ []) ≡ only_there (base.Enum e) o i
unfolding made_value option_at at as_option is_single
case_told e false i = refl
case_told e true None = refl
case_told e true (Some n) = refl

guard_is : (b : Base) (o x : Term) → rows.is_single b ≡ true → only_there b (is_true o) (as_number x) ≡ value_by b (guard_term o x)
unfolding guard_term
guard_is b o x h = by b h (is_true o)
  where
    by : (b : Base) → rows.is_single b ≡ true → (p : Bool) → only_there b p (as_number x) ≡ value_by b (if p then x else None)
    by base.Bool h true = refl
    by base.Bool h false = refl
    by base.Int h true = refl
    by base.Int h false = refl
    by (base.Enum e) h true = refl
    by (base.Enum e) h false = refl
    by b h p = absurd (cc)

deopt_told : (b : Base) (o x : Term) → rows.is_single b ≡ true → as_argument b None (made_value made_row.Deopt (option_of b (is_true o) (as_number x) ∷ [])) ≡ value_by b (value_term b o x)
deopt_told base.Bool o x h = truth_told (is_true o) (as_number x) ∙ sym (truth_by (is_true o && holds (as_number x) (Some (pos 1)) int_eq)) ∙ ap (value_by base.Bool) (where_is o x one)
deopt_told base.Int o x h = int_told (is_true o) (as_number x) ∙ guard_is base.Int o x refl
deopt_told (base.Enum e) o x h = case_told e (is_true o) (as_number x) ∙ guard_is (base.Enum e) o x refl
deopt_told b o x h = absurd (cc)

pub deopt_held : (r : Reading) (o id : ℕ) (a : Symbol) → IsOption o a → value_term a.base (r.term o) (r.term a.term) ≡ r.term id → held r.mode (as_argument a.base None (made_row_value r made_row.Deopt (a ∷ []))) ≡ symbol_seen r (symbol_of a.base None id)
deopt_held r o id a p e =
    of_option r (λ x. as_argument a.base None (made_value made_row.Deopt (x ∷ []))) o a (value_by a.base (r.term id)) p
    (deopt_told a.base (r.term o) (r.term a.term) p.single ∙ ap (value_by a.base) e)

-- ---- an element of a sum

counted_told : (o : Bool) (i : Option ℤ) → counted_as (option_of base.Int o i) ≡ option_map (λ n. values.int n) (if o then i else Some (pos 0))
unfolding summand as_int
counted_told false i = refl
counted_told true None = refl
counted_told true (Some n) = refl

summand_is : (o x : Term) → option_map (λ n. values.int n) (if is_true o then as_number x else Some (pos 0)) ≡ value_by base.Int (summand_term o x)
unfolding if_term
summand_is o x = by (is_true o)
  where
    by : (p : Bool) → option_map (λ n. values.int n) (if p then as_number x else Some (pos 0)) ≡ value_by base.Int (if p then x else Some (number (pos 0)))
    by true = refl
    by false = refl

pub summand_held : (r : Reading) (o id : ℕ) (a : Symbol) → IsOption o a → a.base ≡ base.Int → summand_term (r.term o) (r.term a.term) ≡ r.term id → held r.mode (counted_as (argument r a)) ≡ symbol_seen r (symbol_of base.Int None id)
summand_held r o id a p h e =
    of_option r counted_as o a (value_by base.Int (r.term id)) p
    (ap (λ b. counted_as (option_of b (is_true (r.term o)) (as_number (r.term a.term)))) h ∙ counted_told (is_true (r.term o)) (as_number (r.term a.term)) ∙ summand_is (r.term o) (r.term a.term) ∙ ap (value_by base.Int) e)
