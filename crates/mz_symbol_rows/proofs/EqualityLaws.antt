-- Equality of options: its nodes mean what the rows give.
use Rattle.std.proofs.Common.{◌≡◌, ◌∙◌, ℕ, ℤ, pos, Bool, true, false, not, ◌&&◌, ◌||◌, [], ◌∷◌, Option, Some, None, refl, sym, ap, if◌then◌else◌}
use Rattle.std.proofs.lemmas.Bool.{eq-eqb}
use Rattle.std.specs.Option.{option_map}
use Rattle.std.specs.Ordering.{int_eq}
use Rattle.mz_value.specs.Contents.{Content}
use Rattle.mz_value.specs.Contents as values
use Rattle.mz_core.specs.declared.types.Base.{Base}
use Rattle.mz_core.specs.declared.types.Base.TheVariants as base
use Rattle.mz_operations.specs.declared.row.ScalarRow.TheVariants as row
use Rattle.mz_operations.specs.Views.{◌>>=◌, as_pair, as_option, is_single, number_of_bool}
use Rattle.mz_operations.specs.Arguments.{at, option_at}
use Rattle.mz_operations.specs.Numbers.{same}
use Rattle.mz_operations.specs.Values.{scalar_value, equality}
use Rattle.mz_arena.specs.Values.{Term, as_number, bit, is_true, holds, comparison_term, and_term, or_term, not_term, if_term}
use Rattle.mz_symbol.specs.Symbols.{is_one, value_by}
use Rattle.mz_meaning.specs.Cells.{held}
use Rattle.mz_symbol.specs.declared.types.Symbol.{Symbol}
use Rattle.mz_symbol.specs.Readings.{Reading, symbol_seen}
use Rattle.mz_symbol_rows.specs.RowValues as rows
use Rattle.mz_symbol.specs.Arguments.{truth_of}
use Rattle.mz_symbol_rows.specs.RowValues.{row_value}
use Rattle.mz_symbol_rows.specs.StepsOptions.{AreOptions, symbol_of, differ, same_term, other_term, equal_term, unequal_there_term, unequal_term, equal_where_term}
use Rattle.mz_symbol_rows.proofs.OptionLaws.{option_of, of_options, truth_by, bit_true}
use Rattle.mz_symbol_rows.proofs.AskingLaws.{same_number, where_is}

case_pair : (e : ℕ) (i j : ℤ) → as_pair (values.case e i) (values.case e j) ≡ Some (i, j)
unfolding as_pair
case_pair e i j = ap (λ b. if b then Some (i, j) else None) (eq-eqb e e refl)

same_bits : (p q : Bool) → int_eq (number_of_bool p) (number_of_bool q) ≡ same p q
same_bits true true = refl
same_bits true false = refl
same_bits false true = refl
same_bits false false = refl

abbrev same_ones : ℤ → ℤ → Bool
same_ones i j = same (is_one i) (is_one j)

abbrev other_ones : ℤ → ℤ → Bool
other_ones i j = not (same (is_one i) (is_one j))

-- whether two values that are there are equal, and whether they differ
abbrev same_told : Base → Option ℤ → Option ℤ → Bool
same_told base.Bool i j = holds i j same_ones
same_told b i j = holds i j int_eq

abbrev other_told : Base → Option ℤ → Option ℤ → Bool
other_told base.Bool i j = holds i j other_ones
other_told b i j = holds i j differ

-- ---- the nodes

alike_bits : (i j : Option ℤ) → bit (is_true (bit (is_true (bit (holds i (Some (pos 1)) int_eq)) && is_true (bit (holds j (Some (pos 1)) int_eq)))) || is_true (bit (is_true (bit (holds i (Some (pos 1)) differ)) && is_true (bit (holds j (Some (pos 1)) differ))))) ≡ bit (holds i j same_ones)
alike_bits None None = refl
alike_bits None (Some m) = refl
alike_bits (Some n) None = by (int_eq n (pos 1))
  where
    by : (p : Bool) → bit (is_true (bit (is_true (bit p) && false)) || is_true (bit (is_true (bit (not p)) && false))) ≡ bit false
    by true = refl
    by false = refl
alike_bits (Some n) (Some m) = by (int_eq n (pos 1)) (int_eq m (pos 1))
  where
    by : (p q : Bool) → bit (is_true (bit (is_true (bit p) && is_true (bit q))) || is_true (bit (is_true (bit (not p)) && is_true (bit (not q))))) ≡ bit (same p q)
    by true true = refl
    by true false = refl
    by false true = refl
    by false false = refl

other_bits : (i j : Option ℤ) → bit (is_true (bit (is_true (bit (holds i (Some (pos 1)) int_eq)) && is_true (bit (holds j (Some (pos 1)) differ)))) || is_true (bit (is_true (bit (holds i (Some (pos 1)) differ)) && is_true (bit (holds j (Some (pos 1)) int_eq))))) ≡ bit (holds i j other_ones)
other_bits None None = refl
other_bits None (Some m) = refl
other_bits (Some n) None = by (int_eq n (pos 1))
  where
    by : (p : Bool) → bit (is_true (bit (is_true (bit p) && false)) || is_true (bit (is_true (bit (not p)) && false))) ≡ bit false
    by true = refl
    by false = refl
other_bits (Some n) (Some m) = by (int_eq n (pos 1)) (int_eq m (pos 1))
  where
    by : (p q : Bool) → bit (is_true (bit (is_true (bit p) && is_true (bit (not q)))) || is_true (bit (is_true (bit (not p)) && is_true (bit q)))) ≡ bit (not (same p q))
    by true true = refl
    by true false = refl
    by false true = refl
    by false false = refl

same_is : (b : Base) (x y : Term) → same_term b x y ≡ bit (same_told b (as_number x) (as_number y))
unfolding comparison_term and_term or_term
same_is base.Bool x y = alike_bits (as_number x) (as_number y)
same_is b x y = refl

other_is : (b : Base) (x y : Term) → other_term b x y ≡ bit (other_told b (as_number x) (as_number y))
unfolding comparison_term and_term or_term
other_is base.Bool x y = other_bits (as_number x) (as_number y)
other_is b x y = refl

bit_if : (o p q : Bool) → (if o then bit p else bit q) ≡ bit (if o then p else q)
bit_if true p q = refl
bit_if false p q = refl

equal_is : (b : Base) (o x p y : Term) → equal_term b o x p y ≡ bit (if is_true o then is_true p && same_told b (as_number x) (as_number y) else not (is_true p))
unfolding if_term and_term not_term
equal_is b o x p y =
    ap (λ u. if is_true o then bit (is_true p && is_true u) else bit (not (is_true p))) (same_is b x y)
    ∙ ap (λ q. if is_true o then bit (is_true p && q) else bit (not (is_true p))) (bit_true (same_told b (as_number x) (as_number y)))
    ∙ bit_if (is_true o) (is_true p && same_told b (as_number x) (as_number y)) (not (is_true p))

itself_is : (x : Term) → comparison_term int_eq x x ≡ bit (holds (as_number x) (as_number x) int_eq)
unfolding comparison_term
itself_is x = refl

unequal_there : (b : Base) (x p y : Term) → unequal_there_term b x p y ≡ bit (if is_true p then other_told b (as_number x) (as_number y) else holds (as_number x) (as_number x) int_eq)
unfolding if_term
unequal_there b x p y =
    ap (λ u. if is_true p then u else comparison_term int_eq x x) (other_is b x y)
    ∙ ap (λ u. if is_true p then bit (other_told b (as_number x) (as_number y)) else u) (itself_is x)
    ∙ bit_if (is_true p) (other_told b (as_number x) (as_number y)) (holds (as_number x) (as_number x) int_eq)

unequal_is : (b : Base) (o x p y : Term) → unequal_term b o x p y ≡ bit (if is_true o then (if is_true p then other_told b (as_number x) (as_number y) else holds (as_number x) (as_number x) int_eq) else is_true p && holds (as_number y) (as_number y) int_eq)
unfolding if_term
unequal_is b o x p y =
    ap (λ u. if is_true o then u else equal_where_term p y y) (unequal_there b x p y)
    ∙ ap (λ u. if is_true o then bit (if is_true p then other_told b (as_number x) (as_number y) else holds (as_number x) (as_number x) int_eq) else u) (sym (where_is p y y))
    ∙ bit_if (is_true o) (if is_true p then other_told b (as_number x) (as_number y) else holds (as_number x) (as_number x) int_eq) (is_true p && holds (as_number y) (as_number y) int_eq)

-- ---- the rows

abbrev equal_of : Base → Bool → Option ℤ → Bool → Option ℤ → Bool
equal_of b o i p j = if o then p && same_told b i j else not p

equal_ints : (o : Bool) (i : Option ℤ) (p : Bool) (j : Option ℤ) → truth_of (scalar_value row.Equal (option_of base.Int o i ∷ option_of base.Int p j ∷ [])) ≡ Some (values.bool (equal_of base.Int o i p j))
unfolding scalar_value option_at at as_option is_single equality as_pair
equal_ints false i false j = refl
equal_ints false i true None = refl
equal_ints false i true (Some m) = refl
equal_ints true None false j = refl
equal_ints true None true j = refl
equal_ints true (Some n) false j = refl
equal_ints true (Some n) true None = refl
equal_ints true (Some n) true (Some m) = refl

equal_cases : (e : ℕ) (o : Bool) (i : Option ℤ) (p : Bool) (j : Option ℤ) → truth_of (scalar_value row.Equal (option_of (base.Enum e) o i ∷ option_of (base.Enum e) p j ∷ [])) ≡ Some (values.bool (equal_of (base.Enum e) o i p j))
unfolding scalar_value option_at at as_option is_single equality
equal_cases e false i false j = refl
equal_cases e false i true None = refl
equal_cases e false i true (Some m) = refl
equal_cases e true None false j = refl
equal_cases e true None true j = refl
equal_cases e true (Some n) false j = refl
equal_cases e true (Some n) true None = refl
equal_cases e true (Some n) true (Some m) = ap (λ o. truth_of (option_map (λ p. int_eq p.0 p.1) o >>= λ b. Some (values.bool b))) (case_pair e n m)

equal_truths : (o : Bool) (i : Option ℤ) (p : Bool) (j : Option ℤ) → truth_of (scalar_value row.Equal (option_of base.Bool o i ∷ option_of base.Bool p j ∷ [])) ≡ Some (values.bool (equal_of base.Bool o i p j))
unfolding scalar_value option_at at as_option is_single equality as_pair
equal_truths false i false j = refl
equal_truths false i true None = refl
equal_truths false i true (Some m) = refl
equal_truths true None false j = refl
equal_truths true None true j = refl
equal_truths true (Some n) false j = refl
equal_truths true (Some n) true None = refl
equal_truths true (Some n) true (Some m) = ap (λ b. Some (values.bool b)) (same_bits (is_one n) (is_one m))

equal_on : (b : Base) (o : Bool) (i : Option ℤ) (p : Bool) (j : Option ℤ) → rows.is_single b ≡ true → truth_of (scalar_value row.Equal (option_of b o i ∷ option_of b p j ∷ [])) ≡ Some (values.bool (equal_of b o i p j))
equal_on base.Bool o i p j h = equal_truths o i p j
equal_on base.Int o i p j h = equal_ints o i p j
equal_on (base.Enum e) o i p j h = equal_cases e o i p j
equal_on b o i p j h = absurd (cc)

pub equal_held : (r : Reading) (o p id : ℕ) (a b : Symbol) → AreOptions o p a b → equal_term a.base (r.term o) (r.term a.term) (r.term p) (r.term b.term) ≡ r.term id → held r.mode (truth_of (row_value r row.Equal (a ∷ b ∷ []))) ≡ symbol_seen r (symbol_of base.Bool None id)
equal_held r o p id a b q e =
    let told : Bool = equal_of a.base (is_true (r.term o)) (as_number (r.term a.term)) (is_true (r.term p)) (as_number (r.term b.term)) in
    of_options r (λ x y. truth_of (scalar_value row.Equal (x ∷ y ∷ []))) o p a b (value_by base.Bool (r.term id)) q
    (equal_on a.base (is_true (r.term o)) (as_number (r.term a.term)) (is_true (r.term p)) (as_number (r.term b.term)) q.first.single
    ∙ sym (truth_by told)
    ∙ ap (value_by base.Bool) (sym (equal_is a.base (r.term o) (r.term a.term) (r.term p) (r.term b.term)) ∙ e))

abbrev unequal_of : Base → Bool → Option ℤ → Bool → Option ℤ → Bool
unequal_of b o i p j = if o then (if p then other_told b i j else holds i i int_eq) else p && holds j j int_eq

told : (p : Bool) → p ≡ true → Some (values.bool true) ≡ Some (values.bool p)
told p h = ap (λ q. Some (values.bool q)) (sym h)

unequal_ints : (o : Bool) (i : Option ℤ) (p : Bool) (j : Option ℤ) → truth_of (scalar_value row.Unequal (option_of base.Int o i ∷ option_of base.Int p j ∷ [])) ≡ Some (values.bool (unequal_of base.Int o i p j))
unfolding scalar_value option_at at as_option is_single equality as_pair
unequal_ints false i false j = refl
unequal_ints false i true None = refl
unequal_ints false i true (Some m) = told (int_eq m m) (same_number m)
unequal_ints true None false j = refl
unequal_ints true None true j = refl
unequal_ints true (Some n) false j = told (int_eq n n) (same_number n)
unequal_ints true (Some n) true None = refl
unequal_ints true (Some n) true (Some m) = refl

unequal_cases : (e : ℕ) (o : Bool) (i : Option ℤ) (p : Bool) (j : Option ℤ) → truth_of (scalar_value row.Unequal (option_of (base.Enum e) o i ∷ option_of (base.Enum e) p j ∷ [])) ≡ Some (values.bool (unequal_of (base.Enum e) o i p j))
unfolding scalar_value option_at at as_option is_single equality
unequal_cases e false i false j = refl
unequal_cases e false i true None = refl
unequal_cases e false i true (Some m) = told (int_eq m m) (same_number m)
unequal_cases e true None false j = refl
unequal_cases e true None true j = refl
unequal_cases e true (Some n) false j = told (int_eq n n) (same_number n)
unequal_cases e true (Some n) true None = refl
unequal_cases e true (Some n) true (Some m) = ap (λ o. truth_of (option_map (λ p. int_eq p.0 p.1) o >>= λ b. Some (values.bool (not b)))) (case_pair e n m)

unequal_truths : (o : Bool) (i : Option ℤ) (p : Bool) (j : Option ℤ) → truth_of (scalar_value row.Unequal (option_of base.Bool o i ∷ option_of base.Bool p j ∷ [])) ≡ Some (values.bool (unequal_of base.Bool o i p j))
unfolding scalar_value option_at at as_option is_single equality as_pair
unequal_truths false i false j = refl
unequal_truths false i true None = refl
unequal_truths false i true (Some m) = told (int_eq m m) (same_number m)
unequal_truths true None false j = refl
unequal_truths true None true j = refl
unequal_truths true (Some n) false j = told (int_eq n n) (same_number n)
unequal_truths true (Some n) true None = refl
unequal_truths true (Some n) true (Some m) = ap (λ b. Some (values.bool (not b))) (same_bits (is_one n) (is_one m))

unequal_on : (b : Base) (o : Bool) (i : Option ℤ) (p : Bool) (j : Option ℤ) → rows.is_single b ≡ true → truth_of (scalar_value row.Unequal (option_of b o i ∷ option_of b p j ∷ [])) ≡ Some (values.bool (unequal_of b o i p j))
unequal_on base.Bool o i p j h = unequal_truths o i p j
unequal_on base.Int o i p j h = unequal_ints o i p j
unequal_on (base.Enum e) o i p j h = unequal_cases e o i p j
unequal_on b o i p j h = absurd (cc)

pub unequal_held : (r : Reading) (o p id : ℕ) (a b : Symbol) → AreOptions o p a b → unequal_term a.base (r.term o) (r.term a.term) (r.term p) (r.term b.term) ≡ r.term id → held r.mode (truth_of (row_value r row.Unequal (a ∷ b ∷ []))) ≡ symbol_seen r (symbol_of base.Bool None id)
unequal_held r o p id a b q e =
    let told_of : Bool = unequal_of a.base (is_true (r.term o)) (as_number (r.term a.term)) (is_true (r.term p)) (as_number (r.term b.term)) in
    of_options r (λ x y. truth_of (scalar_value row.Unequal (x ∷ y ∷ []))) o p a b (value_by base.Bool (r.term id)) q
    (unequal_on a.base (is_true (r.term o)) (as_number (r.term a.term)) (is_true (r.term p)) (as_number (r.term b.term)) q.first.single
    ∙ sym (truth_by told_of)
    ∙ ap (value_by base.Bool) (sym (unequal_is a.base (r.term o) (r.term a.term) (r.term p) (r.term b.term)) ∙ e))
