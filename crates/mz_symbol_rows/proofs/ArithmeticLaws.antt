-- Operations on integers: their nodes mean what the rows give.
use Rattle.std.proofs.Common.{◌≡◌, ◌∙◌, ℕ, ℤ, negsuc, ◌+ℤ◌, ◌-ℤ◌, ◌*ℤ◌, neg_ℤ, Bool, true, [], ◌∷◌, Option, Some, None, refl, sym, ap, arith}
use Rattle.std.proofs.lemmas.Int.{ints}
use Rattle.std.specs.Option.{option_map}
use Rattle.mz_value.specs.Contents.{Content}
use Rattle.mz_value.specs.Contents as values
use Rattle.mz_core.specs.declared.types.Base.{Base}
use Rattle.mz_core.specs.declared.types.Base.TheVariants as base
use Rattle.mz_operations.specs.declared.row.Arith.{Arith}
use Rattle.mz_operations.specs.declared.row.Arith.TheVariants.{Add, Sub, Mul, Div, Mod, Min, Max}
use Rattle.mz_operations.specs.declared.row.Sign.{Sign}
use Rattle.mz_operations.specs.declared.row.Sign.TheVariants.{Plus, Minus, Abs}
use Rattle.mz_operations.specs.declared.row.Side.TheVariants.{Least, Greatest}
use Rattle.mz_operations.specs.declared.row.ScalarRow.TheVariants as row
use Rattle.mz_operations.specs.Views.{◌>>=◌, as_int, as_ordinal}
use Rattle.mz_operations.specs.Arguments.{at, int_at, ordinal_at}
use Rattle.mz_operations.specs.Numbers.{computed, signed, toward}
use Rattle.mz_operations.specs.Values.{scalar_value}
use Rattle.mz_arena.specs.Values.{Term, number, set, as_number, bit, arith_term, sign_term, extreme_term, cons_term, to_int_term}
use Rattle.mz_arena.specs.Values as terms
use Rattle.mz_meaning.specs.Cells.{held}
use Rattle.mz_symbol.specs.declared.types.Symbol.{Symbol}
use Rattle.mz_symbol.specs.Symbols.{value_by}
use Rattle.mz_symbol.specs.Readings.{Reading, symbol_seen}
use Rattle.mz_symbol_rows.specs.RowValues.{row_value}
use Rattle.mz_symbol_rows.specs.StepsNodes.{IsOf, symbol_of, negative_term, extreme_of_two, made_arith, made_sign, number_term, is_ordinal}
use Rattle.mz_symbol_rows.proofs.RowLaws.{argument_by, row_of_one, row_of_two, truth_is}

-- ---- two integers

minus_plus : (i j : ℤ) → i +ℤ (negsuc 0 *ℤ j) ≡ i -ℤ j
minus_plus i j = grind (arith, ints)

minus_times : (i : ℤ) → negsuc 0 *ℤ i ≡ neg_ℤ i
minus_times i = grind (arith, ints)

subtracted : (i j : Option ℤ) → (i >>= λ i. (as_number (j >>= λ j. (computed Mul (negsuc 0) j >>= λ n. Some (number n))) >>= λ k. (computed Add i k >>= λ n. Some (number n)))) ≡ (i >>= λ i. (j >>= λ j. (computed Sub i j >>= λ n. Some (number n))))
unfolding computed
subtracted None j = refl
subtracted (Some i) None = refl
subtracted (Some i) (Some j) = ap (λ n. Some (number n)) (minus_plus i j)

sub_is : (x y : Term) → arith_term Add x (negative_term y) ≡ arith_term Sub x y
unfolding arith_term
sub_is x y = subtracted (as_number x) (as_number y)

least_is : (x y : Term) → extreme_of_two Least x y ≡ arith_term Min x y
unfolding extreme_term cons_term arith_term computed toward
least_is None y = refl
least_is (Some (number n)) None = refl
least_is (Some (number n)) (Some (number m)) = refl
least_is (Some (number n)) (Some v) = refl
least_is (Some (set s)) None = refl
least_is (Some (set s)) (Some (set t)) = refl
least_is (Some (set s)) (Some v) = refl
least_is (Some v) y = refl

greatest_is : (x y : Term) → extreme_of_two Greatest x y ≡ arith_term Max x y
unfolding extreme_term cons_term arith_term computed toward
greatest_is None y = refl
greatest_is (Some (number n)) None = refl
greatest_is (Some (number n)) (Some (number m)) = refl
greatest_is (Some (number n)) (Some v) = refl
greatest_is (Some (set s)) None = refl
greatest_is (Some (set s)) (Some (set t)) = refl
greatest_is (Some (set s)) (Some v) = refl
greatest_is (Some v) y = refl

arith_made : (op : Arith) (x y : Term) → made_arith op x y ≡ arith_term op x y
arith_made Add x y = refl
arith_made Sub x y = sub_is x y
arith_made Mul x y = refl
arith_made Div x y = refl
arith_made Mod x y = refl
arith_made Min x y = least_is x y
arith_made Max x y = greatest_is x y

result_told : (o : Option ℤ) → value_by base.Int (o >>= λ n. Some (number n)) ≡ (o >>= λ n. Some (values.int n))
result_told None = refl
result_told (Some n) = refl

abbrev ints_of : Option ℤ → Option Content
ints_of o = option_map (λ n. values.int n) o

arith_on : (op : Arith) (i j : Option ℤ) → scalar_value (row.Arith op) (ints_of i ∷ ints_of j ∷ []) ≡ value_by base.Int (i >>= λ i. (j >>= λ j. (computed op i j >>= λ n. Some (number n))))
unfolding scalar_value int_at at as_int
arith_on op None j = refl
arith_on op (Some i) None = refl
arith_on op (Some i) (Some j) = sym (result_told (computed op i j))

arith_same : (op : Arith) (x y : Term) → scalar_value (row.Arith op) (argument_by base.Int x ∷ argument_by base.Int y ∷ []) ≡ value_by base.Int (arith_term op x y)
unfolding arith_term
arith_same op x y = arith_on op (as_number x) (as_number y)

pub arith_held : (r : Reading) (op : Arith) (a b : Symbol) (x y id : ℕ) → IsOf base.Int x a → IsOf base.Int y b → made_arith op (r.term x) (r.term y) ≡ r.term id → held r.mode (row_value r (row.Arith op) (a ∷ b ∷ [])) ≡ symbol_seen r (symbol_of base.Int id)
arith_held r op a b x y id p q e = row_of_two r (λ v. v) (row.Arith op) a b base.Int x y (value_by base.Int (r.term id)) p q (arith_same op (r.term x) (r.term y) ∙ ap (value_by base.Int) (sym (arith_made op (r.term x) (r.term y)) ∙ e))

-- ---- one

negated : (i : Option ℤ) → scalar_value (row.Sign Minus) (ints_of i ∷ []) ≡ value_by base.Int (i >>= λ i. (computed Mul (negsuc 0) i >>= λ n. Some (number n)))
unfolding scalar_value int_at at as_int computed signed
negated None = refl
negated (Some i) = ap (λ n. Some (values.int n)) (sym (minus_times i))

kept : (i : Option ℤ) → scalar_value (row.Sign Plus) (ints_of i ∷ []) ≡ ints_of i
unfolding scalar_value int_at at as_int signed
kept None = refl
kept (Some i) = refl

without_sign : (i : Option ℤ) → scalar_value (row.Sign Abs) (ints_of i ∷ []) ≡ value_by base.Int (i >>= λ i. Some (number (signed Abs i)))
unfolding scalar_value int_at at as_int
without_sign None = refl
without_sign (Some i) = refl

sign_same : (op : Sign) (x : Term) → scalar_value (row.Sign op) (argument_by base.Int x ∷ []) ≡ value_by base.Int (made_sign op x)
unfolding arith_term sign_term
sign_same Plus x = kept (as_number x)
sign_same Minus x = negated (as_number x)
sign_same Abs x = without_sign (as_number x)

pub sign_held : (r : Reading) (op : Sign) (a : Symbol) (x id : ℕ) → IsOf base.Int x a → made_sign op (r.term x) ≡ r.term id → held r.mode (row_value r (row.Sign op) (a ∷ [])) ≡ symbol_seen r (symbol_of base.Int id)
sign_held r op a x id p e = row_of_one r (λ v. v) (row.Sign op) a base.Int x (value_by base.Int (r.term id)) p (sign_same op (r.term x) ∙ ap (value_by base.Int) e)

-- ---- truth values and cases as integers

case_number : (e : ℕ) (o : Option ℤ) → scalar_value row.Ordinal (option_map (λ n. values.case e n) o ∷ []) ≡ ints_of o
unfolding scalar_value ordinal_at at as_ordinal
case_number e None = refl
case_number e (Some n) = refl

truth_number : (p : Bool) → scalar_value row.Ordinal (Some (values.bool p) ∷ []) ≡ value_by base.Int (bit p)
unfolding scalar_value ordinal_at at as_ordinal
truth_number p = refl

ordinal_same : (b : Base) (x : Term) → is_ordinal b ≡ true → scalar_value row.Ordinal (argument_by b x ∷ []) ≡ value_by base.Int (number_term b x)
unfolding to_int_term
ordinal_same base.Bool x h = ap (λ p. scalar_value row.Ordinal (Some (values.bool p) ∷ [])) (truth_is x) ∙ truth_number (terms.is_true x)
ordinal_same (base.Enum e) x h = case_number e (as_number x)
ordinal_same b x h = absurd (cc)

pub ordinal_held : (r : Reading) (a : Symbol) (x id : ℕ) → IsOf a.base x a → is_ordinal a.base ≡ true → number_term a.base (r.term x) ≡ r.term id → held r.mode (row_value r row.Ordinal (a ∷ [])) ≡ symbol_seen r (symbol_of base.Int id)
ordinal_held r a x id p h e = row_of_one r (λ v. v) row.Ordinal a a.base x (value_by base.Int (r.term id)) p (ordinal_same a.base (r.term x) h ∙ ap (value_by base.Int) e)
