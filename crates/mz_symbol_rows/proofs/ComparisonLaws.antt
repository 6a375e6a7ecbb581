-- Orders and equality: their nodes mean what the rows give.
use Rattle.std.proofs.Common.{◌≡◌, ◌∙◌, ℕ, ℤ, Bool, true, false, not, int_lt, int_le, [], ◌∷◌, Option, Some, None, refl, sym, ap, if◌then◌else◌}
use Rattle.std.proofs.lemmas.Bool.{eq-eqb}
use Rattle.std.specs.Option.{option_map}
use Rattle.std.specs.Ordering.{int_eq}
use Rattle.mz_value.specs.Contents.{Content}
use Rattle.mz_value.specs.Contents as values
use Rattle.mz_core.specs.declared.types.Base.{Base}
use Rattle.mz_core.specs.declared.types.Base.TheVariants as base
use Rattle.mz_operations.specs.declared.row.Comparison.{Comparison}
use Rattle.mz_operations.specs.declared.row.Comparison.TheVariants.{Less, AtMost, Greater, AtLeast}
use Rattle.mz_operations.specs.declared.row.ScalarRow.TheVariants as row
use Rattle.mz_operations.specs.Views.{◌>>=◌, as_pair, as_option, is_single, number_of_bool}
use Rattle.mz_operations.specs.Arguments.{at, pair, option_at}
use Rattle.mz_operations.specs.Numbers.{same, ordered}
use Rattle.mz_operations.specs.Values.{scalar_value, equality}
use Rattle.mz_arena.specs.Values.{Term, as_number, bit, holds, is_true, comparison_term, not_term, iff_term, to_int_term}
use Rattle.mz_meaning.specs.Cells.{held}
use Rattle.mz_symbol.specs.declared.types.Symbol.{Symbol}
use Rattle.mz_symbol.specs.Symbols.{value_by}
use Rattle.mz_symbol.specs.Readings.{Reading, symbol_seen}
use Rattle.mz_symbol_rows.specs.RowValues as rows
use Rattle.mz_symbol.specs.Arguments.{truth_of}
use Rattle.mz_symbol_rows.specs.RowValues.{row_value}
use Rattle.mz_symbol_rows.specs.StepsNodes.{IsOf, IsPair, symbol_of, number_term, made_order, made_equal, made_unequal}
use Rattle.mz_symbol_rows.proofs.RowLaws.{argument_by, row_of_two, truth_by, bit_true, truth_is}

abbrev ints_of : Option ℤ → Option Content
ints_of o = option_map (λ n. values.int n) o

abbrev cases_of : ℕ → Option ℤ → Option Content
cases_of e o = option_map (λ n. values.case e n) o

case_pair : (e : ℕ) (i j : ℤ) → as_pair (values.case e i) (values.case e j) ≡ Some (i, j)
unfolding as_pair
case_pair e i j = ap (λ b. if b then Some (i, j) else None) (eq-eqb e e refl)

same_bits : (p q : Bool) → int_eq (number_of_bool p) (number_of_bool q) ≡ same p q
same_bits true true = refl
same_bits true false = refl
same_bits false true = refl
same_bits false false = refl

first_of_pair : (a b : Symbol) → IsPair a b → IsOf a.base a.term a
first_of_pair a b p = record { base = refl; occurs = p.first; term = refl }

second_of_pair : (a b : Symbol) → IsPair a b → IsOf a.base b.term b
second_of_pair a b p = record { base = p.same; occurs = p.second; term = refl }

-- ---- orders

order_on : (op : Comparison) (x y : Term) (i j : Option ℤ) → as_number x ≡ i → as_number y ≡ j → made_order op x y ≡ bit (holds i j (ordered op))
unfolding comparison_term ordered
order_on op x y i j p q = by op
  where
    turned : (op : Comparison) (i j : Option ℤ) → Bool
    turned Less i j = holds i j int_lt
    turned AtMost i j = holds i j int_le
    turned Greater i j = holds j i int_lt
    turned AtLeast i j = holds j i int_le

    told : (op : Comparison) (i j : Option ℤ) → turned op i j ≡ holds i j (ordered op)
    told Less None j = refl
    told Less (Some i) None = refl
    told Less (Some i) (Some j) = refl
    told AtMost None j = refl
    told AtMost (Some i) None = refl
    told AtMost (Some i) (Some j) = refl
    told Greater None None = refl
    told Greater None (Some j) = refl
    told Greater (Some i) None = refl
    told Greater (Some i) (Some j) = refl
    told AtLeast None None = refl
    told AtLeast None (Some j) = refl
    told AtLeast (Some i) None = refl
    told AtLeast (Some i) (Some j) = refl

    numbers : (op : Comparison) → bit (turned op (as_number x) (as_number y)) ≡ bit (holds i j (ordered op))
    numbers op = ap (λ i. bit (turned op i (as_number y))) p ∙ ap (λ j. bit (turned op i j)) q ∙ ap bit (told op i j)

    by : (op : Comparison) → made_order op x y ≡ bit (holds i j (ordered op))
    by Less = numbers Less
    by AtMost = numbers AtMost
    by Greater = numbers Greater
    by AtLeast = numbers AtLeast

order_ints : (op : Comparison) (i j : Option ℤ) → truth_of (scalar_value (row.Order op) (ints_of i ∷ ints_of j ∷ [])) ≡ Some (values.bool (holds i j (ordered op)))
unfolding scalar_value pair at as_pair
order_ints op None j = refl
order_ints op (Some i) None = refl
order_ints op (Some i) (Some j) = refl

order_cases : (op : Comparison) (e : ℕ) (i j : Option ℤ) → truth_of (scalar_value (row.Order op) (cases_of e i ∷ cases_of e j ∷ [])) ≡ Some (values.bool (holds i j (ordered op)))
unfolding scalar_value pair at
order_cases op e None j = refl
order_cases op e (Some i) None = refl
order_cases op e (Some i) (Some j) = ap (λ o. truth_of (o >>= λ p. Some (values.bool (ordered op p.0 p.1)))) (case_pair e i j)

order_truths : (op : Comparison) (p q : Bool) → truth_of (scalar_value (row.Order op) (Some (values.bool p) ∷ Some (values.bool q) ∷ [])) ≡ Some (values.bool (holds (Some (number_of_bool p)) (Some (number_of_bool q)) (ordered op)))
unfolding scalar_value pair at as_pair
order_truths op p q = refl

order_same : (op : Comparison) (b : Base) (x y : Term) → rows.is_single b ≡ true → truth_of (scalar_value (row.Order op) (argument_by b x ∷ argument_by b y ∷ [])) ≡ value_by base.Bool (made_order op (number_term b x) (number_term b y))
unfolding to_int_term
order_same op base.Bool x y h =
    let i : Option ℤ = Some (number_of_bool (is_true x)) in
    let j : Option ℤ = Some (number_of_bool (is_true y)) in
    ap (λ p. truth_of (scalar_value (row.Order op) (Some (values.bool p) ∷ argument_by base.Bool y ∷ []))) (truth_is x)
    ∙ ap (λ q. truth_of (scalar_value (row.Order op) (Some (values.bool (is_true x)) ∷ Some (values.bool q) ∷ []))) (truth_is y)
    ∙ order_truths op (is_true x) (is_true y)
    ∙ sym (truth_by (holds i j (ordered op)))
    ∙ ap (value_by base.Bool) (sym (order_on op (bit (is_true x)) (bit (is_true y)) i j refl refl))
order_same op base.Int x y h =
    order_ints op (as_number x) (as_number y)
    ∙ sym (truth_by (holds (as_number x) (as_number y) (ordered op)))
    ∙ ap (value_by base.Bool) (sym (order_on op x y (as_number x) (as_number y) refl refl))
order_same op (base.Enum e) x y h =
    order_cases op e (as_number x) (as_number y)
    ∙ sym (truth_by (holds (as_number x) (as_number y) (ordered op)))
    ∙ ap (value_by base.Bool) (sym (order_on op x y (as_number x) (as_number y) refl refl))
order_same op b x y h = absurd (cc)

pub order_held : (r : Reading) (op : Comparison) (a b : Symbol) (x y id : ℕ) → IsPair a b → number_term a.base (r.term a.term) ≡ r.term x → number_term a.base (r.term b.term) ≡ r.term y → made_order op (r.term x) (r.term y) ≡ r.term id → held r.mode (truth_of (row_value r (row.Order op) (a ∷ b ∷ []))) ≡ symbol_seen r (symbol_of base.Bool id)
order_held r op a b x y id p u v e =
    row_of_two r truth_of (row.Order op) a b a.base a.term b.term (value_by base.Bool (r.term id)) (first_of_pair a b p) (second_of_pair a b p)
    (order_same op a.base (r.term a.term) (r.term b.term) p.single
    ∙ ap (λ t. value_by base.Bool (made_order op t (number_term a.base (r.term b.term)))) u
    ∙ ap (λ t. value_by base.Bool (made_order op (r.term x) t)) v
    ∙ ap (value_by base.Bool) e)

-- ---- equality

equal_ints : (i j : Option ℤ) → truth_of (scalar_value row.Equal (ints_of i ∷ ints_of j ∷ [])) ≡ Some (values.bool (holds i j int_eq))
unfolding scalar_value option_at at as_option is_single equality as_pair
equal_ints None j = refl
equal_ints (Some i) None = refl
equal_ints (Some i) (Some j) = refl

equal_cases : (e : ℕ) (i j : Option ℤ) → truth_of (scalar_value row.Equal (cases_of e i ∷ cases_of e j ∷ [])) ≡ Some (values.bool (holds i j int_eq))
unfolding scalar_value option_at at as_option is_single equality
equal_cases e None j = refl
equal_cases e (Some i) None = refl
equal_cases e (Some i) (Some j) = ap (λ o. truth_of (option_map (λ p. int_eq p.0 p.1) o >>= λ b. Some (values.bool b))) (case_pair e i j)

equal_truths : (p q : Bool) → truth_of (scalar_value row.Equal (Some (values.bool p) ∷ Some (values.bool q) ∷ [])) ≡ Some (values.bool (same p q))
unfolding scalar_value option_at at as_option is_single equality as_pair
equal_truths p q = ap (λ b. Some (values.bool b)) (same_bits p q)

equal_numbers : (x y : Term) → Some (values.bool (holds (as_number x) (as_number y) int_eq)) ≡ value_by base.Bool (comparison_term int_eq x y)
unfolding comparison_term
equal_numbers x y = sym (truth_by (holds (as_number x) (as_number y) int_eq))

equal_same : (b : Base) (x y : Term) → rows.is_single b ≡ true → truth_of (scalar_value row.Equal (argument_by b x ∷ argument_by b y ∷ [])) ≡ value_by base.Bool (made_equal b x y)
unfolding iff_term
equal_same base.Bool x y h =
    ap (λ p. truth_of (scalar_value row.Equal (Some (values.bool p) ∷ argument_by base.Bool y ∷ []))) (truth_is x)
    ∙ ap (λ q. truth_of (scalar_value row.Equal (Some (values.bool (is_true x)) ∷ Some (values.bool q) ∷ []))) (truth_is y)
    ∙ equal_truths (is_true x) (is_true y)
    ∙ sym (truth_by (same (is_true x) (is_true y)))
equal_same base.Int x y h = equal_ints (as_number x) (as_number y) ∙ equal_numbers x y
equal_same (base.Enum e) x y h = equal_cases e (as_number x) (as_number y) ∙ equal_numbers x y
equal_same b x y h = absurd (cc)

pub equal_held : (r : Reading) (a b : Symbol) (id : ℕ) → IsPair a b → made_equal a.base (r.term a.term) (r.term b.term) ≡ r.term id → held r.mode (truth_of (row_value r row.Equal (a ∷ b ∷ []))) ≡ symbol_seen r (symbol_of base.Bool id)
equal_held r a b id p e =
    row_of_two r truth_of row.Equal a b a.base a.term b.term (value_by base.Bool (r.term id)) (first_of_pair a b p) (second_of_pair a b p)
    (equal_same a.base (r.term a.term) (r.term b.term) p.single ∙ ap (value_by base.Bool) e)

-- ---- what is unequal

abbrev differ : ℤ → ℤ → Bool
differ i j = not (int_eq i j)

unequal_ints : (i j : Option ℤ) → truth_of (scalar_value row.Unequal (ints_of i ∷ ints_of j ∷ [])) ≡ Some (values.bool (holds i j differ))
unfolding scalar_value option_at at as_option is_single equality as_pair
unequal_ints None j = refl
unequal_ints (Some i) None = refl
unequal_ints (Some i) (Some j) = refl

unequal_cases : (e : ℕ) (i j : Option ℤ) → truth_of (scalar_value row.Unequal (cases_of e i ∷ cases_of e j ∷ [])) ≡ Some (values.bool (holds i j differ))
unfolding scalar_value option_at at as_option is_single equality
unequal_cases e None j = refl
unequal_cases e (Some i) None = refl
unequal_cases e (Some i) (Some j) = ap (λ o. truth_of (option_map (λ p. int_eq p.0 p.1) o >>= λ b. Some (values.bool (not b)))) (case_pair e i j)

unequal_truths : (p q : Bool) → truth_of (scalar_value row.Unequal (Some (values.bool p) ∷ Some (values.bool q) ∷ [])) ≡ Some (values.bool (not (same p q)))
unfolding scalar_value option_at at as_option is_single equality as_pair
unequal_truths p q = ap (λ b. Some (values.bool (not b))) (same_bits p q)

unequal_numbers : (x y : Term) → Some (values.bool (holds (as_number x) (as_number y) differ)) ≡ value_by base.Bool (comparison_term (λ i j. not (int_eq i j)) x y)
unfolding comparison_term
unequal_numbers x y = sym (truth_by (holds (as_number x) (as_number y) differ))

differing : (x y : Term) → not_term (iff_term x y) ≡ bit (not (same (is_true x) (is_true y)))
unfolding not_term iff_term
differing x y = ap (λ p. bit (not p)) (bit_true (same (is_true x) (is_true y)))

unequal_same : (b : Base) (x y : Term) → rows.is_single b ≡ true → truth_of (scalar_value row.Unequal (argument_by b x ∷ argument_by b y ∷ [])) ≡ value_by base.Bool (made_unequal b x y)
unequal_same base.Bool x y h =
    ap (λ p. truth_of (scalar_value row.Unequal (Some (values.bool p) ∷ argument_by base.Bool y ∷ []))) (truth_is x)
    ∙ ap (λ q. truth_of (scalar_value row.Unequal (Some (values.bool (is_true x)) ∷ Some (values.bool q) ∷ []))) (truth_is y)
    ∙ unequal_truths (is_true x) (is_true y)
    ∙ sym (truth_by (not (same (is_true x) (is_true y))))
    ∙ ap (value_by base.Bool) (sym (differing x y))
unequal_same base.Int x y h = unequal_ints (as_number x) (as_number y) ∙ unequal_numbers x y
unequal_same (base.Enum e) x y h = unequal_cases e (as_number x) (as_number y) ∙ unequal_numbers x y
unequal_same b x y h = absurd (cc)

pub unequal_held : (r : Reading) (a b : Symbol) (id : ℕ) → IsPair a b → made_unequal a.base (r.term a.term) (r.term b.term) ≡ r.term id → held r.mode (truth_of (row_value r row.Unequal (a ∷ b ∷ []))) ≡ symbol_seen r (symbol_of base.Bool id)
unequal_held r a b id p e =
    row_of_two r truth_of row.Unequal a b a.base a.term b.term (value_by base.Bool (r.term id)) (first_of_pair a b p) (second_of_pair a b p)
    (unequal_same a.base (r.term a.term) (r.term b.term) p.single ∙ ap (value_by base.Bool) e)
