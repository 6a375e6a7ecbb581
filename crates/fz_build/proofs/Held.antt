-- The domain of a result holds it.
use Rattle.std.proofs.Common.{◌≡◌, ◌+◌, ◌-◌, ℤ, pos, neg_ℤ, ◌+ℤ◌, ◌-ℤ◌, List, [], ◌∷◌, map, Bool, true, Option, Some, None, option_map, refl, sym, ap, subst, ◌∙◌, arith}
use Rattle.std.specs.Prelude.{◌&&◌, Result, Ok, Err, IfOk}
use Rattle.std.specs.List.{AllByRecursion, list_all}
use Rattle.std.proofs.lemmas.Bool.{and_parts}
use Rattle.std.proofs.lemmas.Int.{ints}
use Rattle.mz_interval.specs.Ends.{Ends, Encloses, if_interval}
use Rattle.mz_operations.specs.declared.row.Sign.TheVariants.{Abs}
use Rattle.mz_operations.specs.Views.{number_of_bool}
use Rattle.mz_operations.specs.Numbers.{computed, signed}
use Rattle.mz_operations.specs.Sets.{combined}
use Rattle.mz_operations.specs.Bounds.{nothing}
use Rattle.fz_program.specs.declared.program.Domain.{Domain}
use Rattle.fz_program.specs.declared.program.Domain.TheVariants.{Bool as Truths, SetOf}
use Rattle.fz_program.specs.declared.row_name.RowName.{RowName}
use Rattle.fz_program.specs.declared.row_name.RowName.TheVariants.{BoolToInt, ArrayBoolElement, ArrayVarBoolElement}
use Rattle.fz_program.specs.declared.row_name.Kind.{Kind}
use Rattle.fz_program.specs.declared.row_name.Kind.TheVariants.{Int, Bool as Truth, ConstBools, Bools}
use Rattle.fz_program.specs.Arguments.{Plain, bool, int, set as a_set, var, nested, Argument, one, array}
use Rattle.fz_program.specs.Values.{Value, Values, number, set, number_in, set_in, number_at, numbers_at, set_at, sets_at, element_at, linear}
use Rattle.fz_program.specs.Table.{line, sum_at}
use Rattle.fz_program.specs.Flat.{Variable, IsWellFormedVariable, plain_value, argument_value, is_plain, is_constant, is_argument, are_arguments, IsInDomain, AreInDomains}
use Rattle.fz_build.specs.declared.form.Form.{Form}
use Rattle.fz_build.specs.declared.form.Form.TheVariants.{Test, Truth as TruthForm, TruthElement, Arithmetic, Magnitude, Flag, Element, Size, Sum, Combined, SetElement}
use Rattle.fz_build.specs.Inputs.{is_sum, elements_at}
use Rattle.fz_build.specs.Results.{result_given}
use Rattle.fz_build.specs.Bounds.{form_of, domain_by, result_domain, input_kinds, AreInputs, HoldsResults, plain_at, number_ends, upper_at, arith_by, magnitude_by, element_ends, excess_ends, negative, sum_ends}
use Rattle.fz_build.proofs.InputValues.{value_is, values_are}
use Rattle.fz_build.proofs.InputValues.{number_encloses, set_holds, elements_canonical, IsFlag, plain_flag}
use Rattle.fz_build.proofs.Forms.{IsValueOf, value_by_form}
use Rattle.fz_build.proofs.Enclosed.{Surrounds, in_whole, interval_surrounds, arith_surrounds, magnitude_surrounds, negative_surrounds, plus_surrounds, sum_surrounds, element_encloses, element_flag, set_element_in, combined_in, card_surrounds, truth_in, flag_same}

some_same : {A : Type 0} (x y : A) → Some x ≡ Some y → x ≡ y
some_same x y h = cc

-- what was mapped
record Mapped {A : Type 0} (g : A → Value) (o : Option A) (x : Value) : Type 0 where
  old : A
  there : o ≡ Some old
  is : g old ≡ x

mapped : {A : Type 0} (g : A → Value) (o : Option A) (x : Value) → option_map g o ≡ Some x → Mapped g o x
mapped g None x h = absurd (cc)
mapped g (Some a) x h = record { old = a; there = refl; is = some_same (g a) x h }

-- ---- what the kinds of inputs say of truth values

abbrev AreTruths : List Variable → List Plain → Type 0
AreTruths vs ps = AllByRecursion (λ p. is_plain vs Truth p ≡ true) ps

abbrev Suits : Form → List Variable → List Argument → Type 0
Suits Flag vs xs = is_plain vs Truth (plain_at xs 0) ≡ true
Suits TruthElement vs xs = AreTruths vs (elements_at xs 1)
Suits Test vs xs = Unit {0}
Suits TruthForm vs xs = Unit {0}
Suits (Arithmetic op) vs xs = Unit {0}
Suits Magnitude vs xs = Unit {0}
Suits Element vs xs = Unit {0}
Suits Size vs xs = Unit {0}
Suits Sum vs xs = Unit {0}
Suits (Combined op) vs xs = Unit {0}
Suits SetElement vs xs = Unit {0}

constant_plain : (vs : List Variable) (p : Plain) → is_constant Truth p ≡ true → is_plain vs Truth p ≡ true
unfolding is_constant is_plain
constant_plain vs (bool b) h = h
constant_plain vs (int n) h = h
constant_plain vs (a_set s) h = h
constant_plain vs (var k) h = absurd (cc)
constant_plain vs nested h = h

all_truths : (vs : List Variable) (test : Plain → Bool) (ps : List Plain) → ((p : Plain) → test p ≡ true → is_plain vs Truth p ≡ true) → list_all test ps ≡ true → AreTruths vs ps
all_truths vs test [] g h = tt
all_truths vs test (p ∷ ps) g h = let b = and_parts (test p) (list_all test ps) h in (g p b.0, all_truths vs test ps g b.1)

one_truth : (vs : List Variable) (xs : List Argument) → are_arguments vs (Truth ∷ []) xs ≡ true → is_plain vs Truth (plain_at xs 0) ≡ true
unfolding are_arguments is_argument
one_truth vs [] h = absurd (cc)
one_truth vs (one p ∷ xs) h = (and_parts (is_plain vs Truth p) (are_arguments vs [] xs) h).0
one_truth vs (array ps ∷ xs) h = absurd (cc)

constant_truths : (vs : List Variable) (xs : List Argument) → are_arguments vs (Int ∷ ConstBools ∷ []) xs ≡ true → AreTruths vs (elements_at xs 1)
unfolding are_arguments is_argument
constant_truths vs [] h = tt
constant_truths vs (x ∷ []) h = tt
constant_truths vs (x ∷ one p ∷ xs) h = tt
constant_truths vs (x ∷ array ps ∷ xs) h = all_truths vs (is_constant Truth) ps (constant_plain vs) (and_parts (list_all (is_constant Truth) ps) (are_arguments vs [] xs) (and_parts (is_argument vs Int x) (list_all (is_constant Truth) ps && are_arguments vs [] xs) h).1).0

variable_truths : (vs : List Variable) (xs : List Argument) → are_arguments vs (Int ∷ Bools ∷ []) xs ≡ true → AreTruths vs (elements_at xs 1)
unfolding are_arguments is_argument
variable_truths vs [] h = tt
variable_truths vs (x ∷ []) h = tt
variable_truths vs (x ∷ one p ∷ xs) h = tt
variable_truths vs (x ∷ array ps ∷ xs) h = all_truths vs (is_plain vs Truth) ps (λ p e. e) (and_parts (list_all (is_plain vs Truth) ps) (are_arguments vs [] xs) (and_parts (is_argument vs Int x) (list_all (is_plain vs Truth) ps && are_arguments vs [] xs) h).1).0

suits : (name : RowName) (vs : List Variable) (xs : List Argument) → AreInputs vs name xs → Suits (form_of name) vs xs
unfolding form_of is_sum line
suits BoolToInt vs xs h = one_truth vs xs h
suits ArrayBoolElement vs xs h = constant_truths vs xs h
suits ArrayVarBoolElement vs xs h = variable_truths vs xs h
suits _ vs xs h = tt

-- ---- by forms
module _ (vs : List Variable) (f : Values) (w : AllByRecursion IsWellFormedVariable vs) (d : AreInDomains vs f) where
  truth_value : (b : Bool) (e : Domain) (x : Value) (r : Option Value) → Some Truths ≡ Some e → r ≡ Some (number (number_of_bool b)) → r ≡ Some x → IsInDomain e x
  truth_value b e x r h v k =
      let same : number (number_of_bool b) ≡ x = some_same _ x (sym v ∙ k) in
      subst (λ (z : Domain). IsInDomain z x) (some_same Truths e h) (subst (IsInDomain Truths) same (truth_in b))

  set_value : (u : List (ℤ × ℤ)) (t : List (ℤ × ℤ)) (e : Domain) (x : Value) → Some (SetOf u) ≡ Some e → set t ≡ x → IsInDomain (SetOf u) (set t) → IsInDomain e x
  set_value u t e x h same i = subst (λ (z : Domain). IsInDomain z x) (some_same (SetOf u) e h) (subst (IsInDomain (SetOf u)) same i)

  flags : (ps : List Plain) → AreTruths vs ps → AllByRecursion (λ p. IsFlag (number_in (plain_value f p))) ps
  flags [] a = tt
  flags (p ∷ ps) a = (plain_flag vs f p d a.0, flags ps a.1)

  sum_value : (xs : List Argument) → Surrounds (excess_ends vs xs) (sum_at (map (argument_value f) xs) -ℤ number_at (map (argument_value f) xs) 2)
  sum_value xs =
      let gs = map (argument_value f) xs in
      let total : Surrounds (sum_ends vs (Some nothing) (elements_at xs 0) (elements_at xs 1)) (pos 0 +ℤ linear (map number_in (map (plain_value f) (elements_at xs 0))) (map number_in (map (plain_value f) (elements_at xs 1)))) =
      sum_surrounds vs f w d (elements_at xs 0) (elements_at xs 1) (Some nothing) (pos 0) (λ e k. let same : nothing ≡ e = some_same nothing e k in subst (λ (b : Ends). Encloses b (pos 0)) same (record { from = omega (arith, ints); to = omega (arith, ints) })) in
      let summed : Surrounds (sum_ends vs (Some nothing) (elements_at xs 0) (elements_at xs 1)) (pos 0 +ℤ sum_at gs) =
      subst (λ bs. Surrounds (sum_ends vs (Some nothing) (elements_at xs 0) (elements_at xs 1)) (pos 0 +ℤ linear (map number_in bs) (numbers_at gs 1))) (sym (values_are f xs 0))
      (subst (λ bs. Surrounds (sum_ends vs (Some nothing) (elements_at xs 0) (elements_at xs 1)) (pos 0 +ℤ linear (map number_in (map (plain_value f) (elements_at xs 0))) (map number_in bs))) (sym (values_are f xs 1)) total) in
      let constant : Surrounds (negative (if_interval (number_ends vs xs 2))) (neg_ℤ (number_at gs 2)) =
      negative_surrounds (if_interval (number_ends vs xs 2)) (number_at gs 2) (interval_surrounds (number_ends vs xs 2) (number_at gs 2) (number_encloses vs f xs 2 w d)) in
      let whole_sum = plus_surrounds (sum_ends vs (Some nothing) (elements_at xs 0) (elements_at xs 1)) (negative (if_interval (number_ends vs xs 2))) (pos 0 +ℤ sum_at gs) (neg_ℤ (number_at gs 2)) summed constant in
      λ e k. let i = whole_sum e k in record { from = omega (arith, ints, i.from); to = omega (arith, ints, i.to) }

  holds_by : (form : Form) (xs : List Argument) (kinds : List Kind) (e : Domain) (r : Option Value) (x : Value) → are_arguments vs kinds xs ≡ true → Suits form vs xs → domain_by form vs xs ≡ Some e → IsValueOf form (map (argument_value f) xs) r → r ≡ Some x → IsInDomain e x
  unfolding domain_by
  holds_by Test xs kinds e r x a s h v k = absurd (cc)
  holds_by TruthForm xs kinds e r x a s h v k = truth_value v.0 e x r h v.1 k
  holds_by TruthElement xs kinds e r x a s h v k =
      let m = mapped number (element_at (numbers_at (map (argument_value f) xs) 1) (number_at (map (argument_value f) xs) 0)) x (sym v ∙ k) in
      let there = subst (λ bs. element_at (map number_in bs) (number_at (map (argument_value f) xs) 0) ≡ Some m.old) (values_are f xs 1) m.there in
      let i = element_flag vs f w d (elements_at xs 1) (number_at (map (argument_value f) xs) 0) m.old (flags (elements_at xs 1) s) there in
      subst (λ (z : Domain). IsInDomain z x) (some_same Truths e h) (subst (IsInDomain Truths) m.is (i.from, i.to))
  holds_by (Arithmetic op) xs kinds e r x a s h v k =
      let gs = map (argument_value f) xs in
      let m = mapped number (computed op (number_at gs 0) (number_at gs 1)) x (sym v ∙ k) in
      subst (IsInDomain e) m.is (in_whole (arith_by op (if_interval (number_ends vs xs 0)) (if_interval (number_ends vs xs 1))) e m.old h
      (arith_surrounds op (if_interval (number_ends vs xs 0)) (if_interval (number_ends vs xs 1)) (number_at gs 0) (number_at gs 1) m.old
      (interval_surrounds (number_ends vs xs 0) (number_at gs 0) (number_encloses vs f xs 0 w d))
      (interval_surrounds (number_ends vs xs 1) (number_at gs 1) (number_encloses vs f xs 1 w d)) m.there))
  holds_by Magnitude xs kinds e r x a s h v k =
      let gs = map (argument_value f) xs in
      let same : number (signed Abs (number_at gs 0)) ≡ x = some_same _ x (sym v ∙ k) in
      subst (IsInDomain e) same (in_whole (magnitude_by (if_interval (number_ends vs xs 0))) e (signed Abs (number_at gs 0)) h
      (magnitude_surrounds (if_interval (number_ends vs xs 0)) (number_at gs 0) (interval_surrounds (number_ends vs xs 0) (number_at gs 0) (number_encloses vs f xs 0 w d))))
  holds_by Flag xs kinds e r x a s h v k =
      let gs = map (argument_value f) xs in
      let flag : IsFlag (number_at gs 0) = subst (λ y. IsFlag (number_in y)) (sym (value_is f xs 0)) (plain_flag vs f (plain_at xs 0) d s) in
      let same : number (number_at gs 0) ≡ x = ap number (sym (flag_same (number_at gs 0) flag)) ∙ some_same _ x (sym v ∙ k) in
      subst (IsInDomain e) same (in_whole (if_interval (number_ends vs xs 0)) e (number_at gs 0) h (interval_surrounds (number_ends vs xs 0) (number_at gs 0) (number_encloses vs f xs 0 w d)))
  holds_by Element xs kinds e r x a s h v k =
      let gs = map (argument_value f) xs in
      let m = mapped number (element_at (numbers_at gs 1) (number_at gs 0)) x (sym v ∙ k) in
      let there = subst (λ bs. element_at (map number_in bs) (number_at gs 0) ≡ Some m.old) (values_are f xs 1) m.there in
      let inside = element_encloses vs f w d (elements_at xs 1) (number_ends vs xs 0) (number_at gs 0) m.old (number_encloses vs f xs 0 w d) there in
      subst (IsInDomain e) m.is (in_whole (if_interval (element_ends vs (number_ends vs xs 0) (elements_at xs 1))) e m.old h (interval_surrounds (element_ends vs (number_ends vs xs 0) (elements_at xs 1)) m.old inside))
  holds_by Size xs kinds e r x a s h v k =
      let gs = map (argument_value f) xs in
      let same = some_same _ x (sym v ∙ k) in
      subst (IsInDomain e) same (in_whole _ e _ h (card_surrounds (upper_at vs xs 0) (set_at gs 0) (set_holds vs f kinds xs 0 w d a)))
  holds_by Sum xs kinds e r x a s h v k =
      let gs = map (argument_value f) xs in
      let same : number (sum_at gs -ℤ number_at gs 2) ≡ x = some_same _ x (sym v ∙ k) in
      subst (IsInDomain e) same (in_whole (excess_ends vs xs) e (sum_at gs -ℤ number_at gs 2) h (sum_value xs))
  holds_by (Combined op) xs kinds e r x a s h v k =
      let gs = map (argument_value f) xs in
      set_value _ (combined op (set_at gs 0) (set_at gs 1)) e x h (some_same _ x (sym v ∙ k)) (combined_in op (upper_at vs xs 0) (upper_at vs xs 1) (set_at gs 0) (set_at gs 1) (set_holds vs f kinds xs 0 w d a) (set_holds vs f kinds xs 1 w d a))
  holds_by SetElement xs kinds e r x a s h v k =
      let gs = map (argument_value f) xs in
      let m = mapped set (element_at (sets_at gs 1) (number_at gs 0)) x (sym v ∙ k) in
      let there = subst (λ bs. element_at (map set_in bs) (number_at gs 0) ≡ Some m.old) (values_are f xs 1) m.there in
      set_value _ m.old e x h m.is (set_element_in vs f w d (elements_at xs 1) (number_ends vs xs 0) (number_at gs 0) m.old (elements_canonical vs kinds xs 1 a) (number_encloses vs f xs 0 w d) there)

pub results_held : (vs : List Variable) (name : RowName) (xs : List Argument) (e : Domain) → AllByRecursion IsWellFormedVariable vs → AreInputs vs name xs → result_domain vs name xs ≡ Some e → HoldsResults vs name xs e
results_held vs name xs e w a h = λ f x d k. holds_by vs f w d (form_of name) xs (input_kinds name) e (result_given name (map (argument_value f) xs)) x a (suits name vs xs a) h (value_by_form name (map (argument_value f) xs)) k

-- the same of a result
pub result_held : {E : Type 0} (r : Result Domain E) (vs : List Variable) (name : RowName) (xs : List Argument) → AllByRecursion IsWellFormedVariable vs → AreInputs vs name xs → IfOk r (λ e. result_domain vs name xs ≡ Some e) → IfOk r (λ e. HoldsResults vs name xs e)
result_held (Ok e) vs name xs w a h = results_held vs name xs e w a h
result_held (Err m) vs name xs w a h = tt
