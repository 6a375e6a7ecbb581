-- Terms that test two values.
use Rattle.std.proofs.Common.{◌≡◌, ◌≢◌, ◌∙◌, ℕ, ℤ, Bool, true, false, not, ◌&&◌, ◌||◌, List, [], ◌∷◌, Option, Some, None, is_some, IsSome, refl, sym, ap, subst, if◌then◌else◌}
use Rattle.std.specs.Option.{option_map}
use Rattle.std.specs.Ordering.{int_eq}
use Rattle.std.proofs.lemmas.Bool.Decides.{Decides-int_eq}
use Rattle.mz_value.specs.Ranges.{Range}
use Rattle.mz_value.specs.Contents.{Content}
use Rattle.mz_value.specs.Contents as values
use Rattle.mz_core.specs.declared.types.Base.{Base}
use Rattle.mz_core.specs.declared.types.Base.TheVariants as base
use Rattle.mz_core.specs.Types.{PlainType}
use Rattle.mz_operations.specs.Numbers.{same}
use Rattle.mz_operations.specs.Sets.{same_set}
use Rattle.mz_arena.specs.Values.{Term, holds, bit, as_number, as_set, is_one, is_true, comparison_term, set_comparison_term, and_term, or_term, not_term, iff_term}
use Rattle.mz_meaning.specs.Cells.{Cell, Par, Var, Unshaped, Mode, Blank, Given, value_of, is_truth, risen, widened, sealed, typed}
use Rattle.mz_meaning.specs.Cells as cells
use Rattle.mz_instance.specs.Contents.{content_by}
use Rattle.mz_instance.specs.Parts.{Whole, Truth, Subset, sort_of}
use Rattle.mz_symbol.specs.declared.types.Symbol.{Symbol}
use Rattle.mz_symbol.specs.Symbols.{value_by, value_at, symbol_value}
use Rattle.mz_symbol.specs.Readings.{IsGiven}
use Rattle.mz_model_state.specs.Hands.{AreOne, Iff}
use Rattle.mz_model_state.specs.Roots.{TestsOne, option_value, equal_by, equal_at, equal_term}

-- the term of a truth value is true where it is
pub bit_true : (b : Bool) → is_true (bit b) ≡ b
bit_true true = refl
bit_true false = refl

-- a term that is as true as another tests what it tests
tests_as : (b : Bool) (t : Term) (x y : Option Content) → is_true t ≡ b → Iff (b ≡ true) (AreOne x y) → TestsOne t x y
tests_as b t x y is tests = record { to = λ h. tests.to (sym is ∙ h); from = λ h. is ∙ tests.from h }

-- ---- values that are made of parts of terms, one content for each part

some_one : (c d : Content) → Some c ≡ Some d → c ≡ d
some_one c d e = cc

-- what a comparison of two parts tells, where equal parts are one
holds_one : {A : Type 0} (f : A → A → Bool) (make : A → Content) (x y : Option A) → ((i j : A) → f i j ≡ true → i ≡ j) → ((i j : A) → i ≡ j → f i j ≡ true) → ((i j : A) → make i ≡ make j → i ≡ j) → Iff (holds x y f ≡ true) (AreOne (option_map make x) (option_map make y))
holds_one f make None y equal tested one = record { to = λ h. absurd (cc); from = λ h. absurd (let e = h.first in cc) }
holds_one f make (Some i) None equal tested one = record { to = λ h. absurd (cc); from = λ h. absurd (let e = h.second in cc) }
holds_one f make (Some i) (Some j) equal tested one = record {
  to = λ h. record { content = make j; first = ap (λ i. Some (make i)) (equal i j h); second = refl };
  from = λ h. tested i j (one i j (some_one (make i) (make j) (h.first ∙ sym h.second)));
}

-- ---- numbers

number_equal : (i j : ℤ) → int_eq i j ≡ true → i ≡ j
number_equal i j h = (Decides-int_eq i j).0 h

equal_number : (i j : ℤ) → i ≡ j → int_eq i j ≡ true
equal_number i j e = (Decides-int_eq i j).1 e

one_number : (b : Base) (i j : ℤ) → sort_of b ≡ Whole → content_by b i [] ≡ content_by b j [] → i ≡ j
one_number base.Bool i j sort e = absurd (cc)
one_number base.SetInt i j sort e = absurd (cc)
one_number (base.SetEnum k) i j sort e = absurd (cc)
one_number (base.Enum k) i j sort e = cc
one_number b i j sort e = cc

numbers_held : (b : Base) (x y : Term) → sort_of b ≡ Whole → Iff (holds (as_number x) (as_number y) int_eq ≡ true) (AreOne (value_by b x) (value_by b y))
numbers_held base.SetInt x y sort = absurd (cc)
numbers_held (base.SetEnum k) x y sort = absurd (cc)
numbers_held b x y sort = holds_one int_eq (λ n. content_by b n []) (as_number x) (as_number y) number_equal equal_number (λ i j. one_number b i j sort)

pub numbers_tested : (b : Base) (x y : Term) → sort_of b ≡ Whole → TestsOne (comparison_term int_eq x y) (value_by b x) (value_by b y)
unfolding comparison_term
numbers_tested b x y sort = tests_as (holds (as_number x) (as_number y) int_eq) (comparison_term int_eq x y) (value_by b x) (value_by b y) (bit_true (holds (as_number x) (as_number y) int_eq)) (numbers_held b x y sort)

-- ---- sets

set_itself : (s : List Range) → same_set s s ≡ true
unfolding same_set
set_itself [] = refl
set_itself (r ∷ rs) = rw (equal_number r.0 r.0 refl, equal_number r.1 r.1 refl, set_itself rs) refl

and_true : (a b : Bool) → a && b ≡ true → (a ≡ true) × (b ≡ true)
and_true true b h = (refl, h)
and_true false b h = absurd (cc)

set_equal : (s t : List Range) → same_set s t ≡ true → s ≡ t
unfolding same_set
set_equal [] [] h = refl
set_equal [] (r ∷ rs) h = absurd (cc)
set_equal (r ∷ rs) [] h = absurd (cc)
set_equal (r ∷ rs) (q ∷ qs) h =
    let both = and_true (int_eq r.0 q.0 && int_eq r.1 q.1) (same_set rs qs) h in
    let ends = and_true (int_eq r.0 q.0) (int_eq r.1 q.1) both.0 in
    ap (λ n. (n, r.1) ∷ rs) (number_equal r.0 q.0 ends.0) ∙ ap (λ n. (q.0, n) ∷ rs) (number_equal r.1 q.1 ends.1) ∙ ap (λ ts. q ∷ ts) (set_equal rs qs both.1)

equal_set : (s t : List Range) → s ≡ t → same_set s t ≡ true
equal_set s t e = ap (same_set s) (sym e) ∙ set_itself s

one_set : (k : Option ℕ) (s t : List Range) → values.set k s ≡ values.set k t → s ≡ t
one_set k s t e = cc

sets_held : (b : Base) (x y : Term) → sort_of b ≡ Subset → Iff (holds (as_set x) (as_set y) same_set ≡ true) (AreOne (value_by b x) (value_by b y))
sets_held base.SetInt x y sort = holds_one same_set (values.set None) (as_set x) (as_set y) set_equal equal_set (one_set None)
sets_held (base.SetEnum k) x y sort = holds_one same_set (values.set (Some k)) (as_set x) (as_set y) set_equal equal_set (one_set (Some k))
sets_held base.Bool x y sort = absurd (cc)
sets_held b x y sort = absurd (cc)

pub sets_tested : (b : Base) (x y : Term) → sort_of b ≡ Subset → TestsOne (set_comparison_term same_set x y) (value_by b x) (value_by b y)
unfolding set_comparison_term
sets_tested b x y sort = tests_as (holds (as_set x) (as_set y) same_set) (set_comparison_term same_set x y) (value_by b x) (value_by b y) (bit_true (holds (as_set x) (as_set y) same_set)) (sets_held b x y sort)

-- ---- truth values

-- a Boolean that has a value is what its term is
truth_value : (x : Term) → IsSome (as_number x) → value_by base.Bool x ≡ Some (values.bool (is_true x))
truth_value x some = by (as_number x) some
  where
    by : (n : Option ℤ) → IsSome n → option_map (λ n. content_by base.Bool n []) n ≡ Some (values.bool (is_one n))
    by None some = absurd (cc)
    by (Some n) some = refl

some_number : (n : Option ℤ) → IsSome (option_map (λ n. content_by base.Bool n []) n) → IsSome n
some_number None some = some
some_number (Some n) some = refl

pub truth_number : (b : Base) (x : Term) → sort_of b ≡ Truth → IsSome (value_by b x) → IsSome (as_number x)
truth_number base.Bool x sort some = some_number (as_number x) some
truth_number base.SetInt x sort some = absurd (cc)
truth_number (base.SetEnum k) x sort some = absurd (cc)
truth_number b x sort some = absurd (cc)

truths_held : (a b : Bool) → Iff (same a b ≡ true) (AreOne (Some (values.bool a)) (Some (values.bool b)))
truths_held true true = record { to = λ h. record { content = _; first = refl; second = refl }; from = λ h. refl }
truths_held true false = record { to = λ h. absurd (cc); from = λ h. absurd (let e = h.first ∙ sym h.second in cc) }
truths_held false true = record { to = λ h. absurd (cc); from = λ h. absurd (let e = h.first ∙ sym h.second in cc) }
truths_held false false = record { to = λ h. record { content = _; first = refl; second = refl }; from = λ h. refl }

pub truths_tested : (x y : Term) → IsSome (value_by base.Bool x) → TestsOne (iff_term x y) (value_by base.Bool x) (Some (values.bool (is_true y)))
unfolding iff_term
truths_tested x y some =
    let value = truth_value x (some_number (as_number x) some) in
    subst (λ v. TestsOne (iff_term x y) v (Some (values.bool (is_true y)))) (sym value) (tests_as (same (is_true x) (is_true y)) (iff_term x y) (Some (values.bool (is_true x))) (Some (values.bool (is_true y))) (bit_true (same (is_true x) (is_true y))) (truths_held (is_true x) (is_true y)))

-- what is tested where the second value is there
guarded_held : (q : Bool) (n : Option ℤ) (t : Term) (x : Option Content) → q ≡ is_some n → TestsOne t x (Some (values.bool (is_one n))) → Iff (q && is_true t ≡ true) (AreOne x (option_map (λ n. content_by base.Bool n []) n))
guarded_held q None t x is tests = record { to = λ h. absurd (let e = (and_true q (is_true t) h).0 in cc); from = λ h. absurd (let e = h.second in cc) }
guarded_held q (Some n) t x is tests = record { to = λ h. tests.to (and_true q (is_true t) h).1; from = λ h. ap (λ q. q && is_true t) is ∙ tests.from h }

pub guarded_truths_tested : (d x y : Term) → is_true d ≡ is_some (as_number y) → IsSome (value_by base.Bool x) → TestsOne (and_term d (iff_term x y)) (value_by base.Bool x) (value_by base.Bool y)
unfolding and_term
guarded_truths_tested d x y is some = tests_as (is_true d && is_true (iff_term x y)) (and_term d (iff_term x y)) (value_by base.Bool x) (value_by base.Bool y) (bit_true (is_true d && is_true (iff_term x y))) (guarded_held (is_true d) (as_number y) (iff_term x y) (value_by base.Bool x) is (truths_tested x y some))

-- ---- options

option_true : (o p t : Term) → is_true (and_term (iff_term o p) (or_term (not_term o) t)) ≡ same (is_true o) (is_true p) && (not (is_true o) || is_true t)
unfolding and_term iff_term or_term not_term
option_true o p t =
    bit_true _
    ∙ ap (λ q. q && is_true (or_term (not_term o) t)) (bit_true (same (is_true o) (is_true p)))
    ∙ ap (λ q. same (is_true o) (is_true p) && q) (bit_true _ ∙ ap (λ q. q || is_true t) (bit_true (not (is_true o))))

options_held : (o p q : Bool) (x y : Option Content) → (o ≡ true → p ≡ true → Iff (q ≡ true) (AreOne x y)) → x ≢ Some values.absent → y ≢ Some values.absent → Iff (same o p && (not o || q) ≡ true) (AreOne (if o then x else Some values.absent) (if p then y else Some values.absent))
options_held true true q x y tests first second = tests refl refl
options_held true false q x y tests first second = record { to = λ h. absurd (cc); from = λ h. absurd (first (h.first ∙ sym h.second)) }
options_held false true q x y tests first second = record { to = λ h. absurd (cc); from = λ h. absurd (second (h.second ∙ sym h.first)) }
options_held false false q x y tests first second = record { to = λ h. record { content = _; first = refl; second = refl }; from = λ h. refl }

-- what stands for a value is never absent
never_absent : {A : Type 0} (make : A → Content) (o : Option A) → ((i : A) → make i ≢ values.absent) → option_map make o ≢ Some values.absent
never_absent make None apart e = cc
never_absent make (Some i) apart e = apart i (some_one (make i) values.absent e)

there : (b : Base) (x : Term) → value_by b x ≢ Some values.absent
there base.SetInt x e = never_absent (values.set None) (as_set x) (λ s e. cc) e
there (base.SetEnum k) x e = never_absent (values.set (Some k)) (as_set x) (λ s e. cc) e
there base.Bool x e = never_absent (λ n. content_by base.Bool n []) (as_number x) (λ n e. cc) e
there (base.Enum k) x e = never_absent (values.case k) (as_number x) (λ n e. cc) e
there b x e = never_absent values.int (as_number x) (λ n e. cc) e

pub options_tested : (b : Base) (o p x y t : Term) → (is_true o ≡ true → is_true p ≡ true → TestsOne t (value_by b x) (value_by b y)) → TestsOne (and_term (iff_term o p) (or_term (not_term o) t)) (option_value b o x) (option_value b p y)
options_tested b o p x y t tests = tests_as (same (is_true o) (is_true p) && (not (is_true o) || is_true t)) (and_term (iff_term o p) (or_term (not_term o) t)) (option_value b o x) (option_value b p y) (option_true o p t) (options_held (is_true o) (is_true p) (is_true t) (value_by b x) (value_by b y) tests (there b x) (there b y))

-- ---- symbols

sorts_tested : (b : Base) (x y : Term) → (sort_of b ≡ Truth → IsSome (as_number y)) → IsSome (value_by b x) → TestsOne (equal_by (sort_of b) x y) (value_by b x) (value_by b y)
sorts_tested base.Bool x y truth some = subst (λ v. TestsOne (iff_term x y) (value_by base.Bool x) v) (sym (truth_value y (truth refl))) (truths_tested x y some)
sorts_tested base.SetInt x y truth some = sets_tested base.SetInt x y refl
sorts_tested (base.SetEnum k) x y truth some = sets_tested (base.SetEnum k) x y refl
sorts_tested (base.Enum k) x y truth some = numbers_tested (base.Enum k) x y refl
sorts_tested b x y truth some = numbers_tested b x y refl

pub occurring : (q : Bool) (v : Option Content) → q ≡ true → IsSome (if q then v else Some values.absent) → IsSome v
occurring true v is some = some
occurring false v is some = absurd (cc)

terms_tested : (t : ℕ → Term) (b : Base) (o p : Option ℕ) (x y : ℕ) → is_some o ≡ is_some p → (sort_of b ≡ Truth → IsSome (as_number (t y))) → IsSome (value_at t b o x) → TestsOne (equal_at t (sort_of b) o x p y) (value_at t b o x) (value_at t b p y)
terms_tested t b None None x y options truth some = sorts_tested b (t x) (t y) truth some
terms_tested t b None (Some p) x y options truth some = absurd (cc)
terms_tested t b (Some o) None x y options truth some = absurd (cc)
terms_tested t b (Some o) (Some p) x y options truth some = options_tested b (t o) (t p) (t x) (t y) (equal_by (sort_of b) (t x) (t y)) (λ first second. sorts_tested b (t x) (t y) truth (occurring (is_true (t o)) (value_by b (t x)) first some))

pub symbols_tested : (t : ℕ → Term) (x y : Symbol) → x.base ≡ y.base → is_some x.occurs ≡ is_some y.occurs → (sort_of x.base ≡ Truth → IsSome (as_number (t y.term))) → IsSome (symbol_value t x) → TestsOne (equal_term t x y) (symbol_value t x) (symbol_value t y)
symbols_tested t x y base options truth some = subst (λ (b : Base). TestsOne (equal_term t x y) (symbol_value t x) (value_at t b y.occurs y.term)) base (terms_tested t x.base x.occurs y.occurs x.term y.term options truth some)

-- ---- Booleans are there

risen_there : (f : ℕ → Content) (c : Cell) → value_of (risen (Given f) true c) ≡ Some (values.bool (cells.is_true (value_of (risen (Given f) true c))))
risen_there f (Par v) = refl
risen_there f (Var b v) = refl
risen_there f (Unshaped d) = refl

abbrev IsTruthValue : Option Content → Type 0
IsTruthValue v = v ≡ Some (values.bool (cells.is_true v))

pub truths_there : (m : Mode) (is_name : Bool) (t : PlainType) (c : Cell) → IsGiven m → is_truth t ≡ true → IsTruthValue (value_of (typed m is_name t c))
truths_there (Blank b) is_name t c given truth = absurd given
truths_there (Given f) is_name t c given truth =
    let d : Cell = widened (not is_name && is_truth t) (sealed (Given f) t.var t c) in
    subst (λ b. IsTruthValue (value_of (risen (Given f) b d))) (sym truth) (risen_there f d)
