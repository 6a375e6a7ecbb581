-- The values of inputs lie in the inputs' bounds.
use Rattle.std.proofs.Common.{◌≡◌, ℕ, zero, suc, ◌≤◌, ℤ, pos, ◌≤ℤ◌, List, [], ◌∷◌, map, slice_get, slice_index_or, Bool, true, false, Some, refl, sym, ap, subst, ◌∙◌, arith, inl, inr}
use Rattle.std.specs.List.{AllByRecursion, list_all}
use Rattle.std.proofs.lemmas.Bool.{and_parts}
use Rattle.std.proofs.lemmas.Int.{ints}
use Rattle.mz_value.specs.Ranges.{Range, AreCanonical, AreInLimit, Has, IsInLimit}
use Rattle.mz_interval.specs.Ends.{Encloses}
use Rattle.mz_operations.specs.Bounds.{nothing}
use Rattle.mz_operations.specs.Laws.{IsPart}
use Rattle.mz_operations.proofs.SetBounds.{hull_of_set-has, part_same}
use Rattle.fz_program.specs.declared.program.Domain.{Domain}
use Rattle.fz_program.specs.declared.program.Domain.TheVariants.{Bool as Truths, Ints as Integers, SetOf}
use Rattle.fz_program.specs.declared.row_name.Kind.{Kind}
use Rattle.fz_program.specs.declared.row_name.Kind.TheVariants.{Int, Bool as Truth, Set, ConstInt, Ints, Bools, Sets, ConstInts, ConstBools, ConstSets}
use Rattle.fz_program.specs.Arguments.{Plain, bool, int, set, var, nested, Argument, one, array, plain_of}
use Rattle.fz_program.specs.Values as values
use Rattle.fz_program.specs.Values.{Value, Values, number_in, set_in, value_in, values_in, value_at, values_at}
use Rattle.fz_program.specs.Flat.{Variable, IsSet, IsOfSet, IsWellFormedVariable, is_set, is_constant, is_plain, is_one_of, are_all_of, is_argument, are_arguments, number_of_truth, plain_value, argument_value, IsInDomain, AreInDomains, same_kind, kind_of_domain, is_variable_of}
use Rattle.fz_program.proofs.Sets as canonical
use Rattle.fz_build.specs.Inputs.{argument_at, elements_in, elements_at}
use Rattle.fz_build.specs.Bounds.{domain_ends, variable_ends, ends_of, domain_upper, variable_upper, upper_of, plain_at, number_ends, upper_at}

-- ---- values at a place

pub each_there : {X : Type 0} (P : X → Type 0) (xs : List X) (k : ℕ) (x : X) → slice_get xs k ≡ Some x → AllByRecursion P xs → P x
each_there P [] k x h a = absurd (cc)
each_there P (y ∷ xs) zero x h a = let same : y ≡ x = cc in subst P same a.0
each_there P (y ∷ xs) (suc k) x h a = each_there P xs k x h a.1

given_at : (f : Values) (xs : List Argument) (k : ℕ) → slice_index_or (map (argument_value f) xs) k (values.many []) ≡ argument_value f (argument_at xs k)
given_at f [] k = refl
given_at f (x ∷ xs) zero = refl
given_at f (x ∷ xs) (suc k) = given_at f xs k

value_of_argument : (f : Values) (a : Argument) → value_in (argument_value f a) ≡ plain_value f (plain_of a)
value_of_argument f (one p) = refl
value_of_argument f (array ps) = refl

values_of_argument : (f : Values) (a : Argument) → values_in (argument_value f a) ≡ map (plain_value f) (elements_in a)
values_of_argument f (one p) = refl
values_of_argument f (array ps) = refl

pub value_is : (f : Values) (xs : List Argument) (k : ℕ) → value_at (map (argument_value f) xs) k ≡ plain_value f (plain_of (argument_at xs k))
value_is f xs k = ap value_in (given_at f xs k) ∙ value_of_argument f (argument_at xs k)

pub values_are : (f : Values) (xs : List Argument) (k : ℕ) → values_at (map (argument_value f) xs) k ≡ map (plain_value f) (elements_at xs k)
values_are f xs k = ap values_in (given_at f xs k) ∙ values_of_argument f (argument_at xs k)

-- ---- numbers

none_in : Encloses nothing (pos 0)
none_in = record { from = omega (arith, ints); to = omega (arith, ints) }

domain_encloses : (d : Domain) (x : Value) → IsOfSet d → IsInDomain d x → Encloses (domain_ends d) (number_in x)
domain_encloses Truths (values.number n) o i = record { from = i.0; to = i.1 }
domain_encloses Truths (values.set t) o i = absurd i
domain_encloses (Integers s) (values.number n) o i = hull_of_set-has s n o.0 i
domain_encloses (Integers s) (values.set t) o i = absurd i
domain_encloses (SetOf s) (values.number n) o i = absurd i
domain_encloses (SetOf s) (values.set t) o i = none_in

variable_encloses : (vs : List Variable) (f : Values) (k : ℕ) → AllByRecursion IsWellFormedVariable vs → AreInDomains vs f → Encloses (variable_ends (slice_get vs k)) (number_in (slice_index_or f k (values.number (pos 0))))
variable_encloses [] [] k w d = none_in
variable_encloses [] (x ∷ f) k w d = absurd d
variable_encloses (v ∷ vs) [] k w d = absurd d
variable_encloses (v ∷ vs) (x ∷ f) zero w d = domain_encloses v.domain x w.0.of_set d.0
variable_encloses (v ∷ vs) (x ∷ f) (suc k) w d = variable_encloses vs f k w.1 d.1

same_ends : (n : ℤ) → Encloses (n, n) n
same_ends n = record { from = omega (arith, ints); to = omega (arith, ints) }

pub ends_enclose : (vs : List Variable) (f : Values) (p : Plain) → AllByRecursion IsWellFormedVariable vs → AreInDomains vs f → Encloses (ends_of vs p) (number_in (plain_value f p))
ends_enclose vs f (bool b) w d = same_ends (number_of_truth b)
ends_enclose vs f (int n) w d = same_ends n
ends_enclose vs f (set s) w d = none_in
ends_enclose vs f (var k) w d = variable_encloses vs f k w d
ends_enclose vs f nested w d = none_in

pub number_encloses : (vs : List Variable) (f : Values) (xs : List Argument) (k : ℕ) → AllByRecursion IsWellFormedVariable vs → AreInDomains vs f → Encloses (number_ends vs xs k) (values.number_at (map (argument_value f) xs) k)
number_encloses vs f xs k w d = subst (λ x. Encloses (number_ends vs xs k) (number_in x)) (sym (value_is f xs k)) (ends_enclose vs f (plain_at xs k) w d)

-- ---- sets

limit_in : (s : List Range) (x : ℤ) → AreInLimit s → Has s x → IsInLimit x
limit_in [] x l h = absurd h
limit_in (r ∷ rs) x l (inl i) = (omega (arith, ints), omega (arith, ints))
limit_in (r ∷ rs) x l (inr h) = limit_in rs x l.2 h

limit_of : (t : List Range) → AreCanonical t → ((x : ℤ) → Has t x → IsInLimit x) → AreInLimit t
limit_of [] c h = tt
limit_of (r ∷ rs) c h = (h r.0 (inl (omega (arith, ints), c.0)), h r.1 (inl (c.0, omega (arith, ints))), limit_of rs c.2 (λ x m. h x (inr m)))

-- a set in the limit that lies in another
pub record LiesInSet (u s : List Range) : Type 0 where
  pub upper : IsSet u
  pub set : IsSet s
  pub part : IsPart s u

empty_lies : LiesInSet [] []
empty_lies = record { upper = (tt, tt); set = (tt, tt); part = part_same [] }

domain_holds : (d : Domain) (x : Value) → IsOfSet d → IsInDomain d x → LiesInSet (domain_upper d) (set_in x)
domain_holds Truths (values.number n) o i = empty_lies
domain_holds Truths (values.set t) o i = absurd i
domain_holds (Integers s) (values.number n) o i = empty_lies
domain_holds (Integers s) (values.set t) o i = absurd i
domain_holds (SetOf s) (values.number n) o i = absurd i
domain_holds (SetOf s) (values.set t) o i = record { upper = o; set = (i.0, limit_of t i.0 (λ x m. limit_in s x o.1 (i.1 x m))); part = record { inside = i.1 } }

variable_holds : (vs : List Variable) (f : Values) (k : ℕ) → AllByRecursion IsWellFormedVariable vs → AreInDomains vs f → LiesInSet (variable_upper (slice_get vs k)) (set_in (slice_index_or f k (values.number (pos 0))))
variable_holds [] [] k w d = empty_lies
variable_holds [] (x ∷ f) k w d = absurd d
variable_holds (v ∷ vs) [] k w d = absurd d
variable_holds (v ∷ vs) (x ∷ f) zero w d = domain_holds v.domain x w.0.of_set d.0
variable_holds (v ∷ vs) (x ∷ f) (suc k) w d = variable_holds vs f k w.1 d.1

-- the sets that stand in a row are canonical and in the limit
abbrev pub IsCanonical : Plain → Type 0
IsCanonical (set s) = IsSet s
IsCanonical (bool b) = Unit {0}
IsCanonical (int n) = Unit {0}
IsCanonical (var k) = Unit {0}
IsCanonical nested = Unit {0}

pub upper_holds : (vs : List Variable) (f : Values) (p : Plain) → AllByRecursion IsWellFormedVariable vs → AreInDomains vs f → IsCanonical p → LiesInSet (upper_of vs p) (set_in (plain_value f p))
upper_holds vs f (bool b) w d c = empty_lies
upper_holds vs f (int n) w d c = empty_lies
upper_holds vs f (set s) w d c = record { upper = c; set = c; part = part_same s }
upper_holds vs f (var k) w d c = variable_holds vs f k w d
upper_holds vs f nested w d c = empty_lies

-- ---- what the kinds of inputs say

abbrev pub IsArgumentCanonical : Argument → Type 0
IsArgumentCanonical (one p) = IsCanonical p
IsArgumentCanonical (array ps) = AllByRecursion IsCanonical ps

constant_canonical : (kind : Kind) (p : Plain) → is_constant kind p ≡ true → IsCanonical p
unfolding is_constant
constant_canonical kind (bool b) h = tt
constant_canonical kind (int n) h = tt
constant_canonical kind (set s) h = canonical.set_in s (and_parts (same_kind kind Set) (is_set s) h).1
constant_canonical kind (var k) h = tt
constant_canonical kind nested h = tt

plain_canonical : (vs : List Variable) (kind : Kind) (p : Plain) → is_plain vs kind p ≡ true → IsCanonical p
unfolding is_plain
plain_canonical vs kind (bool b) h = tt
plain_canonical vs kind (int n) h = tt
plain_canonical vs kind (set s) h = constant_canonical kind (set s) h
plain_canonical vs kind (var k) h = tt
plain_canonical vs kind nested h = tt

all_have : (P : Plain → Type 0) (test : Plain → Bool) (ps : List Plain) → ((p : Plain) → test p ≡ true → P p) → list_all test ps ≡ true → AllByRecursion P ps
all_have P test [] g h = tt
all_have P test (p ∷ ps) g h = let b = and_parts (test p) (list_all test ps) h in (g p b.0, all_have P test ps g b.1)

one_canonical : (test : Plain → Bool) (a : Argument) → ((p : Plain) → test p ≡ true → IsCanonical p) → is_one_of test a ≡ true → IsArgumentCanonical a
one_canonical test (one p) g h = g p h
one_canonical test (array ps) g h = absurd (cc)

many_canonical : (test : Plain → Bool) (a : Argument) → ((p : Plain) → test p ≡ true → IsCanonical p) → are_all_of test a ≡ true → IsArgumentCanonical a
many_canonical test (one p) g h = absurd (cc)
many_canonical test (array ps) g h = all_have IsCanonical test ps g h

argument_canonical : (vs : List Variable) (kind : Kind) (a : Argument) → is_argument vs kind a ≡ true → IsArgumentCanonical a
unfolding is_argument
argument_canonical vs Int a h = one_canonical (is_plain vs Int) a (plain_canonical vs Int) h
argument_canonical vs Truth a h = one_canonical (is_plain vs Truth) a (plain_canonical vs Truth) h
argument_canonical vs Set a h = one_canonical (is_plain vs Set) a (plain_canonical vs Set) h
argument_canonical vs ConstInt a h = one_canonical (is_constant Int) a (constant_canonical Int) h
argument_canonical vs Ints a h = many_canonical (is_plain vs Int) a (plain_canonical vs Int) h
argument_canonical vs Bools a h = many_canonical (is_plain vs Truth) a (plain_canonical vs Truth) h
argument_canonical vs Sets a h = many_canonical (is_plain vs Set) a (plain_canonical vs Set) h
argument_canonical vs ConstInts a h = many_canonical (is_constant Int) a (constant_canonical Int) h
argument_canonical vs ConstBools a h = many_canonical (is_constant Truth) a (constant_canonical Truth) h
argument_canonical vs ConstSets a h = many_canonical (is_constant Set) a (constant_canonical Set) h

pub canonical_at : (vs : List Variable) (kinds : List Kind) (args : List Argument) (k : ℕ) → are_arguments vs kinds args ≡ true → IsArgumentCanonical (argument_at args k)
unfolding are_arguments
canonical_at vs kinds [] k h = tt
canonical_at vs [] (a ∷ args) k h = absurd (cc)
canonical_at vs (kind ∷ kinds) (a ∷ args) zero h = argument_canonical vs kind a (and_parts (is_argument vs kind a) (are_arguments vs kinds args) h).0
canonical_at vs (kind ∷ kinds) (a ∷ args) (suc k) h = canonical_at vs kinds args k (and_parts (is_argument vs kind a) (are_arguments vs kinds args) h).1

plain_of_canonical : (a : Argument) → IsArgumentCanonical a → IsCanonical (plain_of a)
plain_of_canonical (one p) h = h
plain_of_canonical (array ps) h = tt

elements_of_canonical : (a : Argument) → IsArgumentCanonical a → AllByRecursion IsCanonical (elements_in a)
elements_of_canonical (one p) h = tt
elements_of_canonical (array ps) h = h

pub set_holds : (vs : List Variable) (f : Values) (kinds : List Kind) (xs : List Argument) (k : ℕ) → AllByRecursion IsWellFormedVariable vs → AreInDomains vs f → are_arguments vs kinds xs ≡ true → LiesInSet (upper_at vs xs k) (values.set_at (map (argument_value f) xs) k)
set_holds vs f kinds xs k w d h = subst (λ x. LiesInSet (upper_at vs xs k) (set_in x)) (sym (value_is f xs k)) (upper_holds vs f (plain_at xs k) w d (plain_of_canonical (argument_at xs k) (canonical_at vs kinds xs k h)))

pub elements_canonical : (vs : List Variable) (kinds : List Kind) (xs : List Argument) (k : ℕ) → are_arguments vs kinds xs ≡ true → AllByRecursion IsCanonical (elements_at xs k)
elements_canonical vs kinds xs k h = elements_of_canonical (argument_at xs k) (canonical_at vs kinds xs k h)

-- ---- truth values

-- 0 or 1
pub record IsFlag (n : ℤ) : Type 0 where
  pub from : pos 0 ≤ℤ n
  pub to : n ≤ℤ pos 1

truth_flag : (b : Bool) → IsFlag (number_of_truth b)
truth_flag true = record { from = omega (arith, ints); to = omega (arith, ints) }
truth_flag false = record { from = omega (arith, ints); to = omega (arith, ints) }

zero_flag : IsFlag (pos 0)
zero_flag = record { from = omega (arith, ints); to = omega (arith, ints) }

domain_flag : (d : Domain) (x : Value) → same_kind Truth (kind_of_domain d) ≡ true → IsInDomain d x → IsFlag (number_in x)
unfolding same_kind kind_of_domain
domain_flag Truths (values.number n) k i = record { from = i.0; to = i.1 }
domain_flag Truths (values.set t) k i = absurd i
domain_flag (Integers s) x k i = absurd (cc)
domain_flag (SetOf s) x k i = absurd (cc)

variable_flag : (vs : List Variable) (f : Values) (k : ℕ) → AreInDomains vs f → is_variable_of vs Truth k ≡ true → IsFlag (number_in (slice_index_or f k (values.number (pos 0))))
variable_flag [] [] k d h = zero_flag
variable_flag [] (x ∷ f) k d h = absurd d
variable_flag (v ∷ vs) [] k d h = absurd d
variable_flag (v ∷ vs) (x ∷ f) zero d h = domain_flag v.domain x h d.0
variable_flag (v ∷ vs) (x ∷ f) (suc k) d h = variable_flag vs f k d.1 h

constant_flag : (f : Values) (p : Plain) → is_constant Truth p ≡ true → IsFlag (number_in (plain_value f p))
unfolding is_constant same_kind
constant_flag f (bool b) h = truth_flag b
constant_flag f (int n) h = absurd (cc)
constant_flag f (set s) h = absurd (cc)
constant_flag f (var k) h = absurd (cc)
constant_flag f nested h = absurd (cc)

pub plain_flag : (vs : List Variable) (f : Values) (p : Plain) → AreInDomains vs f → is_plain vs Truth p ≡ true → IsFlag (number_in (plain_value f p))
unfolding is_plain
plain_flag vs f (bool b) d h = constant_flag f (bool b) h
plain_flag vs f (int n) d h = constant_flag f (int n) h
plain_flag vs f (set s) d h = constant_flag f (set s) h
plain_flag vs f (var k) d h = variable_flag vs f k d h
plain_flag vs f nested d h = constant_flag f nested h
