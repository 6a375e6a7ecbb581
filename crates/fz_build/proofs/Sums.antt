-- A sum with -1 times a variable is its constant where the variable is what the sum passes it by.
use Rattle.std.proofs.Common.{◌≡◌, ℕ, ◌+◌, ℤ, negsuc, ◌+ℤ◌, ◌-ℤ◌, ◌*ℤ◌, List, [], ◌∷◌, ◌++◌, length, map, Bool, true, refl, sym, ap, ap₂, ◌∙◌, arith, Some, nat_eq, int_eq}
use Rattle.std.specs.Prelude.{◌&&◌, nat_le}
use Rattle.std.specs.List.{list_all}
use Rattle.std.proofs.lemmas.Bool.{and_parts}
use Rattle.std.proofs.lemmas.Bool.Decides.{nat_tests, Decides-int_eq}
use Rattle.std.proofs.lemmas.Int.{ints}
use Rattle.std.proofs.lemmas.List.{map_push, length_push, length-map}
use Rattle.fz_program.specs.declared.row_name.RowName.{RowName}
use Rattle.fz_program.specs.declared.row_name.RowName.TheVariants.{IntLinEq}
use Rattle.fz_program.specs.declared.row_name.Kind.TheVariants.{Int, ConstInt, Ints, ConstInts}
use Rattle.fz_program.specs.declared.program.Domain.{Domain}
use Rattle.fz_program.specs.declared.program.Domain.TheVariants.{Bool as Truths, Ints as Integers, SetOf}
use Rattle.fz_program.specs.Arguments.{Plain, int, var, Argument, one, array, plain_of}
use Rattle.fz_program.specs.Values as values
use Rattle.fz_program.specs.Values.{Value, Values, number_in, linear}
use Rattle.fz_program.specs.Table.{line, sum_equals, sum_at}
use Rattle.fz_program.specs.Flat.{Variable, plain_value, argument_value, kind_of_domain, same_kind, is_variable_of, is_plain, is_constant, is_argument, are_arguments, is_one_of, is_within, is_linear, weight, magnitude, most, IsInDomain}
use Rattle.fz_build.specs.Inputs.{is_sum, argument_at, elements_at}
use Rattle.fz_build.specs.Build.{sum_with}

pub linear_push : (bs ys : List ℤ) (a y : ℤ) → length bs ≡ length ys → linear (bs ++ a ∷ []) (ys ++ y ∷ []) ≡ linear bs ys +ℤ (a *ℤ y)
unfolding linear
linear_push [] [] a y l = omega (arith, ints)
linear_push [] (z ∷ ys) a y l = absurd (omega (arith, l))
linear_push (b ∷ bs) [] a y l = absurd (omega (arith, l))
linear_push (b ∷ bs) (z ∷ ys) a y l = let h = linear_push bs ys a y (omega (arith, l)) in omega (arith, ints, h)

-- ---- what the last of a sum's terms is

-- a number, where the domain is one of integers
pub number_of : (d : Domain) (x : Value) → same_kind Int (kind_of_domain d) ≡ true → IsInDomain d x → x ≡ values.number (number_in x)
unfolding same_kind kind_of_domain
number_of Truths x k i = absurd (cc)
number_of (Integers s) (values.number n) k i = refl
number_of (Integers s) (values.set t) k i = absurd i
number_of (SetOf s) x k i = absurd (cc)

-- a sum: as many coefficients as integers, a constant, and an integer as the last term
pub record IsSum (vs : List Variable) (inputs : List Argument) (n : ℕ) : Type 0 where
  pub constant : argument_at inputs 2 ≡ one (plain_of (argument_at inputs 2))
  pub as_many : length (elements_at inputs 0) ≡ length (elements_at inputs 1)
  pub integer : is_variable_of vs Int n ≡ true

same_nat : (a b : ℕ) → nat_eq a b ≡ true → a ≡ b
same_nat a b h = grind (arith, nat_tests)

same_length : (cs xs : List Plain) (c x : Plain) → nat_eq (length (cs ++ c ∷ [])) (length (xs ++ x ∷ [])) ≡ true → length cs ≡ length xs
same_length cs xs c x h =
    let e = same_nat (length (cs ++ c ∷ [])) (length (xs ++ x ∷ [])) h in
    let a = length_push cs c in let b = length_push xs x in omega (arith, a, b, e)

is_single : (test : Plain → Bool) (a : Argument) → is_one_of test a ≡ true → a ≡ one (plain_of a)
is_single test (one p) h = refl
is_single test (array ps) h = absurd (cc)

within_single : (vs : List Variable) (cs xs : List Plain) (a : Argument) (c : Plain) → a ≡ one c → is_within vs (array cs ∷ array xs ∷ a ∷ []) ≡ is_within vs (array cs ∷ array xs ∷ one c ∷ [])
within_single vs cs xs a c e = ap (λ b. is_within vs (array cs ∷ array xs ∷ b ∷ [])) e

last_all : (test : Plain → Bool) (xs : List Plain) (x : Plain) → list_all test (xs ++ x ∷ []) ≡ true → test x ≡ true
last_all test [] x h = (and_parts (test x) true h).0
last_all test (y ∷ xs) x h = last_all test xs x (and_parts (test y) (list_all test (xs ++ x ∷ [])) h).1

pub sum_of_inputs : (vs : List Variable) (inputs : List Argument) (n : ℕ) → are_arguments vs (ConstInts ∷ Ints ∷ ConstInt ∷ []) (sum_with inputs n) ≡ true → is_within vs (sum_with inputs n) ≡ true → IsSum vs inputs n
unfolding are_arguments is_argument is_within is_plain
sum_of_inputs vs inputs n h w =
    let cs = elements_at inputs 0 ++ int (negsuc 0) ∷ [] in
    let xs = elements_at inputs 1 ++ var n ∷ [] in
    let a = argument_at inputs 2 in
    let kinds = and_parts (list_all (is_constant Int) cs) (list_all (is_plain vs Int) xs && (is_one_of (is_constant Int) a && true)) h in
    let more = and_parts (list_all (is_plain vs Int) xs) (is_one_of (is_constant Int) a && true) kinds.1 in
    let single = is_single (is_constant Int) a (and_parts (is_one_of (is_constant Int) a) true more.1).0 in
    let linear : is_linear vs cs xs (plain_of a) ≡ true = sym (within_single vs cs xs a (plain_of a) single) ∙ w in
    let same = and_parts (nat_eq (length cs) (length xs)) (nat_le (magnitude vs (plain_of a) + weight vs cs xs) most) linear in
    record {
      constant = single;
      as_many = same_length (elements_at inputs 0) (elements_at inputs 1) (int (negsuc 0)) (var n) same.0;
      integer = last_all (is_plain vs Int) (elements_at inputs 1) (var n) more.0;
    }

pub sum_line : (name : RowName) → is_sum name ≡ true → line name ≡ line IntLinEq
unfolding is_sum
sum_line IntLinEq h = refl
sum_line _ h = absurd (cc)

-- ---- the sum

-- the numbers of elements
abbrev numbers : Values → List Plain → List ℤ
numbers f ps = map number_in (map (plain_value f) ps)

numbers_push : (f : Values) (ps : List Plain) (p : Plain) → numbers f (ps ++ p ∷ []) ≡ numbers f ps ++ number_in (plain_value f p) ∷ []
numbers_push f ps p = ap (map number_in) (map_push (plain_value f) ps p) ∙ map_push number_in (map (plain_value f) ps) (plain_value f p)

numbers_length : (f : Values) (ps : List Plain) → length (numbers f ps) ≡ length ps
numbers_length f ps = length-map (map (plain_value f) ps) number_in ∙ length-map ps (plain_value f)

sum_with_term : (f : Values) (cs xs : List Plain) (n : ℕ) → length cs ≡ length xs → linear (numbers f (cs ++ int (negsuc 0) ∷ [])) (numbers f (xs ++ var n ∷ [])) ≡ linear (numbers f cs) (numbers f xs) +ℤ (negsuc 0 *ℤ number_in (plain_value f (var n)))
sum_with_term f cs xs n l = ap₂ linear (numbers_push f cs (int (negsuc 0))) (numbers_push f xs (var n)) ∙ linear_push (numbers f cs) (numbers f xs) (negsuc 0) (number_in (plain_value f (var n))) (numbers_length f cs ∙ l ∙ sym (numbers_length f xs))

passes : (s y c : ℤ) → int_eq (s +ℤ (negsuc 0 *ℤ y)) c ≡ true → s -ℤ c ≡ y
passes s y c h = let e : s +ℤ (negsuc 0 *ℤ y) ≡ c = (Decides-int_eq (s +ℤ (negsuc 0 *ℤ y)) c).0 h in omega (arith, ints, e)

passed : (s y c : ℤ) → s -ℤ c ≡ y → int_eq (s +ℤ (negsuc 0 *ℤ y)) c ≡ true
passed s y c h = (Decides-int_eq (s +ℤ (negsuc 0 *ℤ y)) c).1 (omega (arith, ints, h))

-- the row holds where the variable is what the sum passes its constant by
pub sum_holds : (f : Values) (cs xs : List Plain) (c : Plain) (n : ℕ) → length cs ≡ length xs → plain_value f (var n) ≡ values.number (number_in (plain_value f (var n))) → sum_equals (map (argument_value f) (sum_with (array cs ∷ array xs ∷ one c ∷ []) n)) ≡ true → Some (values.number (sum_at (map (argument_value f) (array cs ∷ array xs ∷ one c ∷ [])) -ℤ number_in (plain_value f c))) ≡ Some (plain_value f (var n))
sum_holds f cs xs c n l e h = ap (λ z. Some (values.number z)) (passes (linear (numbers f cs) (numbers f xs)) (number_in (plain_value f (var n))) (number_in (plain_value f c)) (ap (λ s. int_eq s (number_in (plain_value f c))) (sym (sum_with_term f cs xs n l)) ∙ h)) ∙ ap (λ v. Some v) (sym e)

pub holds_sum : (f : Values) (cs xs : List Plain) (c : Plain) (n : ℕ) → length cs ≡ length xs → Some (values.number (sum_at (map (argument_value f) (array cs ∷ array xs ∷ one c ∷ [])) -ℤ number_in (plain_value f c))) ≡ Some (plain_value f (var n)) → sum_equals (map (argument_value f) (sum_with (array cs ∷ array xs ∷ one c ∷ []) n)) ≡ true
holds_sum f cs xs c n l h = ap (λ s. int_eq s (number_in (plain_value f c))) (sum_with_term f cs xs n l) ∙ passed (linear (numbers f cs) (numbers f xs)) (number_in (plain_value f (var n))) (number_in (plain_value f c)) (ap number_in (some_same _ _ h))
  where
    some_same : (x y : Value) → Some x ≡ Some y → x ≡ y
    some_same x y e = cc
