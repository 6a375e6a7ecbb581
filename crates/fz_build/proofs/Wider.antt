-- What is well formed stays so where more variables are declared.
use Rattle.std.proofs.Common.{◌≡◌, ℕ, zero, suc, ◌<◌, ◌+◌, ◌*◌, List, [], ◌∷◌, ◌++◌, length, Bool, true, false, refl, ap, ap₂, ◌∙◌, arith, inl, inr}
use Rattle.std.specs.Prelude.{◌&&◌, ◌||◌, nat_le, nat_eq}
use Rattle.std.specs.List.{AllByRecursion}
use Rattle.std.proofs.lemmas.Bool.{and_parts, and_from, or_cases}
use Rattle.fz_program.specs.declared.row_name.Kind.{Kind}
use Rattle.fz_program.specs.declared.row_name.Kind.TheVariants.{Int, Bool as Truth, Set, ConstInt, Ints, Bools, Sets, ConstInts, ConstBools, ConstSets}
use Rattle.fz_program.specs.Arguments.{Plain, bool, int, set, var, nested, Argument, one, array}
use Rattle.fz_program.specs.Table.{line}
use Rattle.fz_program.specs.Flat.{Variable, ArrayItem, Row, is_variable_of, is_constant, is_plain, is_one_of, are_all_of, is_argument, are_arguments, magnitude, magnitude_at, weight, is_linear, is_within, most, IsWellFormedRow, IsWellFormedArray, are_variables_of, are_alike}
use Rattle.fz_build.specs.Build.{IsOver, IsArgumentOver, AreOver}
use Rattle.fz_build.proofs.Lists.{get_wider, all_from, all_to_each, each_from}

-- ---- variables of a kind

variable_wider : (vs ws : List Variable) (kind : Kind) (k : ℕ) → is_variable_of vs kind k ≡ true → is_variable_of (vs ++ ws) kind k ≡ true
variable_wider [] ws kind k h = absurd (cc)
variable_wider (v ∷ vs) ws kind zero h = h
variable_wider (v ∷ vs) ws kind (suc k) h = variable_wider vs ws kind k h

pub variable_there : (vs : List Variable) (kind : Kind) (k : ℕ) → is_variable_of vs kind k ≡ true → k < length vs
variable_there [] kind k h = absurd (cc)
variable_there (v ∷ vs) kind zero h = omega arith
variable_there (v ∷ vs) kind (suc k) h = let b = variable_there vs kind k h in omega (arith, b)

pub plain_wider : (vs ws : List Variable) (kind : Kind) (p : Plain) → is_plain vs kind p ≡ true → is_plain (vs ++ ws) kind p ≡ true
unfolding is_plain
plain_wider vs ws kind (var k) h = variable_wider vs ws kind k h
plain_wider vs ws kind (bool b) h = h
plain_wider vs ws kind (int n) h = h
plain_wider vs ws kind (set s) h = h
plain_wider vs ws kind nested h = h

plain_over : (vs : List Variable) (kind : Kind) (p : Plain) → is_plain vs kind p ≡ true → IsOver (length vs) p
unfolding is_plain
plain_over vs kind (var k) h = variable_there vs kind k h
plain_over vs kind (bool b) h = tt
plain_over vs kind (int n) h = tt
plain_over vs kind (set s) h = tt
plain_over vs kind nested h = tt

constant_over : (n : ℕ) (kind : Kind) (p : Plain) → is_constant kind p ≡ true → IsOver n p
unfolding is_constant
constant_over n kind (var k) h = absurd (cc)
constant_over n kind (bool b) h = tt
constant_over n kind (int i) h = tt
constant_over n kind (set s) h = tt
constant_over n kind nested h = tt

-- ---- arguments

one_from : (p q : Plain → Bool) (a : Argument) → ((x : Plain) → p x ≡ true → q x ≡ true) → is_one_of p a ≡ true → is_one_of q a ≡ true
one_from p q (one x) f h = f x h
one_from p q (array xs) f h = h

many_from : (p q : Plain → Bool) (a : Argument) → ((x : Plain) → p x ≡ true → q x ≡ true) → are_all_of p a ≡ true → are_all_of q a ≡ true
many_from p q (one x) f h = h
many_from p q (array xs) f h = all_from p q xs f h

one_over : (n : ℕ) (p : Plain → Bool) (a : Argument) → ((x : Plain) → p x ≡ true → IsOver n x) → is_one_of p a ≡ true → IsArgumentOver n a
one_over n p (one x) f h = f x h
one_over n p (array xs) f h = absurd (cc)

many_over : (n : ℕ) (p : Plain → Bool) (a : Argument) → ((x : Plain) → p x ≡ true → IsOver n x) → are_all_of p a ≡ true → IsArgumentOver n a
many_over n p (one x) f h = absurd (cc)
many_over n p (array xs) f h = all_to_each p (IsOver n) xs f h

pub argument_wider : (vs ws : List Variable) (kind : Kind) (a : Argument) → is_argument vs kind a ≡ true → is_argument (vs ++ ws) kind a ≡ true
unfolding is_argument
argument_wider vs ws Int a h = one_from (is_plain vs Int) (is_plain (vs ++ ws) Int) a (plain_wider vs ws Int) h
argument_wider vs ws Truth a h = one_from (is_plain vs Truth) (is_plain (vs ++ ws) Truth) a (plain_wider vs ws Truth) h
argument_wider vs ws Set a h = one_from (is_plain vs Set) (is_plain (vs ++ ws) Set) a (plain_wider vs ws Set) h
argument_wider vs ws ConstInt a h = h
argument_wider vs ws Ints a h = many_from (is_plain vs Int) (is_plain (vs ++ ws) Int) a (plain_wider vs ws Int) h
argument_wider vs ws Bools a h = many_from (is_plain vs Truth) (is_plain (vs ++ ws) Truth) a (plain_wider vs ws Truth) h
argument_wider vs ws Sets a h = many_from (is_plain vs Set) (is_plain (vs ++ ws) Set) a (plain_wider vs ws Set) h
argument_wider vs ws ConstInts a h = h
argument_wider vs ws ConstBools a h = h
argument_wider vs ws ConstSets a h = h

pub argument_over : (vs : List Variable) (kind : Kind) (a : Argument) → is_argument vs kind a ≡ true → IsArgumentOver (length vs) a
unfolding is_argument
argument_over vs Int a h = one_over (length vs) (is_plain vs Int) a (plain_over vs Int) h
argument_over vs Truth a h = one_over (length vs) (is_plain vs Truth) a (plain_over vs Truth) h
argument_over vs Set a h = one_over (length vs) (is_plain vs Set) a (plain_over vs Set) h
argument_over vs ConstInt a h = one_over (length vs) (is_constant Int) a (constant_over (length vs) Int) h
argument_over vs Ints a h = many_over (length vs) (is_plain vs Int) a (plain_over vs Int) h
argument_over vs Bools a h = many_over (length vs) (is_plain vs Truth) a (plain_over vs Truth) h
argument_over vs Sets a h = many_over (length vs) (is_plain vs Set) a (plain_over vs Set) h
argument_over vs ConstInts a h = many_over (length vs) (is_constant Int) a (constant_over (length vs) Int) h
argument_over vs ConstBools a h = many_over (length vs) (is_constant Truth) a (constant_over (length vs) Truth) h
argument_over vs ConstSets a h = many_over (length vs) (is_constant Set) a (constant_over (length vs) Set) h

arguments_wider : (vs ws : List Variable) (kinds : List Kind) (args : List Argument) → are_arguments vs kinds args ≡ true → are_arguments (vs ++ ws) kinds args ≡ true
unfolding are_arguments
arguments_wider vs ws [] [] h = refl
arguments_wider vs ws [] (a ∷ args) h = h
arguments_wider vs ws (k ∷ kinds) [] h = h
arguments_wider vs ws (k ∷ kinds) (a ∷ args) h =
    let b = and_parts (is_argument vs k a) (are_arguments vs kinds args) h in
    and_from (is_argument (vs ++ ws) k a) (are_arguments (vs ++ ws) kinds args) (argument_wider vs ws k a b.0) (arguments_wider vs ws kinds args b.1)

pub arguments_over : (vs : List Variable) (kinds : List Kind) (args : List Argument) → are_arguments vs kinds args ≡ true → AreOver (length vs) args
unfolding are_arguments
arguments_over vs [] [] h = tt
arguments_over vs [] (a ∷ args) h = absurd (cc)
arguments_over vs (k ∷ kinds) [] h = tt
arguments_over vs (k ∷ kinds) (a ∷ args) h =
    let b = and_parts (is_argument vs k a) (are_arguments vs kinds args) h in
    (argument_over vs k a b.0, arguments_over vs kinds args b.1)

-- ---- linear rows

magnitude_wider : (vs ws : List Variable) (p : Plain) → IsOver (length vs) p → magnitude (vs ++ ws) p ≡ magnitude vs p
magnitude_wider vs ws (var k) h = ap magnitude_at (get_wider vs ws k h)
magnitude_wider vs ws (bool b) h = refl
magnitude_wider vs ws (int n) h = refl
magnitude_wider vs ws (set s) h = refl
magnitude_wider vs ws nested h = refl

weight_wider : (vs ws : List Variable) (cs xs : List Plain) → AllByRecursion (IsOver (length vs)) cs → AllByRecursion (IsOver (length vs)) xs → weight (vs ++ ws) cs xs ≡ weight vs cs xs
unfolding weight
weight_wider vs ws [] xs a b = refl
weight_wider vs ws (c ∷ cs) [] a b = refl
weight_wider vs ws (c ∷ cs) (x ∷ xs) a b = ap₂ (λ m n. m + n) (ap₂ (λ m n. m * n) (magnitude_wider vs ws c a.0) (magnitude_wider vs ws x b.0)) (weight_wider vs ws cs xs a.1 b.1)

linear_wider : (vs ws : List Variable) (cs xs : List Plain) (c : Plain) → AllByRecursion (IsOver (length vs)) cs → AllByRecursion (IsOver (length vs)) xs → IsOver (length vs) c → is_linear (vs ++ ws) cs xs c ≡ is_linear vs cs xs c
linear_wider vs ws cs xs c a b d = ap (λ m. nat_eq (length cs) (length xs) && nat_le m most) (ap₂ (λ m n. m + n) (magnitude_wider vs ws c d) (weight_wider vs ws cs xs a b))

within_wider : (vs ws : List Variable) (args : List Argument) → AreOver (length vs) args → is_within (vs ++ ws) args ≡ is_within vs args
unfolding is_within
within_wider vs ws (array cs ∷ array xs ∷ one c ∷ more) a = linear_wider vs ws cs xs c a.0 a.1.0 a.1.1.0
within_wider vs ws (array cs ∷ array xs ∷ array ds ∷ more) a = refl
within_wider vs ws (array cs ∷ array xs ∷ []) a = refl
within_wider vs ws (array cs ∷ one x ∷ more) a = refl
within_wider vs ws (array cs ∷ []) a = refl
within_wider vs ws (one c ∷ more) a = refl
within_wider vs ws [] a = refl

-- ---- rows and arrays

pub row_over : (vs : List Variable) (r : Row) → IsWellFormedRow vs r → AreOver (length vs) r.args
row_over vs r w = arguments_over vs (line r.name).kinds r.args w.args

pub row_wider : (vs ws : List Variable) (r : Row) → IsWellFormedRow vs r → IsWellFormedRow (vs ++ ws) r
row_wider vs ws r w = record {
  args = arguments_wider vs ws (line r.name).kinds r.args w.args;
  defines = w.defines;
  within = within_wider vs ws r.args (row_over vs r w) ∙ w.within;
}

pub rows_wider : (vs ws : List Variable) (rs : List Row) → AllByRecursion (IsWellFormedRow vs) rs → AllByRecursion (IsWellFormedRow (vs ++ ws)) rs
rows_wider vs ws rs a = each_from (IsWellFormedRow vs) (IsWellFormedRow (vs ++ ws)) rs (row_wider vs ws) a

variables_wider : (vs ws : List Variable) (kind : Kind) (items : List ℕ) → are_variables_of vs kind items ≡ true → are_variables_of (vs ++ ws) kind items ≡ true
variables_wider vs ws kind items h = all_from (is_variable_of vs kind) (is_variable_of (vs ++ ws) kind) items (variable_wider vs ws kind) h

pub or_left : (a b : Bool) → a ≡ true → (a || b) ≡ true
or_left true b h = refl
or_left false b h = absurd (cc)

pub or_right : (a b : Bool) → b ≡ true → (a || b) ≡ true
or_right true b h = refl
or_right false b h = h

alike_wider : (vs ws : List Variable) (items : List ℕ) → are_alike vs items ≡ true → are_alike (vs ++ ws) items ≡ true
alike_wider vs ws items h =
    let of : Kind → Bool = λ k. are_variables_of vs k items in
    let wide : Kind → Bool = λ k. are_variables_of (vs ++ ws) k items in
    elim (or_cases (of Int) (of Truth || of Set) h) [
      | inl l ↦ or_left (wide Int) (wide Truth || wide Set) (variables_wider vs ws Int items l)
      | inr r ↦ or_right (wide Int) (wide Truth || wide Set) (elim (or_cases (of Truth) (of Set) r) [
        | inl t ↦ or_left (wide Truth) (wide Set) (variables_wider vs ws Truth items t)
        | inr s ↦ or_right (wide Truth) (wide Set) (variables_wider vs ws Set items s)
      ])
    ]

array_wider : (vs ws : List Variable) (a : ArrayItem) → IsWellFormedArray vs a → IsWellFormedArray (vs ++ ws) a
array_wider vs ws a w = record { label = w.label; index = w.index; count = w.count; alike = alike_wider vs ws a.items w.alike }

pub arrays_wider : (vs ws : List Variable) (xs : List ArrayItem) → AllByRecursion (IsWellFormedArray vs) xs → AllByRecursion (IsWellFormedArray (vs ++ ws)) xs
arrays_wider vs ws xs a = each_from (IsWellFormedArray vs) (IsWellFormedArray (vs ++ ws)) xs (array_wider vs ws) a
