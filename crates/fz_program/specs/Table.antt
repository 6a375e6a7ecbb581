-- The table of constraints: a line for each, with its name, the kinds of its arguments, and what it asks of them.
use Rattle.std.specs.Prelude.{◌≡◌, true, false, ℕ, ℤ, pos, int_le, int_lt, List, [], ◌∷◌, ◌-◌, Bool, not, ◌||◌, Option, Some, None, codes, length, take}
use Rattle.std.specs.List.{list_any, list_all}
use Rattle.std.specs.Ordering.{int_eq}
use Rattle.std.specs.Option.{option_map}
use Rattle.mz_value.specs.Ranges.{cardinality}
use Rattle.mz_operations.specs.declared.row.Arith.{Arith}
use Rattle.mz_operations.specs.declared.row.Arith.TheVariants.{Mul, Div, Mod, Min, Max}
use Rattle.mz_operations.specs.declared.row.Sign.TheVariants.{Abs}
use Rattle.mz_operations.specs.declared.row.SetOp.{SetOp}
use Rattle.mz_operations.specs.declared.row.SetOp.TheVariants.{Union, Intersect, Diff, Symdiff}
use Rattle.mz_operations.specs.Views.{number_of_bool}
use Rattle.mz_operations.specs.Numbers.{computed, signed}
use Rattle.mz_operations.specs.Sets.{combined, contains, is_subset, same_set}
use Rattle.fz_program.specs.declared.row_name.Kind.{Kind}
use Rattle.fz_program.specs.declared.row_name.Kind.TheVariants.{Int, Bool as Truth, Set, ConstInt, Ints, Bools, Sets, ConstInts, ConstBools, ConstSets}
use Rattle.fz_program.specs.declared.row_name.RowName.{RowName}
use Rattle.fz_program.specs.declared.row_name.RowName.TheVariants.{IntEq, IntNe, IntLe, IntLt, IntEqReif, IntNeReif, IntLeReif, IntLtReif, IntLinEq, IntLinNe, IntLinLe, IntLinEqReif, IntLinNeReif, IntLinLeReif, IntTimes, IntDiv, IntMod, IntMin, IntMax, IntAbs, ArrayIntElement, ArrayVarIntElement, ArrayBoolElement, ArrayVarBoolElement, ArraySetElement, ArrayVarSetElement, BoolEq, BoolNot, BoolToInt, BoolXor, BoolEqReif, BoolLeReif, ArrayBoolAnd, ArrayBoolOr, BoolClause, SetIn, SetInReif, SetEq, SetNe, SetSubset, SetEqReif, SetNeReif, SetSubsetReif, SetUnion, SetIntersect, SetDiff, SetSymdiff, SetCard}
use Rattle.fz_program.specs.Values.{Value, number, set, ArgumentValue, number_at, set_at, numbers_at, sets_at, value_at, element_at, is_one, linear}

-- What a constraint asks of the values of its arguments: that a test holds, or that the last is what the others give. Where they give nothing, it doesn't hold.
pub data Meaning : Type 0 where
  tests : (List ArgumentValue → Bool) → Meaning
  gives : (List ArgumentValue → Option Value) → Meaning

pub record Line : Type 0 where
  pub text : List ℕ
  pub kinds : List Kind
  pub meaning : Meaning

abbrev pub row : List ℕ → List Kind → Meaning → Line
row text kinds meaning = record { text = text; kinds = kinds; meaning = meaning }

-- ---- what the constraints ask: `xs` are all arguments, or all but the last

-- a truth value is 1 where it is true, else 0
abbrev pub truth : (List ArgumentValue → Bool) → List ArgumentValue → Option Value
truth test xs = Some (number (number_of_bool (test xs)))

abbrev pub equals : List ArgumentValue → Bool
equals xs = int_eq (number_at xs 0) (number_at xs 1)

abbrev pub differs : List ArgumentValue → Bool
differs xs = not (equals xs)

abbrev pub is_at_most : List ArgumentValue → Bool
is_at_most xs = int_le (number_at xs 0) (number_at xs 1)

abbrev pub is_below : List ArgumentValue → Bool
is_below xs = int_lt (number_at xs 0) (number_at xs 1)

-- the sum of the products of coefficients and integers
abbrev pub sum_at : List ArgumentValue → ℤ
sum_at xs = linear (numbers_at xs 0) (numbers_at xs 1)

abbrev pub sum_equals : List ArgumentValue → Bool
sum_equals xs = int_eq (sum_at xs) (number_at xs 2)

abbrev pub sum_differs : List ArgumentValue → Bool
sum_differs xs = not (sum_equals xs)

abbrev pub sum_is_at_most : List ArgumentValue → Bool
sum_is_at_most xs = int_le (sum_at xs) (number_at xs 2)

-- nothing where the divisor is 0
abbrev pub arithmetic : Arith → List ArgumentValue → Option Value
arithmetic op xs = option_map number (computed op (number_at xs 0) (number_at xs 1))

abbrev pub magnitude : List ArgumentValue → Option Value
magnitude xs = Some (number (signed Abs (number_at xs 0)))

-- nothing where there is no such place
abbrev pub number_element : List ArgumentValue → Option Value
number_element xs = option_map number (element_at (numbers_at xs 1) (number_at xs 0))

abbrev pub set_element : List ArgumentValue → Option Value
set_element xs = option_map set (element_at (sets_at xs 1) (number_at xs 0))

abbrev pub is_true : List ArgumentValue → Bool
is_true xs = is_one (number_at xs 0)

abbrev pub is_false : List ArgumentValue → Bool
is_false xs = not (is_true xs)

abbrev pub are_all_true : List ArgumentValue → Bool
are_all_true xs = list_all is_one (numbers_at xs 0)

abbrev pub is_some_true : List ArgumentValue → Bool
is_some_true xs = list_any is_one (numbers_at xs 0)

abbrev pub is_clause : List ArgumentValue → Bool
is_clause xs = is_some_true xs || not (list_all is_one (numbers_at xs 1))

abbrev pub is_element : List ArgumentValue → Bool
is_element xs = contains (set_at xs 1) (number_at xs 0)

abbrev pub same_sets : List ArgumentValue → Bool
same_sets xs = same_set (set_at xs 0) (set_at xs 1)

abbrev pub other_sets : List ArgumentValue → Bool
other_sets xs = not (same_sets xs)

abbrev pub is_part : List ArgumentValue → Bool
is_part xs = is_subset (set_at xs 0) (set_at xs 1)

abbrev pub set_result : SetOp → List ArgumentValue → Option Value
set_result op xs = Some (set (combined op (set_at xs 0) (set_at xs 1)))

abbrev pub size : List ArgumentValue → Option Value
size xs = Some (number (pos (cardinality (set_at xs 0))))

-- ---- the table

unfoldable pub line : RowName → Line
line IntEq = row (codes "int_eq") (Int ∷ Int ∷ []) (tests equals)
line IntNe = row (codes "int_ne") (Int ∷ Int ∷ []) (tests differs)
line IntLe = row (codes "int_le") (Int ∷ Int ∷ []) (tests is_at_most)
line IntLt = row (codes "int_lt") (Int ∷ Int ∷ []) (tests is_below)
line IntEqReif = row (codes "int_eq_reif") (Int ∷ Int ∷ Truth ∷ []) (gives (truth equals))
line IntNeReif = row (codes "int_ne_reif") (Int ∷ Int ∷ Truth ∷ []) (gives (truth differs))
line IntLeReif = row (codes "int_le_reif") (Int ∷ Int ∷ Truth ∷ []) (gives (truth is_at_most))
line IntLtReif = row (codes "int_lt_reif") (Int ∷ Int ∷ Truth ∷ []) (gives (truth is_below))
line IntLinEq = row (codes "int_lin_eq") (ConstInts ∷ Ints ∷ ConstInt ∷ []) (tests sum_equals)
line IntLinNe = row (codes "int_lin_ne") (ConstInts ∷ Ints ∷ ConstInt ∷ []) (tests sum_differs)
line IntLinLe = row (codes "int_lin_le") (ConstInts ∷ Ints ∷ ConstInt ∷ []) (tests sum_is_at_most)
line IntLinEqReif = row (codes "int_lin_eq_reif") (ConstInts ∷ Ints ∷ ConstInt ∷ Truth ∷ []) (gives (truth sum_equals))
line IntLinNeReif = row (codes "int_lin_ne_reif") (ConstInts ∷ Ints ∷ ConstInt ∷ Truth ∷ []) (gives (truth sum_differs))
line IntLinLeReif = row (codes "int_lin_le_reif") (ConstInts ∷ Ints ∷ ConstInt ∷ Truth ∷ []) (gives (truth sum_is_at_most))
line IntTimes = row (codes "int_times") (Int ∷ Int ∷ Int ∷ []) (gives (arithmetic Mul))
line IntDiv = row (codes "int_div") (Int ∷ Int ∷ Int ∷ []) (gives (arithmetic Div))
line IntMod = row (codes "int_mod") (Int ∷ Int ∷ Int ∷ []) (gives (arithmetic Mod))
line IntMin = row (codes "int_min") (Int ∷ Int ∷ Int ∷ []) (gives (arithmetic Min))
line IntMax = row (codes "int_max") (Int ∷ Int ∷ Int ∷ []) (gives (arithmetic Max))
line IntAbs = row (codes "int_abs") (Int ∷ Int ∷ []) (gives magnitude)
line ArrayIntElement = row (codes "array_int_element") (Int ∷ ConstInts ∷ Int ∷ []) (gives number_element)
line ArrayVarIntElement = row (codes "array_var_int_element") (Int ∷ Ints ∷ Int ∷ []) (gives number_element)
line ArrayBoolElement = row (codes "array_bool_element") (Int ∷ ConstBools ∷ Truth ∷ []) (gives number_element)
line ArrayVarBoolElement = row (codes "array_var_bool_element") (Int ∷ Bools ∷ Truth ∷ []) (gives number_element)
line ArraySetElement = row (codes "array_set_element") (Int ∷ ConstSets ∷ Set ∷ []) (gives set_element)
line ArrayVarSetElement = row (codes "array_var_set_element") (Int ∷ Sets ∷ Set ∷ []) (gives set_element)
line BoolEq = row (codes "bool_eq") (Truth ∷ Truth ∷ []) (tests equals)
line BoolNot = row (codes "bool_not") (Truth ∷ Truth ∷ []) (gives (truth is_false))
line BoolToInt = row (codes "bool2int") (Truth ∷ Int ∷ []) (gives (truth is_true))
line BoolXor = row (codes "bool_xor") (Truth ∷ Truth ∷ Truth ∷ []) (gives (truth differs))
line BoolEqReif = row (codes "bool_eq_reif") (Truth ∷ Truth ∷ Truth ∷ []) (gives (truth equals))
line BoolLeReif = row (codes "bool_le_reif") (Truth ∷ Truth ∷ Truth ∷ []) (gives (truth is_at_most))
line ArrayBoolAnd = row (codes "array_bool_and") (Bools ∷ Truth ∷ []) (gives (truth are_all_true))
line ArrayBoolOr = row (codes "array_bool_or") (Bools ∷ Truth ∷ []) (gives (truth is_some_true))
line BoolClause = row (codes "bool_clause") (Bools ∷ Bools ∷ []) (tests is_clause)
line SetIn = row (codes "set_in") (Int ∷ Set ∷ []) (tests is_element)
line SetInReif = row (codes "set_in_reif") (Int ∷ Set ∷ Truth ∷ []) (gives (truth is_element))
line SetEq = row (codes "set_eq") (Set ∷ Set ∷ []) (tests same_sets)
line SetNe = row (codes "set_ne") (Set ∷ Set ∷ []) (tests other_sets)
line SetSubset = row (codes "set_subset") (Set ∷ Set ∷ []) (tests is_part)
line SetEqReif = row (codes "set_eq_reif") (Set ∷ Set ∷ Truth ∷ []) (gives (truth same_sets))
line SetNeReif = row (codes "set_ne_reif") (Set ∷ Set ∷ Truth ∷ []) (gives (truth other_sets))
line SetSubsetReif = row (codes "set_subset_reif") (Set ∷ Set ∷ Truth ∷ []) (gives (truth is_part))
line SetUnion = row (codes "set_union") (Set ∷ Set ∷ Set ∷ []) (gives (set_result Union))
line SetIntersect = row (codes "set_intersect") (Set ∷ Set ∷ Set ∷ []) (gives (set_result Intersect))
line SetDiff = row (codes "set_diff") (Set ∷ Set ∷ Set ∷ []) (gives (set_result Diff))
line SetSymdiff = row (codes "set_symdiff") (Set ∷ Set ∷ Set ∷ []) (gives (set_result Symdiff))
line SetCard = row (codes "set_card") (Set ∷ Int ∷ []) (gives size)

-- what a constraint's inputs give, and what its test says; nothing and false where it has no such
abbrev pub result_of : Meaning → List ArgumentValue → Option Value
result_of (tests test) xs = None
result_of (gives result) xs = result xs

abbrev pub answer_of : Meaning → List ArgumentValue → Bool
answer_of (tests test) xs = test xs
answer_of (gives result) xs = false

-- a constraint holds of the values of its arguments
abbrev pub Holds : Meaning → List ArgumentValue → Type 0
Holds (tests test) xs = test xs ≡ true
Holds (gives result) xs = result (take (length xs - 1) xs) ≡ Some (value_at xs (length xs - 1))
