-- Worked examples of what the rows answer.
use Rattle.std.specs.Prelude.{◌≡◌, refl, ℕ, pos, negsuc, List, [], ◌∷◌, true, false, Option, Some, None, codes}
use Rattle.std.specs.Fmt.{digits}
use Rattle.mz_base.specs.declared.kind.Kind.TheVariants.{IndexMismatch, NegativeArgument, AssertFailed, Bounds}
use Rattle.mz_value.specs.Ranges.{Range}
use Rattle.mz_value.specs.Contents.{Content, bool, int, case, set, absent, text, array, contents}
use Rattle.mz_value.specs.Shown.{range_elements, shown}
use Rattle.mz_interval.specs.Ends.{least_number, greatest_number}
use Rattle.mz_operations.specs.declared.row.Connective.TheVariants.{Iff, Implies, IsImplied, Or, Xor, And}
use Rattle.mz_operations.specs.declared.row.Comparison.TheVariants.{Less, AtMost, Greater, AtLeast}
use Rattle.mz_operations.specs.declared.row.Arith.TheVariants.{Add, Sub, Mul, Div, Mod, Min, Max}
use Rattle.mz_operations.specs.declared.row.Sign.TheVariants.{Plus, Minus, Abs}
use Rattle.mz_operations.specs.declared.row.Fold.TheVariants.{Sum, SumOfOptions, Product}
use Rattle.mz_operations.specs.declared.row.Quantifier.TheVariants.{Forall, Exists, Xorall}
use Rattle.mz_operations.specs.declared.row.SetOp.TheVariants.{Union, Intersect, Diff, Symdiff}
use Rattle.mz_operations.specs.declared.row.Side.TheVariants.{Least, Greatest}
use Rattle.mz_operations.specs.declared.row.ScalarRow.TheVariants.{Logic, Not, Order, Equal, Unequal, SetEqual, SetUnequal, In, Arith, Sign, Power, Fold, Extreme, SetExtreme, Quantified, Count, Clause, Ordinal, Card, Length, Occurs, Absent, Beside, Assert}
use Rattle.mz_operations.specs.declared.row.MadeRow.TheVariants.{SetOf, Subset, Superset, UpTo, IndexSet, Line, Shaped, Concat, AppendTexts, SetToArray, ArrayUnion, ArrayIntersect, Deopt, AssertValue, AssertArray, ShowInt, Join, ConcatTexts}
use Rattle.mz_operations.specs.declared.row.BoundingRow.TheVariants.{Lb, Ub, Dom, LbArray, UbArray, IsFixed, Fix}
use Rattle.mz_operations.specs.declared.row.Row.{Row}
use Rattle.mz_operations.specs.declared.row.Row.TheVariants.{Scalar, Made, Bounding, Show, ShowArray}
use Rattle.mz_operations.specs.Views.{as_bool, as_int, as_case, as_set, as_text, as_items, as_index, as_row, as_ordinal, as_element, as_pair, as_option, is_single, enum_of}
use Rattle.mz_operations.specs.Arguments.{Arguments, at, bool_at, int_at, case_at, ordinal_at, element_at, option_at, set_at, enum_at, text_at, items_at, row_at, index_at, pair}
use Rattle.mz_operations.specs.Sets.{union, intersection, difference, combined, contains, same_set, end_of, up_to, complement, missing_from}
use Rattle.mz_operations.specs.Numbers.{connected, ordered, computed, signed, folded, raised, toward, nearer, quantified}
use Rattle.mz_operations.specs.Arrays.{fold_from, summand, instance, line, place_count, with_index, shape_from}
use Rattle.mz_operations.specs.Values.{equality, common_so_far, scalar_value, made_value, bounding_value, is_bounded, is_fixable}
use Rattle.mz_operations.specs.Answers.{Answer, Gives, Stops, is_mismatched, negative, is_failed, limited, answer}

-- ---- arguments and answers

abbrev yes : Option Content
yes = Some (bool true)

abbrev no : Option Content
no = Some (bool false)

abbrev n : ℕ → Option Content
n k = Some (int (pos k))

-- -1, -2, ..
abbrev minus : ℕ → Option Content
minus k = Some (int (negsuc k))

-- the case with this number of the enum 0
abbrev kind : ℕ → Option Content
kind k = Some (case 0 (pos k))

abbrev members : List Range → Option Content
members rs = Some (set None rs)

-- the cases from one number to another of the enum 0
abbrev cases : ℕ → ℕ → Option Content
cases j k = Some (set (Some 0) ((pos j, pos k) ∷ []))

abbrev from_to : ℕ → ℕ → Range
from_to j k = (pos j, pos k)

abbrev words : List ℕ → Option Content
words t = Some (text t)

abbrev row : List Content → Option Content
row xs = Some (line xs)

abbrev t : Content
t = bool true

abbrev f : Content
f = bool false

abbrev i : ℕ → Content
i k = int (pos k)

abbrev gives : Row → Arguments → Answer
gives r args = answer [] r args

-- ---- connectives

implied_by_false : gives (Scalar (Logic Implies)) (no ∷ no ∷ []) ≡ Gives yes
unfolding is_mismatched negative is_failed limited scalar_value bool_at at as_bool connected
implied_by_false = refl

not_implied : gives (Scalar (Logic Implies)) (yes ∷ no ∷ []) ≡ Gives no
unfolding is_mismatched negative is_failed limited scalar_value bool_at at as_bool connected
not_implied = refl

implied_backwards : gives (Scalar (Logic IsImplied)) (yes ∷ no ∷ []) ≡ Gives yes
unfolding is_mismatched negative is_failed limited scalar_value bool_at at as_bool connected
implied_backwards = refl

both_false : gives (Scalar (Logic Iff)) (no ∷ no ∷ []) ≡ Gives yes
unfolding is_mismatched negative is_failed limited scalar_value bool_at at as_bool connected
both_false = refl

both_true_differ_not : gives (Scalar (Logic Xor)) (yes ∷ yes ∷ []) ≡ Gives no
unfolding is_mismatched negative is_failed limited scalar_value bool_at at as_bool connected
both_true_differ_not = refl

one_of_two : gives (Scalar (Logic Or)) (no ∷ yes ∷ []) ≡ Gives yes
unfolding is_mismatched negative is_failed limited scalar_value bool_at at as_bool connected
one_of_two = refl

not_both : gives (Scalar (Logic And)) (no ∷ yes ∷ []) ≡ Gives no
unfolding is_mismatched negative is_failed limited scalar_value bool_at at as_bool connected
not_both = refl

-- an undefined part: that it then counts as false is said where the node stands
undefined_part : gives (Scalar (Logic Or)) (yes ∷ None ∷ []) ≡ Gives None
unfolding is_mismatched negative is_failed limited scalar_value bool_at at as_bool
undefined_part = refl

not_true : gives (Scalar Not) (yes ∷ []) ≡ Gives no
unfolding is_mismatched negative is_failed limited scalar_value bool_at at as_bool
not_true = refl

not_of_an_integer : gives (Scalar Not) (n 1 ∷ []) ≡ Gives None
unfolding is_mismatched negative is_failed limited scalar_value bool_at at as_bool
not_of_an_integer = refl

-- ---- orders and equality

false_is_less : gives (Scalar (Order Less)) (no ∷ yes ∷ []) ≡ Gives yes
unfolding is_mismatched negative is_failed limited scalar_value pair at as_pair ordered
false_is_less = refl

minus_one_is_less : gives (Scalar (Order Less)) (minus 0 ∷ n 0 ∷ []) ≡ Gives yes
unfolding is_mismatched negative is_failed limited scalar_value pair at as_pair ordered
minus_one_is_less = refl

at_most_itself : gives (Scalar (Order AtMost)) (kind 2 ∷ kind 2 ∷ []) ≡ Gives yes
unfolding is_mismatched negative is_failed limited scalar_value pair at as_pair ordered
at_most_itself = refl

not_greater_than_itself : gives (Scalar (Order Greater)) (n 4 ∷ n 4 ∷ []) ≡ Gives no
unfolding is_mismatched negative is_failed limited scalar_value pair at as_pair ordered
not_greater_than_itself = refl

at_least_less : gives (Scalar (Order AtLeast)) (kind 1 ∷ kind 2 ∷ []) ≡ Gives no
unfolding is_mismatched negative is_failed limited scalar_value pair at as_pair ordered
at_least_less = refl

-- no typed tree has it
order_of_two_enums : gives (Scalar (Order Less)) (kind 1 ∷ Some (case 1 (pos 2)) ∷ []) ≡ Gives None
unfolding is_mismatched negative is_failed limited scalar_value pair at as_pair ordered
order_of_two_enums = refl

both_absent : gives (Scalar Equal) (Some absent ∷ Some absent ∷ []) ≡ Gives yes
unfolding is_mismatched negative is_failed limited scalar_value option_at at as_option equality
both_absent = refl

one_absent : gives (Scalar Equal) (Some absent ∷ n 0 ∷ []) ≡ Gives no
unfolding is_mismatched negative is_failed limited scalar_value option_at at as_option is_single equality
one_absent = refl

both_occur : gives (Scalar Equal) (n 3 ∷ n 3 ∷ []) ≡ Gives yes
unfolding is_mismatched negative is_failed limited scalar_value option_at at as_option is_single equality as_pair
both_occur = refl

differ_as_one_is_absent : gives (Scalar Unequal) (kind 1 ∷ Some absent ∷ []) ≡ Gives yes
unfolding is_mismatched negative is_failed limited scalar_value option_at at as_option is_single equality
differ_as_one_is_absent = refl

differ_not : gives (Scalar Unequal) (no ∷ no ∷ []) ≡ Gives no
unfolding is_mismatched negative is_failed limited scalar_value option_at at as_option is_single equality as_pair
differ_not = refl

equal_sets : gives (Scalar SetEqual) (members (from_to 1 3 ∷ []) ∷ members (from_to 1 3 ∷ []) ∷ []) ≡ Gives yes
unfolding is_mismatched negative is_failed limited scalar_value set_at at as_set same_set
equal_sets = refl

a_longer_set : gives (Scalar SetUnequal) (members (from_to 1 3 ∷ []) ∷ members (from_to 1 3 ∷ from_to 5 5 ∷ []) ∷ []) ≡ Gives yes
unfolding is_mismatched negative is_failed limited scalar_value set_at at as_set same_set
a_longer_set = refl

-- ---- sets

in_at_the_end : gives (Scalar In) (n 3 ∷ members (from_to 1 3 ∷ []) ∷ []) ≡ Gives yes
unfolding is_mismatched negative is_failed limited scalar_value element_at set_at at as_element as_set contains
in_at_the_end = refl

not_in_the_gap : gives (Scalar In) (n 4 ∷ members (from_to 1 3 ∷ from_to 5 5 ∷ []) ∷ []) ≡ Gives no
unfolding is_mismatched negative is_failed limited scalar_value element_at set_at at as_element as_set contains
not_in_the_gap = refl

a_case_in : gives (Scalar In) (kind 2 ∷ cases 1 2 ∷ []) ≡ Gives yes
unfolding is_mismatched negative is_failed limited scalar_value element_at set_at at as_element as_set contains
a_case_in = refl

subset_of_itself : gives (Made Subset) (members (from_to 1 2 ∷ []) ∷ members (from_to 1 2 ∷ []) ∷ []) ≡ Gives yes
unfolding is_mismatched negative is_failed limited made_value set_at at as_set difference intersection complement missing_from
subset_of_itself = refl

no_subset : gives (Made Subset) (members (from_to 1 3 ∷ []) ∷ members (from_to 1 2 ∷ from_to 4 4 ∷ []) ∷ []) ≡ Gives no
unfolding is_mismatched negative is_failed limited made_value set_at at as_set difference intersection complement missing_from
no_subset = refl

superset_of_the_empty_set : gives (Made Superset) (members [] ∷ members [] ∷ []) ≡ Gives yes
unfolding is_mismatched negative is_failed limited made_value set_at at as_set difference intersection complement missing_from
superset_of_the_empty_set = refl

no_superset : gives (Made Superset) (members [] ∷ members (from_to 0 0 ∷ []) ∷ []) ≡ Gives no
unfolding is_mismatched negative is_failed limited made_value set_at at as_set difference intersection complement missing_from
no_superset = refl

union_of_touching_sets : gives (Made (SetOf Union)) (members (from_to 1 2 ∷ []) ∷ members (from_to 3 4 ∷ []) ∷ []) ≡ Gives (members (from_to 1 4 ∷ []))
unfolding is_mismatched negative is_failed limited made_value set_at enum_at at as_set enum_of combined union complement missing_from intersection
union_of_touching_sets = refl

union_of_cases : gives (Made (SetOf Union)) (cases 1 1 ∷ cases 3 3 ∷ []) ≡ Gives (Some (set (Some 0) (from_to 1 1 ∷ from_to 3 3 ∷ [])))
unfolding is_mismatched negative is_failed limited made_value set_at enum_at at as_set enum_of combined union complement missing_from intersection
union_of_cases = refl

common_elements : gives (Made (SetOf Intersect)) (members (from_to 1 3 ∷ []) ∷ members (from_to 3 9 ∷ []) ∷ []) ≡ Gives (members (from_to 3 3 ∷ []))
unfolding is_mismatched negative is_failed limited made_value set_at enum_at at as_set enum_of combined intersection
common_elements = refl

what_is_left : gives (Made (SetOf Diff)) (members (from_to 1 5 ∷ []) ∷ members (from_to 2 2 ∷ []) ∷ []) ≡ Gives (members (from_to 1 1 ∷ from_to 3 5 ∷ []))
unfolding is_mismatched negative is_failed limited made_value set_at enum_at at as_set enum_of combined difference intersection complement missing_from
what_is_left = refl

in_one_alone : gives (Made (SetOf Symdiff)) (members (from_to 1 3 ∷ []) ∷ members (from_to 2 5 ∷ []) ∷ []) ≡ Gives (members (from_to 1 1 ∷ from_to 4 5 ∷ []))
unfolding is_mismatched negative is_failed limited made_value set_at enum_at at as_set enum_of combined union difference complement missing_from intersection
in_one_alone = refl

one_up_to_three : gives (Made UpTo) (n 1 ∷ n 3 ∷ []) ≡ Gives (members (from_to 1 3 ∷ []))
unfolding is_mismatched negative is_failed limited made_value element_at pair enum_at at as_element as_pair enum_of up_to
one_up_to_three = refl

three_up_to_one : gives (Made UpTo) (n 3 ∷ n 1 ∷ []) ≡ Gives (members [])
unfolding is_mismatched negative is_failed limited made_value element_at pair enum_at at as_element as_pair enum_of up_to
three_up_to_one = refl

up_to_a_case : gives (Made UpTo) (kind 2 ∷ kind 3 ∷ []) ≡ Gives (cases 2 3)
unfolding is_mismatched negative is_failed limited made_value element_at pair enum_at at as_element as_pair enum_of up_to
up_to_a_case = refl

seven_elements : gives (Scalar Card) (members ((negsuc 2, pos 0) ∷ from_to 5 7 ∷ []) ∷ []) ≡ Gives (n 7)
unfolding is_mismatched negative is_failed limited scalar_value set_at at as_set
seven_elements = refl

-- all integers are more than the greatest integer
too_many_elements : gives (Scalar Card) (members ((least_number, greatest_number) ∷ []) ∷ []) ≡ Stops Bounds (pos 4611686018427387905)
unfolding is_mismatched negative is_failed limited scalar_value set_at at as_set
too_many_elements = refl

least_of_a_set : gives (Scalar (SetExtreme Least)) (members ((negsuc 2, pos 0) ∷ from_to 5 7 ∷ []) ∷ []) ≡ Gives (minus 2)
unfolding is_mismatched negative is_failed limited scalar_value set_at enum_at at as_set enum_of end_of
least_of_a_set = refl

greatest_case_of_a_set : gives (Scalar (SetExtreme Greatest)) (cases 1 3 ∷ []) ≡ Gives (kind 3)
unfolding is_mismatched negative is_failed limited scalar_value set_at enum_at at as_set enum_of end_of
greatest_case_of_a_set = refl

greatest_of_the_empty_set : gives (Scalar (SetExtreme Greatest)) (members [] ∷ []) ≡ Gives None
unfolding is_mismatched negative is_failed limited scalar_value set_at at as_set end_of
greatest_of_the_empty_set = refl

-- ---- arithmetic

sum_at_the_limit : gives (Scalar (Arith Add)) (Some (int greatest_number) ∷ n 0 ∷ []) ≡ Gives (Some (int greatest_number))
unfolding is_mismatched negative is_failed limited scalar_value int_at at as_int computed
sum_at_the_limit = refl

sum_past_the_limit : gives (Scalar (Arith Add)) (Some (int greatest_number) ∷ n 1 ∷ []) ≡ Stops Bounds (pos 2305843009213693953)
unfolding is_mismatched negative is_failed limited scalar_value int_at at as_int computed
sum_past_the_limit = refl

difference_past_the_limit : gives (Scalar (Arith Sub)) (Some (int least_number) ∷ n 1 ∷ []) ≡ Stops Bounds (negsuc 2305843009213693952)
unfolding is_mismatched negative is_failed limited scalar_value int_at at as_int computed
difference_past_the_limit = refl

product_of_negatives : gives (Scalar (Arith Mul)) (minus 2 ∷ minus 3 ∷ []) ≡ Gives (n 12)
unfolding is_mismatched negative is_failed limited scalar_value int_at at as_int computed
product_of_negatives = refl

product_past_the_limit : gives (Scalar (Arith Mul)) (Some (int greatest_number) ∷ minus 1 ∷ []) ≡ Stops Bounds (negsuc 4611686018427387903)
unfolding is_mismatched negative is_failed limited scalar_value int_at at as_int computed
product_past_the_limit = refl

-- an undefined part is in the limit
undefined_product : gives (Scalar (Arith Mul)) (None ∷ Some (int greatest_number) ∷ []) ≡ Gives None
unfolding is_mismatched negative is_failed limited scalar_value int_at at as_int
undefined_product = refl

-- -7 div 2 is -3
div_toward_zero : gives (Scalar (Arith Div)) (minus 6 ∷ n 2 ∷ []) ≡ Gives (minus 2)
unfolding is_mismatched negative is_failed limited scalar_value int_at at as_int computed
div_toward_zero = refl

div_of_two_negatives : gives (Scalar (Arith Div)) (minus 6 ∷ minus 1 ∷ []) ≡ Gives (n 3)
unfolding is_mismatched negative is_failed limited scalar_value int_at at as_int computed
div_of_two_negatives = refl

div_by_zero : gives (Scalar (Arith Div)) (n 1 ∷ n 0 ∷ []) ≡ Gives None
unfolding is_mismatched negative is_failed limited scalar_value int_at at as_int computed
div_by_zero = refl

-- -7 mod 2 is -1, and 7 mod -2 is 1
mod_of_a_negative : gives (Scalar (Arith Mod)) (minus 6 ∷ n 2 ∷ []) ≡ Gives (minus 0)
unfolding is_mismatched negative is_failed limited scalar_value int_at at as_int computed
mod_of_a_negative = refl

mod_by_a_negative : gives (Scalar (Arith Mod)) (n 7 ∷ minus 1 ∷ []) ≡ Gives (n 1)
unfolding is_mismatched negative is_failed limited scalar_value int_at at as_int computed
mod_by_a_negative = refl

mod_by_zero : gives (Scalar (Arith Mod)) (n 7 ∷ n 0 ∷ []) ≡ Gives None
unfolding is_mismatched negative is_failed limited scalar_value int_at at as_int computed
mod_by_zero = refl

less_of_two : gives (Scalar (Arith Min)) (minus 6 ∷ n 2 ∷ []) ≡ Gives (minus 6)
unfolding is_mismatched negative is_failed limited scalar_value int_at at as_int computed
less_of_two = refl

greater_of_two : gives (Scalar (Arith Max)) (minus 6 ∷ n 2 ∷ []) ≡ Gives (n 2)
unfolding is_mismatched negative is_failed limited scalar_value int_at at as_int computed
greater_of_two = refl

negated_least : gives (Scalar (Sign Minus)) (Some (int least_number) ∷ []) ≡ Gives (Some (int greatest_number))
unfolding is_mismatched negative is_failed limited scalar_value int_at at as_int signed
negated_least = refl

itself : gives (Scalar (Sign Plus)) (minus 4 ∷ []) ≡ Gives (minus 4)
unfolding is_mismatched negative is_failed limited scalar_value int_at at as_int signed
itself = refl

magnitude : gives (Scalar (Sign Abs)) (minus 4 ∷ []) ≡ Gives (n 5)
unfolding is_mismatched negative is_failed limited scalar_value int_at at as_int signed
magnitude = refl

zero_to_the_zero : gives (Scalar Power) (n 0 ∷ n 0 ∷ []) ≡ Gives (n 1)
unfolding is_mismatched negative is_failed limited scalar_value int_at at as_int raised
zero_to_the_zero = refl

minus_two_cubed : gives (Scalar Power) (minus 1 ∷ n 3 ∷ []) ≡ Gives (minus 7)
unfolding is_mismatched negative is_failed limited scalar_value int_at at as_int raised folded
minus_two_cubed = refl

-- 2 ^ 61 is the greatest integer
power_at_the_limit : gives (Scalar Power) (n 2 ∷ n 61 ∷ []) ≡ Gives (Some (int greatest_number))
unfolding is_mismatched negative is_failed limited scalar_value int_at at as_int raised folded
power_at_the_limit = refl

-- the first partial product of 10 ^ 20 that leaves the limit
power_past_the_limit : gives (Scalar Power) (n 10 ∷ n 20 ∷ []) ≡ Stops Bounds (pos 10000000000000000000)
unfolding is_mismatched negative is_failed limited scalar_value int_at at as_int raised folded
power_past_the_limit = refl

-- (1 div 0) ^ (-1): the exponent is tested though the base is undefined
negative_exponent : gives (Scalar Power) (None ∷ minus 0 ∷ []) ≡ Stops NegativeArgument (negsuc 0)
unfolding is_mismatched negative int_at at as_int
negative_exponent = refl

undefined_exponent : gives (Scalar Power) (n 2 ∷ None ∷ []) ≡ Gives None
unfolding is_mismatched negative is_failed limited scalar_value int_at at as_int
undefined_exponent = refl

-- ---- folds

sum_of_none : gives (Scalar (Fold Sum)) (row [] ∷ []) ≡ Gives (n 0)
unfolding is_mismatched negative is_failed limited scalar_value items_at at as_items fold_from
sum_of_none = refl

-- 2^61 + 2^61 - 2^61: the first partial sum leaves the limit
partial_sum_past_the_limit : gives (Scalar (Fold Sum)) (row (int greatest_number ∷ int greatest_number ∷ int least_number ∷ []) ∷ []) ≡ Stops Bounds (pos 4611686018427387904)
unfolding is_mismatched negative is_failed limited scalar_value items_at at as_items as_int fold_from summand folded
partial_sum_past_the_limit = refl

sum_back_in_the_limit : gives (Scalar (Fold Sum)) (row (int greatest_number ∷ int least_number ∷ i 1 ∷ []) ∷ []) ≡ Gives (n 1)
unfolding is_mismatched negative is_failed limited scalar_value items_at at as_items as_int fold_from summand folded
sum_back_in_the_limit = refl

absent_counts_nothing : gives (Scalar (Fold SumOfOptions)) (row (i 2 ∷ absent ∷ i 3 ∷ []) ∷ []) ≡ Gives (n 5)
unfolding is_mismatched negative is_failed limited scalar_value items_at at as_items as_int fold_from summand folded
absent_counts_nothing = refl

product_of_none : gives (Scalar (Fold Product)) (row [] ∷ []) ≡ Gives (n 1)
unfolding is_mismatched negative is_failed limited scalar_value items_at at as_items fold_from
product_of_none = refl

product_of_three : gives (Scalar (Fold Product)) (row (i 2 ∷ int (negsuc 2) ∷ i 5 ∷ []) ∷ []) ≡ Gives (minus 29)
unfolding is_mismatched negative is_failed limited scalar_value items_at at as_items as_int fold_from summand folded
product_of_three = refl

least_of_three : gives (Scalar (Extreme Least)) (row (i 2 ∷ int (negsuc 2) ∷ i 5 ∷ []) ∷ []) ≡ Gives (minus 2)
unfolding is_mismatched negative is_failed limited scalar_value items_at at as_items as_int fold_from nearer toward
least_of_three = refl

greatest_of_three : gives (Scalar (Extreme Greatest)) (row (i 2 ∷ int (negsuc 2) ∷ i 5 ∷ []) ∷ []) ≡ Gives (n 5)
unfolding is_mismatched negative is_failed limited scalar_value items_at at as_items as_int fold_from nearer toward
greatest_of_three = refl

greatest_of_none : gives (Scalar (Extreme Greatest)) (row [] ∷ []) ≡ Gives None
unfolding is_mismatched negative is_failed limited scalar_value items_at at as_items fold_from
greatest_of_none = refl

all_of_none : gives (Scalar (Quantified Forall)) (row [] ∷ []) ≡ Gives yes
unfolding is_mismatched negative is_failed limited scalar_value items_at at as_items fold_from
all_of_none = refl

some_of_none : gives (Scalar (Quantified Exists)) (row [] ∷ []) ≡ Gives no
unfolding is_mismatched negative is_failed limited scalar_value items_at at as_items fold_from
some_of_none = refl

absent_is_true_for_all : gives (Scalar (Quantified Forall)) (row (t ∷ absent ∷ []) ∷ []) ≡ Gives yes
unfolding is_mismatched negative is_failed limited scalar_value items_at at as_items as_bool fold_from instance quantified
absent_is_true_for_all = refl

absent_is_false_for_some : gives (Scalar (Quantified Exists)) (row (f ∷ absent ∷ []) ∷ []) ≡ Gives no
unfolding is_mismatched negative is_failed limited scalar_value items_at at as_items as_bool fold_from instance quantified
absent_is_false_for_some = refl

three_are_an_odd_number : gives (Scalar (Quantified Xorall)) (row (t ∷ t ∷ f ∷ t ∷ []) ∷ []) ≡ Gives yes
unfolding is_mismatched negative is_failed limited scalar_value items_at at as_items as_bool fold_from instance quantified
three_are_an_odd_number = refl

none_is_an_even_number : gives (Scalar (Quantified Xorall)) (row [] ∷ []) ≡ Gives no
unfolding is_mismatched negative is_failed limited scalar_value items_at at as_items fold_from
none_is_an_even_number = refl

one_occurs_and_is_true : gives (Scalar Count) (row (t ∷ absent ∷ f ∷ []) ∷ []) ≡ Gives (n 1)
unfolding is_mismatched negative is_failed limited scalar_value items_at at as_items as_bool fold_from
one_occurs_and_is_true = refl

some_of_the_second_is_false : gives (Scalar Clause) (row (f ∷ []) ∷ row (t ∷ f ∷ []) ∷ []) ≡ Gives yes
unfolding is_mismatched negative is_failed limited scalar_value items_at at as_items as_bool fold_from quantified
some_of_the_second_is_false = refl

empty_clause : gives (Scalar Clause) (row [] ∷ row [] ∷ []) ≡ Gives no
unfolding is_mismatched negative is_failed limited scalar_value items_at at as_items fold_from
empty_clause = refl

-- ---- conversions, options, enums

true_as_an_integer : gives (Scalar Ordinal) (yes ∷ []) ≡ Gives (n 1)
unfolding is_mismatched negative is_failed limited scalar_value ordinal_at at as_ordinal
true_as_an_integer = refl

case_as_an_integer : gives (Scalar Ordinal) (kind 3 ∷ []) ≡ Gives (n 3)
unfolding is_mismatched negative is_failed limited scalar_value ordinal_at at as_ordinal
case_as_an_integer = refl

occurs : gives (Scalar Occurs) (n 0 ∷ []) ≡ Gives yes
unfolding is_mismatched negative is_failed limited scalar_value option_at at as_option is_single
occurs = refl

doesnt_occur : gives (Scalar Occurs) (Some absent ∷ []) ≡ Gives no
unfolding is_mismatched negative is_failed limited scalar_value option_at at as_option
doesnt_occur = refl

is_absent : gives (Scalar Absent) (Some absent ∷ []) ≡ Gives yes
unfolding is_mismatched negative is_failed limited scalar_value option_at at as_option
is_absent = refl

value_of_an_option : gives (Made Deopt) (kind 2 ∷ []) ≡ Gives (kind 2)
unfolding is_mismatched negative is_failed limited made_value option_at at as_option is_single
value_of_an_option = refl

no_value_of_absent : gives (Made Deopt) (Some absent ∷ []) ≡ Gives None
unfolding is_mismatched negative is_failed limited made_value option_at at as_option
no_value_of_absent = refl

next_case : gives (Scalar (Beside Greatest)) (cases 1 3 ∷ kind 2 ∷ []) ≡ Gives (kind 3)
unfolding is_mismatched negative is_failed limited scalar_value set_at case_at at as_set as_case contains
next_case = refl

nothing_after_the_last : gives (Scalar (Beside Greatest)) (cases 1 3 ∷ kind 3 ∷ []) ≡ Gives None
unfolding is_mismatched negative is_failed limited scalar_value set_at case_at at as_set as_case contains
nothing_after_the_last = refl

nothing_before_the_first : gives (Scalar (Beside Least)) (cases 1 3 ∷ kind 1 ∷ []) ≡ Gives None
unfolding is_mismatched negative is_failed limited scalar_value set_at case_at at as_set as_case contains
nothing_before_the_first = refl

-- ---- arrays

length_of_two : gives (Scalar Length) (row (i 5 ∷ i 5 ∷ []) ∷ []) ≡ Gives (n 2)
unfolding is_mismatched negative is_failed limited scalar_value items_at at as_items
length_of_two = refl

-- two rows of three
abbrev grid : Option Content
grid = Some (array (from_to 0 1 ∷ from_to 1 3 ∷ []) (contents (i 1 ∷ i 2 ∷ i 3 ∷ i 4 ∷ i 5 ∷ i 6 ∷ [])))

second_index_set : gives (Made (IndexSet 1 2)) (grid ∷ []) ≡ Gives (members (from_to 1 3 ∷ []))
unfolding is_mismatched negative is_failed limited made_value index_at at as_index up_to
second_index_set = refl

index_set_of_two_dimensions : gives (Made (IndexSet 0 1)) (grid ∷ []) ≡ Gives None
unfolding is_mismatched negative is_failed limited made_value index_at at as_index up_to
index_set_of_two_dimensions = refl

index_set_of_none : gives (Made (IndexSet 0 1)) (row [] ∷ []) ≡ Gives (members [])
unfolding is_mismatched negative is_failed limited made_value index_at at as_index up_to
index_set_of_none = refl

a_grid_as_a_line : gives (Made Line) (grid ∷ []) ≡ Gives (row (i 1 ∷ i 2 ∷ i 3 ∷ i 4 ∷ i 5 ∷ i 6 ∷ []))
unfolding is_mismatched negative is_failed limited made_value items_at at as_items
a_grid_as_a_line = refl

from_zero : gives (Made (Shaped 1)) (members (from_to 0 1 ∷ []) ∷ row (i 7 ∷ i 8 ∷ []) ∷ []) ≡ Gives (Some (array (from_to 0 1 ∷ []) (contents (i 7 ∷ i 8 ∷ []))))
unfolding is_mismatched negative is_failed limited made_value set_at items_at at as_set as_items shape_from with_index end_of place_count
from_zero = refl

a_line_as_a_grid : gives (Made (Shaped 2)) (members (from_to 0 1 ∷ []) ∷ members (from_to 1 3 ∷ []) ∷ row (i 1 ∷ i 2 ∷ i 3 ∷ i 4 ∷ i 5 ∷ i 6 ∷ []) ∷ []) ≡ Gives grid
unfolding is_mismatched negative is_failed limited made_value set_at items_at at as_set as_items shape_from with_index end_of place_count
a_line_as_a_grid = refl

too_few_elements : gives (Made (Shaped 1)) (members (from_to 1 3 ∷ []) ∷ row (i 5 ∷ i 6 ∷ []) ∷ []) ≡ Stops IndexMismatch (pos 0)
unfolding is_mismatched set_at items_at at as_set as_items shape_from with_index end_of place_count
too_few_elements = refl

not_contiguous : gives (Made (Shaped 1)) (members (from_to 1 1 ∷ from_to 3 3 ∷ []) ∷ row (i 5 ∷ i 6 ∷ []) ∷ []) ≡ Stops IndexMismatch (pos 0)
unfolding is_mismatched set_at items_at at as_set as_items shape_from with_index end_of place_count
not_contiguous = refl

an_empty_shape : gives (Made (Shaped 1)) (members [] ∷ row [] ∷ []) ≡ Gives (Some (array (from_to 1 0 ∷ []) (contents [])))
unfolding is_mismatched negative is_failed limited made_value set_at items_at at as_set as_items shape_from with_index end_of place_count
an_empty_shape = refl

-- an undefined array has no length that could be tested
undefined_array : gives (Made (Shaped 1)) (members (from_to 1 3 ∷ []) ∷ None ∷ []) ≡ Gives None
unfolding is_mismatched negative is_failed limited made_value set_at items_at at as_set shape_from with_index end_of
undefined_array = refl

concatenated : gives (Made Concat) (row (i 1 ∷ []) ∷ row (i 2 ∷ i 3 ∷ []) ∷ []) ≡ Gives (row (i 1 ∷ i 2 ∷ i 3 ∷ []))
unfolding is_mismatched negative is_failed limited made_value row_at at as_row
concatenated = refl

grids_arent_concatenated : gives (Made Concat) (grid ∷ grid ∷ []) ≡ Gives None
unfolding is_mismatched negative is_failed limited made_value row_at at as_row
grids_arent_concatenated = refl

elements_in_order : gives (Made SetToArray) (members (from_to 1 2 ∷ from_to 5 5 ∷ []) ∷ []) ≡ Gives (row (i 1 ∷ i 2 ∷ i 5 ∷ []))
unfolding is_mismatched negative is_failed limited made_value set_at enum_at at as_set enum_of range_elements
elements_in_order = refl

cases_in_order : gives (Made SetToArray) (cases 1 2 ∷ []) ≡ Gives (row (case 0 (pos 1) ∷ case 0 (pos 2) ∷ []))
unfolding is_mismatched negative is_failed limited made_value set_at enum_at at as_set enum_of range_elements
cases_in_order = refl

union_of_sets : gives (Made ArrayUnion) (row (set None (from_to 1 2 ∷ []) ∷ set None (from_to 3 3 ∷ []) ∷ []) ∷ []) ≡ Gives (members (from_to 1 3 ∷ []))
unfolding is_mismatched negative is_failed limited made_value items_at at as_items as_set fold_from union complement missing_from intersection
union_of_sets = refl

union_of_no_set : gives (Made ArrayUnion) (row [] ∷ []) ≡ Gives (members [])
unfolding is_mismatched negative is_failed limited made_value items_at at as_items fold_from
union_of_no_set = refl

intersection_of_sets : gives (Made ArrayIntersect) (row (set None (from_to 1 5 ∷ []) ∷ set None (from_to 3 9 ∷ []) ∷ []) ∷ []) ≡ Gives (members (from_to 3 5 ∷ []))
unfolding is_mismatched negative is_failed limited made_value items_at at as_items as_set fold_from common_so_far intersection
intersection_of_sets = refl

intersection_of_no_set : gives (Made ArrayIntersect) (row [] ∷ []) ≡ Gives None
unfolding is_mismatched negative is_failed limited made_value items_at at as_items fold_from
intersection_of_no_set = refl

-- ---- bounds of par values

lower_bound_of_an_integer : gives (Bounding Lb) (minus 3 ∷ []) ≡ Gives (minus 3)
unfolding is_mismatched negative is_failed limited bounding_value at is_bounded
lower_bound_of_an_integer = refl

upper_bound_of_a_set : gives (Bounding Ub) (members (from_to 1 2 ∷ []) ∷ []) ≡ Gives (members (from_to 1 2 ∷ []))
unfolding is_mismatched negative is_failed limited bounding_value at is_bounded
upper_bound_of_a_set = refl

domain_of_an_integer : gives (Bounding Dom) (n 4 ∷ []) ≡ Gives (members (from_to 4 4 ∷ []))
unfolding is_mismatched negative is_failed limited bounding_value int_at at as_int up_to
domain_of_an_integer = refl

lower_bound_of_an_array : gives (Bounding LbArray) (row (i 5 ∷ i 3 ∷ []) ∷ []) ≡ Gives (n 3)
unfolding is_mismatched negative is_failed limited bounding_value scalar_value items_at at as_items as_int fold_from nearer toward
lower_bound_of_an_array = refl

upper_bound_of_none : gives (Bounding UbArray) (row [] ∷ []) ≡ Gives None
unfolding is_mismatched negative is_failed limited bounding_value scalar_value items_at at as_items fold_from
upper_bound_of_none = refl

par_is_fixed : gives (Bounding IsFixed) (kind 1 ∷ []) ≡ Gives yes
unfolding is_mismatched negative is_failed limited bounding_value at is_fixable is_single
par_is_fixed = refl

undefined_isnt_asked : gives (Bounding IsFixed) (None ∷ []) ≡ Gives None
unfolding is_mismatched negative is_failed limited bounding_value at
undefined_isnt_asked = refl

fixed_value : gives (Bounding Fix) (yes ∷ []) ≡ Gives yes
unfolding is_mismatched negative is_failed limited bounding_value at is_fixable is_single
fixed_value = refl

-- ---- assertions and texts

assertion_that_holds : gives (Scalar Assert) (yes ∷ words (codes "m") ∷ []) ≡ Gives yes
unfolding is_mismatched negative is_failed limited scalar_value bool_at text_at at as_bool as_text
assertion_that_holds = refl

assertion_that_fails : gives (Scalar Assert) (no ∷ words (codes "m") ∷ []) ≡ Stops AssertFailed (pos 0)
unfolding is_mismatched negative is_failed bool_at at as_bool
assertion_that_fails = refl

undefined_condition : gives (Made AssertValue) (None ∷ words (codes "m") ∷ n 3 ∷ []) ≡ Gives None
unfolding is_mismatched negative is_failed limited made_value bool_at text_at at as_bool
undefined_condition = refl

assertion_of_nothing : gives (Scalar Assert) (None ∷ words (codes "m") ∷ []) ≡ Gives None
unfolding is_mismatched negative is_failed limited scalar_value bool_at text_at at as_bool
assertion_of_nothing = refl

undefined_message : gives (Made AssertValue) (yes ∷ None ∷ n 3 ∷ []) ≡ Gives None
unfolding is_mismatched negative is_failed limited made_value bool_at text_at at as_bool
undefined_message = refl

asserted_value : gives (Made AssertValue) (yes ∷ words (codes "m") ∷ n 3 ∷ []) ≡ Gives (n 3)
unfolding is_mismatched negative is_failed limited made_value bool_at text_at at as_bool as_text
asserted_value = refl

asserted_array : gives (Made AssertArray) (yes ∷ words (codes "m") ∷ grid ∷ []) ≡ Gives grid
unfolding is_mismatched negative is_failed limited made_value bool_at text_at at as_bool as_text
asserted_array = refl

to_the_right : gives (Made ShowInt) (n 4 ∷ n 7 ∷ []) ≡ Gives (words (codes "   7"))
unfolding is_mismatched negative is_failed limited made_value int_at at as_int digits
to_the_right = refl

to_the_left : gives (Made ShowInt) (minus 2 ∷ n 4 ∷ []) ≡ Gives (words (codes "4  "))
unfolding is_mismatched negative is_failed limited made_value int_at at as_int digits
to_the_left = refl

joined_texts : gives (Made Join) (words (codes ", ") ∷ row (text (codes "p") ∷ text (codes "q") ∷ []) ∷ []) ≡ Gives (words (codes "p, q"))
unfolding is_mismatched negative is_failed limited made_value text_at items_at at as_text as_items fold_from
joined_texts = refl

texts_one_after_another : gives (Made ConcatTexts) (row (text (codes "p") ∷ text (codes "q") ∷ []) ∷ []) ≡ Gives (words (codes "pq"))
unfolding is_mismatched negative is_failed limited made_value items_at at as_text as_items fold_from
texts_one_after_another = refl

two_texts : gives (Made AppendTexts) (words (codes "a") ∷ words (codes "b") ∷ []) ≡ Gives (words (codes "ab"))
unfolding is_mismatched negative is_failed limited made_value text_at at as_text
two_texts = refl

shown_case : answer (((codes "Red") ∷ (codes "Green") ∷ []) ∷ []) Show (kind 2 ∷ []) ≡ Gives (words (codes "Green"))
unfolding is_mismatched negative is_failed limited at shown
shown_case = refl

shown_array : gives ShowArray (row (t ∷ absent ∷ []) ∷ []) ≡ Gives (words (codes "[true, <>]"))
unfolding is_mismatched negative is_failed limited at shown
shown_array = refl
