-- What the result of each row is, by its form.
use Rattle.std.proofs.Common.{◌≡◌, ◌-ℤ◌, List, Bool, Option, Some, None, refl}
use Rattle.fz_program.specs.declared.row_name.RowName.{RowName}
use Rattle.fz_program.specs.declared.row_name.RowName.TheVariants.{IntEq, IntNe, IntLe, IntLt, IntEqReif, IntNeReif, IntLeReif, IntLtReif, IntLinEq, IntLinNe, IntLinLe, IntLinEqReif, IntLinNeReif, IntLinLeReif, IntTimes, IntDiv, IntMod, IntMin, IntMax, IntAbs, ArrayIntElement, ArrayVarIntElement, ArrayBoolElement, ArrayVarBoolElement, ArraySetElement, ArrayVarSetElement, BoolEq, BoolNot, BoolToInt, BoolXor, BoolEqReif, BoolLeReif, ArrayBoolAnd, ArrayBoolOr, BoolClause, SetIn, SetInReif, SetEq, SetNe, SetSubset, SetEqReif, SetNeReif, SetSubsetReif, SetUnion, SetIntersect, SetDiff, SetSymdiff, SetCard}
use Rattle.mz_operations.specs.Views.{number_of_bool}
use Rattle.fz_program.specs.Values.{Value, ArgumentValue, number, number_at}
use Rattle.fz_program.specs.Table.{line, truth, equals, differs, is_at_most, is_below, sum_at, sum_equals, sum_differs, sum_is_at_most, arithmetic, magnitude, number_element, set_element, is_true, is_false, are_all_true, is_some_true, is_element, same_sets, other_sets, is_part, set_result, size}
use Rattle.fz_build.specs.declared.form.Form.{Form}
use Rattle.fz_build.specs.declared.form.Form.TheVariants.{Test, Truth, TruthElement, Arithmetic, Magnitude, Flag, Element, Size, Sum, Combined, SetElement}
use Rattle.fz_build.specs.Inputs.{is_sum}
use Rattle.fz_build.specs.Results.{result_given}
use Rattle.fz_build.specs.Bounds.{form_of}

abbrev pub IsValueOf : Form → List ArgumentValue → Option Value → Type 0
IsValueOf Test xs r = r ≡ None
IsValueOf Truth xs r = (b : Bool) × (r ≡ Some (number (number_of_bool b)))
IsValueOf TruthElement xs r = r ≡ number_element xs
IsValueOf (Arithmetic op) xs r = r ≡ arithmetic op xs
IsValueOf Magnitude xs r = r ≡ magnitude xs
IsValueOf Flag xs r = r ≡ truth is_true xs
IsValueOf Element xs r = r ≡ number_element xs
IsValueOf Size xs r = r ≡ size xs
IsValueOf Sum xs r = r ≡ Some (number (sum_at xs -ℤ number_at xs 2))
IsValueOf (Combined op) xs r = r ≡ set_result op xs
IsValueOf SetElement xs r = r ≡ set_element xs

pub value_by_form : (name : RowName) (xs : List ArgumentValue) → IsValueOf (form_of name) xs (result_given name xs)
unfolding form_of is_sum line
value_by_form IntEq xs = refl
value_by_form IntNe xs = refl
value_by_form IntLe xs = refl
value_by_form IntLt xs = refl
value_by_form IntEqReif xs = (equals xs, refl)
value_by_form IntNeReif xs = (differs xs, refl)
value_by_form IntLeReif xs = (is_at_most xs, refl)
value_by_form IntLtReif xs = (is_below xs, refl)
value_by_form IntLinEq xs = refl
value_by_form IntLinNe xs = refl
value_by_form IntLinLe xs = refl
value_by_form IntLinEqReif xs = (sum_equals xs, refl)
value_by_form IntLinNeReif xs = (sum_differs xs, refl)
value_by_form IntLinLeReif xs = (sum_is_at_most xs, refl)
value_by_form IntTimes xs = refl
value_by_form IntDiv xs = refl
value_by_form IntMod xs = refl
value_by_form IntMin xs = refl
value_by_form IntMax xs = refl
value_by_form IntAbs xs = refl
value_by_form ArrayIntElement xs = refl
value_by_form ArrayVarIntElement xs = refl
value_by_form ArrayBoolElement xs = refl
value_by_form ArrayVarBoolElement xs = refl
value_by_form ArraySetElement xs = refl
value_by_form ArrayVarSetElement xs = refl
value_by_form BoolEq xs = refl
value_by_form BoolNot xs = (is_false xs, refl)
value_by_form BoolToInt xs = refl
value_by_form BoolXor xs = (differs xs, refl)
value_by_form BoolEqReif xs = (equals xs, refl)
value_by_form BoolLeReif xs = (is_at_most xs, refl)
value_by_form ArrayBoolAnd xs = (are_all_true xs, refl)
value_by_form ArrayBoolOr xs = (is_some_true xs, refl)
value_by_form BoolClause xs = refl
value_by_form SetIn xs = refl
value_by_form SetInReif xs = (is_element xs, refl)
value_by_form SetEq xs = refl
value_by_form SetNe xs = refl
value_by_form SetSubset xs = refl
value_by_form SetEqReif xs = (same_sets xs, refl)
value_by_form SetNeReif xs = (other_sets xs, refl)
value_by_form SetSubsetReif xs = (is_part xs, refl)
value_by_form SetUnion xs = refl
value_by_form SetIntersect xs = refl
value_by_form SetDiff xs = refl
value_by_form SetSymdiff xs = refl
value_by_form SetCard xs = refl
