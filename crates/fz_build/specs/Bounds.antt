-- The domain of a row's result, from the domains of its inputs.
use Rattle.std.specs.Prelude.{◌≡◌, ℕ, ◌+◌, ◌-◌, ℤ, pos, ◌+ℤ◌, List, [], ◌∷◌, length, map, take, Bool, true, false, Option, Some, None, unwrap_or, option_map, slice_get, if◌then◌else◌}
use Rattle.mz_value.specs.Ranges.{Range, range_of}
use Rattle.mz_interval.specs.Ends.{Ends, hull_of, if_in_limit, if_interval}
use Rattle.mz_interval.specs.Rows.{sum_of, negation_of, product_of}
use Rattle.mz_operations.specs.declared.row.Arith.{Arith}
use Rattle.mz_operations.specs.declared.row.Arith.TheVariants.{Mul, Div, Mod, Min, Max}
use Rattle.mz_operations.specs.declared.row.Sign.TheVariants.{Abs}
use Rattle.mz_operations.specs.declared.row.SetOp.TheVariants.{Union, Intersect, Diff, Symdiff}
use Rattle.mz_operations.specs.Sets.{union, is_within}
use Rattle.mz_operations.specs.Bounds.{truth, nothing, hull_of_set, arith_ends, sign_ends, card_ends, combined_upper}
use Rattle.fz_program.specs.declared.program.Domain.{Domain}
use Rattle.fz_program.specs.declared.program.Domain.TheVariants.{Bool as Truths, Ints as Integers, SetOf}
use Rattle.fz_program.specs.declared.row_name.RowName.{RowName}
use Rattle.fz_program.specs.declared.row_name.RowName.TheVariants.{IntEq, IntNe, IntLe, IntLt, IntEqReif, IntNeReif, IntLeReif, IntLtReif, IntLinEq, IntLinNe, IntLinLe, IntLinEqReif, IntLinNeReif, IntLinLeReif, IntTimes, IntDiv, IntMod, IntMin, IntMax, IntAbs, ArrayIntElement, ArrayVarIntElement, ArrayBoolElement, ArrayVarBoolElement, ArraySetElement, ArrayVarSetElement, BoolEq, BoolNot, BoolToInt, BoolXor, BoolEqReif, BoolLeReif, ArrayBoolAnd, ArrayBoolOr, BoolClause, SetIn, SetInReif, SetEq, SetNe, SetSubset, SetEqReif, SetNeReif, SetSubsetReif, SetUnion, SetIntersect, SetDiff, SetSymdiff, SetCard}
use Rattle.fz_program.specs.declared.row_name.Kind.{Kind}
use Rattle.fz_program.specs.Arguments.{Plain, bool, int, set, var, nested, Argument, plain_of}
use Rattle.fz_program.specs.Table.{line}
use Rattle.fz_program.specs.Values.{Value, Values}
use Rattle.fz_program.specs.Flat.{Variable, number_of_truth, argument_value, are_arguments, AreInDomains, IsInDomain}
use Rattle.fz_build.specs.declared.form.Form.{Form}
use Rattle.fz_build.specs.declared.form.Form.TheVariants.{Test, Truth, TruthElement, Arithmetic, Magnitude, Flag, Element, Size, Sum, Combined, SetElement}
use Rattle.fz_build.specs.Inputs.{argument_at, elements_at, is_sum}
use Rattle.fz_build.specs.Results.{result_given}

-- what the result of each row is
unfoldable pub form_of : RowName → Form
form_of IntEq = Test
form_of IntNe = Test
form_of IntLe = Test
form_of IntLt = Test
form_of IntEqReif = Truth
form_of IntNeReif = Truth
form_of IntLeReif = Truth
form_of IntLtReif = Truth
form_of IntLinEq = Sum
form_of IntLinNe = Test
form_of IntLinLe = Test
form_of IntLinEqReif = Truth
form_of IntLinNeReif = Truth
form_of IntLinLeReif = Truth
form_of IntTimes = Arithmetic Mul
form_of IntDiv = Arithmetic Div
form_of IntMod = Arithmetic Mod
form_of IntMin = Arithmetic Min
form_of IntMax = Arithmetic Max
form_of IntAbs = Magnitude
form_of ArrayIntElement = Element
form_of ArrayVarIntElement = Element
form_of ArrayBoolElement = TruthElement
form_of ArrayVarBoolElement = TruthElement
form_of ArraySetElement = SetElement
form_of ArrayVarSetElement = SetElement
form_of BoolEq = Test
form_of BoolNot = Truth
form_of BoolToInt = Flag
form_of BoolXor = Truth
form_of BoolEqReif = Truth
form_of BoolLeReif = Truth
form_of ArrayBoolAnd = Truth
form_of ArrayBoolOr = Truth
form_of BoolClause = Test
form_of SetIn = Test
form_of SetInReif = Truth
form_of SetEq = Test
form_of SetNe = Test
form_of SetSubset = Test
form_of SetEqReif = Truth
form_of SetNeReif = Truth
form_of SetSubsetReif = Truth
form_of SetUnion = Combined Union
form_of SetIntersect = Combined Intersect
form_of SetDiff = Combined Diff
form_of SetSymdiff = Combined Symdiff
form_of SetCard = Size

-- ---- the bounds of an input: of a number, and the greatest set of a set

abbrev pub domain_ends : Domain → Ends
domain_ends Truths = truth
domain_ends (Integers s) = hull_of_set s
domain_ends (SetOf s) = nothing

abbrev pub variable_ends : Option Variable → Ends
variable_ends None = nothing
variable_ends (Some v) = domain_ends v.domain

-- nothing of what is no number
abbrev pub ends_of : List Variable → Plain → Ends
ends_of vs (bool b) = (number_of_truth b, number_of_truth b)
ends_of vs (int n) = (n, n)
ends_of vs (set s) = nothing
ends_of vs (var k) = variable_ends (slice_get vs k)
ends_of vs nested = nothing

abbrev pub domain_upper : Domain → List Range
domain_upper Truths = []
domain_upper (Integers s) = []
domain_upper (SetOf s) = s

abbrev pub variable_upper : Option Variable → List Range
variable_upper None = []
variable_upper (Some v) = domain_upper v.domain

abbrev pub upper_of : List Variable → Plain → List Range
upper_of vs (bool b) = []
upper_of vs (int n) = []
upper_of vs (set s) = s
upper_of vs (var k) = variable_upper (slice_get vs k)
upper_of vs nested = []

abbrev pub plain_at : List Argument → ℕ → Plain
plain_at xs k = plain_of (argument_at xs k)

abbrev pub number_ends : List Variable → List Argument → ℕ → Ends
number_ends vs xs k = ends_of vs (plain_at xs k)

abbrev pub upper_at : List Variable → List Argument → ℕ → List Range
upper_at vs xs k = upper_of vs (plain_at xs k)

-- ---- the bounds of a number that rows give

abbrev pub arith_by : Arith → Option Ends → Option Ends → Option Ends
arith_by op None f = None
arith_by op (Some e) None = None
arith_by op (Some e) (Some f) = if_in_limit (arith_ends op e f)

abbrev pub magnitude_by : Option Ends → Option Ends
magnitude_by None = None
magnitude_by (Some e) = if_in_limit (sign_ends Abs e)

abbrev pub joined : Option Ends → Ends → Ends
joined None e = e
joined (Some acc) e = hull_of acc e

-- the hull with one element, where the index reaches its place
abbrev pub hull_with : Bool → Option Ends → Ends → Option Ends
hull_with reached acc e = if reached then Some (joined acc e) else acc

-- the hull of the elements, of which the first has this place, at the places that lie in the bounds
unfoldable pub hull_reached : List Variable → Ends → ℤ → Option Ends → List Plain → Option Ends
hull_reached vs index place acc [] = acc
hull_reached vs index place acc (p ∷ ps) = hull_reached vs index (place +ℤ pos 1) (hull_with (is_within index place) acc (ends_of vs p)) ps

-- the hull over the places from 1 that an index in these bounds reaches, 0..0 where it reaches none
abbrev pub element_ends : List Variable → Ends → List Plain → Ends
element_ends vs index ps = unwrap_or (hull_reached vs index (pos 1) None ps) nothing

abbrev pub plus : Option Ends → Option Ends → Option Ends
plus None f = None
plus (Some e) None = None
plus (Some e) (Some f) = if_in_limit (sum_of e f)

abbrev pub times : Option Ends → Option Ends → Option Ends
times None f = None
times (Some e) None = None
times (Some e) (Some f) = if_in_limit (product_of e f)

-- the sum of the products, from the first on; none where a partial result leaves the limit
unfoldable pub sum_ends : List Variable → Option Ends → List Plain → List Plain → Option Ends
sum_ends vs acc [] xs = acc
sum_ends vs acc (c ∷ cs) [] = acc
sum_ends vs acc (c ∷ cs) (x ∷ xs) = sum_ends vs (plus acc (times (if_interval (ends_of vs c)) (if_interval (ends_of vs x)))) cs xs

-- what the sum passes the constant by
abbrev pub negative : Option Ends → Option Ends
negative None = None
negative (Some e) = Some (negation_of e)

abbrev pub excess_ends : List Variable → List Argument → Option Ends
excess_ends vs xs = plus (sum_ends vs (Some nothing) (elements_at xs 0) (elements_at xs 1)) (negative (if_interval (number_ends vs xs 2)))

-- ---- the greatest set of a set that rows give

-- the union with one element, where the index reaches its place
abbrev pub union_with : Bool → List Range → List Range → List Range
union_with reached acc s = if reached then union acc s else acc

unfoldable pub union_reached : List Variable → Ends → ℤ → List Range → List Plain → List Range
union_reached vs index place acc [] = acc
union_reached vs index place acc (p ∷ ps) = union_reached vs index (place +ℤ pos 1) (union_with (is_within index place) acc (upper_of vs p)) ps

-- ---- the domain

abbrev pub whole : Option Ends → Option Domain
whole o = option_map (λ e. Integers (range_of e.0 e.1)) o

unfoldable pub domain_by : Form → List Variable → List Argument → Option Domain
domain_by Test vs xs = None
domain_by Truth vs xs = Some Truths
domain_by TruthElement vs xs = Some Truths
domain_by (Arithmetic op) vs xs = whole (arith_by op (if_interval (number_ends vs xs 0)) (if_interval (number_ends vs xs 1)))
domain_by Magnitude vs xs = whole (magnitude_by (if_interval (number_ends vs xs 0)))
domain_by Flag vs xs = whole (if_interval (number_ends vs xs 0))
domain_by Element vs xs = whole (if_interval (element_ends vs (number_ends vs xs 0) (elements_at xs 1)))
domain_by Size vs xs = whole (if_interval (card_ends (upper_at vs xs 0)))
domain_by Sum vs xs = whole (excess_ends vs xs)
domain_by (Combined op) vs xs = Some (SetOf (combined_upper op (upper_at vs xs 0) (upper_at vs xs 1)))
domain_by SetElement vs xs = Some (SetOf (union_reached vs (number_ends vs xs 0) (pos 1) [] (elements_at xs 1)))

-- the domain of a row's result; none where the row has no result, and where the bounds of an integer leave the limit
abbrev pub result_domain : List Variable → RowName → List Argument → Option Domain
result_domain vs name inputs = domain_by (form_of name) vs inputs

-- ---- what it holds

-- a sum takes the inputs that its row has, and another row all arguments but the last
abbrev pub input_kinds_by : Bool → List Kind → List Kind
input_kinds_by true kinds = kinds
input_kinds_by false kinds = take (length kinds - 1) kinds

abbrev pub input_kinds : RowName → List Kind
input_kinds name = input_kinds_by (is_sum name) (line name).kinds

abbrev pub AreInputs : List Variable → RowName → List Argument → Type 0
AreInputs vs name inputs = are_arguments vs (input_kinds name) inputs ≡ true

-- the result of inputs in their domains lies in the domain
abbrev pub HoldsResults : List Variable → RowName → List Argument → Domain → Type 0
HoldsResults vs name inputs domain = (f : Values) (x : Value) → AreInDomains vs f → result_given name (map (argument_value f) inputs) ≡ Some x → IsInDomain domain x
