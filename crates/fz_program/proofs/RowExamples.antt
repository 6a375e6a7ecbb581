-- What the constraints of the table ask, at the edges.
use Rattle.std.proofs.Common.{◌≡◌, List, [], ◌∷◌, map, Bool, true, false, refl}
use Rattle.std.specs.Prelude.{ℤ, pos, negsuc, ◌+ℤ◌, Option, Some, None}
use Rattle.mz_value.specs.Ranges.{Range, greatest}
use Rattle.mz_operations.specs.Numbers.{computed, signed}
use Rattle.mz_operations.specs.Sets.{combined, complement, contains, difference, intersection, missing_from, same_set, union}
use Rattle.fz_program.specs.declared.row_name.RowName.{RowName}
use Rattle.fz_program.specs.declared.row_name.RowName.TheVariants.{IntEq, IntNe, IntLe, IntLt, IntEqReif, IntNeReif, IntLeReif, IntLtReif, IntLinEq, IntLinNe, IntLinLe, IntLinEqReif, IntLinNeReif, IntLinLeReif, IntTimes, IntDiv, IntMod, IntMin, IntMax, IntAbs, ArrayIntElement, ArrayVarIntElement, ArrayBoolElement, ArrayVarBoolElement, ArraySetElement, ArrayVarSetElement, BoolEq, BoolNot, BoolToInt, BoolXor, BoolEqReif, BoolLeReif, ArrayBoolAnd, ArrayBoolOr, BoolClause, SetIn, SetInReif, SetEq, SetNe, SetSubset, SetEqReif, SetNeReif, SetSubsetReif, SetUnion, SetIntersect, SetDiff, SetSymdiff, SetCard}
use Rattle.fz_program.specs.Values.{Value, number, set, ArgumentValue, one, many, linear}
use Rattle.fz_program.specs.Table.{line, result_of, answer_of}
use Rattle.fz_program.specs.Flat.{is_set}

-- an integer, a set, an array of integers, an array of sets
abbrev n : ℤ → ArgumentValue
n x = one (number x)

abbrev s : List Range → ArgumentValue
s x = one (set x)

abbrev ns : List ℤ → ArgumentValue
ns xs = many (map number xs)

abbrev ss : List (List Range) → ArgumentValue
ss xs = many (map set xs)

abbrev result : RowName → List ArgumentValue → Option Value
result name xs = result_of (line name).meaning xs

abbrev holds : RowName → List ArgumentValue → Bool
holds name xs = answer_of (line name).meaning xs

-- comparisons, at equal numbers and beside them
pub comparisons :
    holds IntEq (n (pos 3) ∷ n (pos 3) ∷ []) ∷ holds IntEq (n (pos 3) ∷ n (pos 4) ∷ []) ∷ holds IntNe (n (pos 3) ∷ n (pos 3) ∷ []) ∷ holds IntNe (n (negsuc 2) ∷ n (pos 3) ∷ []) ∷ holds IntLe (n (pos 3) ∷ n (pos 3) ∷ []) ∷ holds IntLe (n (pos 4) ∷ n (pos 3) ∷ []) ∷ holds IntLt (n (pos 3) ∷ n (pos 3) ∷ []) ∷ holds IntLt (n (negsuc 2) ∷ n (pos 3) ∷ []) ∷ []
    ≡ true ∷ false ∷ false ∷ true ∷ true ∷ false ∷ false ∷ true ∷ []
unfolding line
comparisons = refl

-- each both ways
pub reified_comparisons :
    result IntEqReif (n (pos 3) ∷ n (pos 3) ∷ []) ∷ result IntEqReif (n (pos 3) ∷ n (pos 4) ∷ []) ∷ result IntNeReif (n (pos 3) ∷ n (pos 3) ∷ []) ∷ result IntNeReif (n (pos 3) ∷ n (pos 4) ∷ []) ∷ result IntLeReif (n (pos 3) ∷ n (pos 3) ∷ []) ∷ result IntLeReif (n (pos 4) ∷ n (pos 3) ∷ []) ∷ result IntLtReif (n (pos 3) ∷ n (pos 3) ∷ []) ∷ result IntLtReif (n (pos 2) ∷ n (pos 3) ∷ []) ∷ []
    ≡ Some (number (pos 1)) ∷ Some (number (pos 0)) ∷ Some (number (pos 0)) ∷ Some (number (pos 1)) ∷ Some (number (pos 1)) ∷ Some (number (pos 0)) ∷ Some (number (pos 0)) ∷ Some (number (pos 1)) ∷ []
unfolding line
reified_comparisons = refl

-- 2 * 3 - 4 is 2; the empty sum is 0
pub linear_rows :
    holds IntLinEq (ns (pos 2 ∷ (negsuc 0) ∷ []) ∷ ns (pos 3 ∷ pos 4 ∷ []) ∷ n (pos 2) ∷ []) ∷ holds IntLinEq (ns [] ∷ ns [] ∷ n (pos 0) ∷ []) ∷ holds IntLinEq (ns [] ∷ ns [] ∷ n (pos 1) ∷ []) ∷ holds IntLinNe (ns [] ∷ ns [] ∷ n (pos 1) ∷ []) ∷ holds IntLinNe (ns (pos 2 ∷ (negsuc 0) ∷ []) ∷ ns (pos 3 ∷ pos 4 ∷ []) ∷ n (pos 2) ∷ []) ∷ holds IntLinLe (ns (pos 1 ∷ pos 1 ∷ []) ∷ ns (pos 3 ∷ pos 4 ∷ []) ∷ n (pos 7) ∷ []) ∷ holds IntLinLe (ns (pos 1 ∷ pos 1 ∷ []) ∷ ns (pos 3 ∷ pos 4 ∷ []) ∷ n (pos 6) ∷ []) ∷ []
    ≡ true ∷ true ∷ false ∷ true ∷ false ∷ true ∷ false ∷ []
unfolding line linear
linear_rows = refl

-- each both ways
pub reified_linear_rows :
    result IntLinEqReif (ns (pos 2 ∷ (negsuc 0) ∷ []) ∷ ns (pos 3 ∷ pos 4 ∷ []) ∷ n (pos 2) ∷ []) ∷ result IntLinEqReif (ns (pos 1 ∷ []) ∷ ns (pos 3 ∷ []) ∷ n (pos 2) ∷ []) ∷ result IntLinNeReif (ns (pos 1 ∷ []) ∷ ns (pos 5 ∷ []) ∷ n (pos 5) ∷ []) ∷ result IntLinNeReif (ns [] ∷ ns [] ∷ n (pos 5) ∷ []) ∷ result IntLinLeReif (ns [] ∷ ns [] ∷ n (negsuc 0) ∷ []) ∷ result IntLinLeReif (ns ((negsuc 0) ∷ []) ∷ ns (pos 5 ∷ []) ∷ n (negsuc 4) ∷ []) ∷ []
    ≡ Some (number (pos 1)) ∷ Some (number (pos 0)) ∷ Some (number (pos 0)) ∷ Some (number (pos 1)) ∷ Some (number (pos 0)) ∷ Some (number (pos 1)) ∷ []
unfolding line linear
reified_linear_rows = refl

-- division by negative numbers and by 0
pub quotients :
    result IntDiv (n (negsuc 6) ∷ n (pos 2) ∷ []) ∷ result IntDiv (n (pos 7) ∷ n (negsuc 1) ∷ []) ∷ result IntDiv (n (negsuc 6) ∷ n (negsuc 1) ∷ []) ∷ result IntDiv (n (pos 1) ∷ n (pos 0) ∷ []) ∷ result IntMod (n (negsuc 6) ∷ n (pos 2) ∷ []) ∷ result IntMod (n (pos 7) ∷ n (negsuc 1) ∷ []) ∷ result IntMod (n (negsuc 6) ∷ n (negsuc 1) ∷ []) ∷ result IntMod (n (pos 1) ∷ n (pos 0) ∷ []) ∷ []
    ≡ Some (number (negsuc 2)) ∷ Some (number (negsuc 2)) ∷ Some (number (pos 3)) ∷ None ∷ Some (number (negsuc 0)) ∷ Some (number (pos 1)) ∷ Some (number (negsuc 0)) ∷ None ∷ []
unfolding line computed
quotients = refl

-- products, the least and the greatest, magnitudes
pub arithmetic_rows :
    result IntTimes (n (negsuc 2) ∷ n (pos 4) ∷ []) ∷ result IntTimes (n (negsuc 2) ∷ n (pos 0) ∷ []) ∷ result IntMin (n (pos 3) ∷ n (negsuc 3) ∷ []) ∷ result IntMax (n (pos 3) ∷ n (negsuc 3) ∷ []) ∷ result IntAbs (n (negsuc 3) ∷ []) ∷ result IntAbs (n (pos 0) ∷ []) ∷ []
    ≡ Some (number (negsuc 11)) ∷ Some (number (pos 0)) ∷ Some (number (negsuc 3)) ∷ Some (number (pos 3)) ∷ Some (number (pos 4)) ∷ Some (number (pos 0)) ∷ []
unfolding line computed signed
arithmetic_rows = refl

-- places from 1, and none outside
pub number_elements :
    result ArrayIntElement (n (pos 1) ∷ ns (pos 5 ∷ []) ∷ []) ∷ result ArrayIntElement (n (pos 0) ∷ ns (pos 5 ∷ []) ∷ []) ∷ result ArrayIntElement (n (pos 2) ∷ ns (pos 5 ∷ []) ∷ []) ∷ result ArrayIntElement (n (negsuc 0) ∷ ns (pos 5 ∷ []) ∷ []) ∷ result ArrayVarIntElement (n (pos 2) ∷ ns (pos 5 ∷ pos 6 ∷ []) ∷ []) ∷ result ArrayVarIntElement (n (pos 1) ∷ ns [] ∷ []) ∷ result ArrayBoolElement (n (pos 1) ∷ ns (pos 1 ∷ []) ∷ []) ∷ result ArrayBoolElement (n (pos 2) ∷ ns (pos 1 ∷ []) ∷ []) ∷ result ArrayVarBoolElement (n (pos 2) ∷ ns (pos 1 ∷ pos 0 ∷ []) ∷ []) ∷ result ArrayVarBoolElement (n (pos 0) ∷ ns (pos 1 ∷ pos 0 ∷ []) ∷ []) ∷ []
    ≡ Some (number (pos 5)) ∷ None ∷ None ∷ None ∷ Some (number (pos 6)) ∷ None ∷ Some (number (pos 1)) ∷ None ∷ Some (number (pos 0)) ∷ None ∷ []
unfolding line
number_elements = refl

-- the same of sets
pub set_elements :
    result ArraySetElement (n (pos 1) ∷ ss (((pos 1, pos 3) ∷ []) ∷ []) ∷ []) ∷ result ArraySetElement (n (pos 0) ∷ ss (((pos 1, pos 3) ∷ []) ∷ []) ∷ []) ∷ result ArrayVarSetElement (n (pos 2) ∷ ss (((pos 1, pos 3) ∷ []) ∷ [] ∷ []) ∷ []) ∷ result ArrayVarSetElement (n (pos 3) ∷ ss (((pos 1, pos 3) ∷ []) ∷ [] ∷ []) ∷ []) ∷ []
    ≡ Some (set ((pos 1, pos 3) ∷ [])) ∷ None ∷ Some (set []) ∷ None ∷ []
unfolding line
set_elements = refl

-- equality, and clauses of no truth values, of one and of more
pub truth_tests :
    holds BoolEq (n (pos 1) ∷ n (pos 1) ∷ []) ∷ holds BoolEq (n (pos 1) ∷ n (pos 0) ∷ []) ∷ holds BoolClause (ns [] ∷ ns [] ∷ []) ∷ holds BoolClause (ns (pos 1 ∷ []) ∷ ns [] ∷ []) ∷ holds BoolClause (ns [] ∷ ns (pos 1 ∷ []) ∷ []) ∷ holds BoolClause (ns [] ∷ ns (pos 0 ∷ []) ∷ []) ∷ holds BoolClause (ns (pos 0 ∷ []) ∷ ns (pos 1 ∷ []) ∷ []) ∷ holds BoolClause (ns (pos 0 ∷ []) ∷ ns (pos 1 ∷ pos 0 ∷ []) ∷ []) ∷ []
    ≡ true ∷ false ∷ false ∷ true ∷ false ∷ true ∷ false ∷ true ∷ []
unfolding line
truth_tests = refl

-- connectives, both ways, and of none, of one and of more
pub truth_results :
    result BoolNot (n (pos 1) ∷ []) ∷ result BoolNot (n (pos 0) ∷ []) ∷ result BoolToInt (n (pos 1) ∷ []) ∷ result BoolToInt (n (pos 0) ∷ []) ∷ result BoolXor (n (pos 1) ∷ n (pos 1) ∷ []) ∷ result BoolXor (n (pos 1) ∷ n (pos 0) ∷ []) ∷ result BoolEqReif (n (pos 0) ∷ n (pos 0) ∷ []) ∷ result BoolEqReif (n (pos 0) ∷ n (pos 1) ∷ []) ∷ result BoolLeReif (n (pos 1) ∷ n (pos 0) ∷ []) ∷ result BoolLeReif (n (pos 0) ∷ n (pos 0) ∷ []) ∷ result ArrayBoolAnd (ns [] ∷ []) ∷ result ArrayBoolAnd (ns (pos 0 ∷ []) ∷ []) ∷ result ArrayBoolAnd (ns (pos 1 ∷ pos 1 ∷ []) ∷ []) ∷ result ArrayBoolAnd (ns (pos 1 ∷ pos 0 ∷ []) ∷ []) ∷ result ArrayBoolOr (ns [] ∷ []) ∷ result ArrayBoolOr (ns (pos 1 ∷ []) ∷ []) ∷ result ArrayBoolOr (ns (pos 0 ∷ pos 0 ∷ []) ∷ []) ∷ result ArrayBoolOr (ns (pos 0 ∷ pos 1 ∷ []) ∷ []) ∷ []
    ≡ Some (number (pos 0)) ∷ Some (number (pos 1)) ∷ Some (number (pos 1)) ∷ Some (number (pos 0)) ∷ Some (number (pos 0)) ∷ Some (number (pos 1)) ∷ Some (number (pos 1)) ∷ Some (number (pos 0)) ∷ Some (number (pos 0)) ∷ Some (number (pos 1)) ∷ Some (number (pos 1)) ∷ Some (number (pos 0)) ∷ Some (number (pos 1)) ∷ Some (number (pos 0)) ∷ Some (number (pos 0)) ∷ Some (number (pos 1)) ∷ Some (number (pos 0)) ∷ Some (number (pos 1)) ∷ []
unfolding line
truth_results = refl

-- membership at a set's ends, inclusion of the empty set
pub set_tests :
    holds SetIn (n (pos 3) ∷ s ((pos 1, pos 3) ∷ []) ∷ []) ∷ holds SetIn (n (pos 4) ∷ s ((pos 1, pos 3) ∷ []) ∷ []) ∷ holds SetIn (n (pos 0) ∷ s [] ∷ []) ∷ holds SetEq (s ((pos 1, pos 3) ∷ []) ∷ s ((pos 1, pos 3) ∷ []) ∷ []) ∷ holds SetEq (s ((pos 1, pos 3) ∷ []) ∷ s [] ∷ []) ∷ holds SetNe (s ((pos 1, pos 3) ∷ []) ∷ s ((pos 4, pos 5) ∷ []) ∷ []) ∷ holds SetNe (s [] ∷ s [] ∷ []) ∷ holds SetSubset (s [] ∷ s ((pos 1, pos 3) ∷ []) ∷ []) ∷ holds SetSubset (s ((pos 1, pos 3) ∷ []) ∷ s [] ∷ []) ∷ holds SetSubset (s ((pos 2, pos 3) ∷ []) ∷ s ((pos 1, pos 3) ∷ []) ∷ []) ∷ []
    ≡ true ∷ false ∷ false ∷ true ∷ false ∷ true ∷ false ∷ true ∷ false ∷ true ∷ []
unfolding line contains same_set difference intersection complement missing_from
set_tests = refl

-- each both ways
pub reified_set_tests :
    result SetInReif (n (pos 1) ∷ s ((pos 1, pos 3) ∷ []) ∷ []) ∷ result SetInReif (n (pos 0) ∷ s ((pos 1, pos 3) ∷ []) ∷ []) ∷ result SetEqReif (s ((pos 1, pos 3) ∷ []) ∷ s ((pos 1, pos 3) ∷ []) ∷ []) ∷ result SetEqReif (s ((pos 1, pos 3) ∷ []) ∷ s ((pos 4, pos 5) ∷ []) ∷ []) ∷ result SetNeReif (s ((pos 1, pos 3) ∷ []) ∷ s ((pos 1, pos 3) ∷ []) ∷ []) ∷ result SetNeReif (s ((pos 1, pos 3) ∷ []) ∷ s ((pos 4, pos 5) ∷ []) ∷ []) ∷ result SetSubsetReif (s ((pos 1, pos 3) ∷ []) ∷ s ((pos 1, pos 3) ∷ []) ∷ []) ∷ result SetSubsetReif (s ((pos 1, pos 3) ∷ []) ∷ s ((pos 4, pos 5) ∷ []) ∷ []) ∷ []
    ≡ Some (number (pos 1)) ∷ Some (number (pos 0)) ∷ Some (number (pos 1)) ∷ Some (number (pos 0)) ∷ Some (number (pos 0)) ∷ Some (number (pos 1)) ∷ Some (number (pos 1)) ∷ Some (number (pos 0)) ∷ []
unfolding line contains same_set difference intersection complement missing_from
reified_set_tests = refl

-- sets that touch, that overlap, and that are empty
pub set_results :
    result SetUnion (s ((pos 1, pos 3) ∷ []) ∷ s ((pos 4, pos 5) ∷ []) ∷ []) ∷ result SetUnion (s [] ∷ s ((pos 4, pos 5) ∷ []) ∷ []) ∷ result SetIntersect (s ((pos 1, pos 3) ∷ []) ∷ s ((pos 4, pos 5) ∷ []) ∷ []) ∷ result SetIntersect (s ((pos 1, pos 3) ∷ []) ∷ s ((pos 3, pos 5) ∷ []) ∷ []) ∷ result SetDiff (s ((pos 1, pos 3) ∷ []) ∷ s ((pos 2, pos 2) ∷ []) ∷ []) ∷ result SetDiff (s ((pos 1, pos 3) ∷ []) ∷ s ((pos 1, pos 3) ∷ []) ∷ []) ∷ result SetSymdiff (s ((pos 1, pos 3) ∷ []) ∷ s ((pos 3, pos 5) ∷ []) ∷ []) ∷ result SetSymdiff (s ((pos 1, pos 3) ∷ []) ∷ s [] ∷ []) ∷ result SetCard (s [] ∷ []) ∷ result SetCard (s ((pos 1, pos 2) ∷ (pos 5, pos 5) ∷ []) ∷ []) ∷ []
    ≡ Some (set ((pos 1, pos 5) ∷ [])) ∷ Some (set ((pos 4, pos 5) ∷ [])) ∷ Some (set []) ∷ Some (set ((pos 3, pos 3) ∷ [])) ∷ Some (set ((pos 1, pos 1) ∷ (pos 3, pos 3) ∷ [])) ∷ Some (set []) ∷ Some (set ((pos 1, pos 2) ∷ (pos 4, pos 5) ∷ [])) ∷ Some (set ((pos 1, pos 3) ∷ [])) ∷ Some (number (pos 0)) ∷ Some (number (pos 3)) ∷ []
unfolding line combined union intersection difference complement missing_from
set_results = refl

-- a set that stands in a row: apart, touching, empty ranges, the limit and past it
pub row_sets :
    is_set [] ∷ is_set ((pos 1, pos 2) ∷ (pos 4, pos 4) ∷ []) ∷ is_set ((pos 1, pos 2) ∷ (pos 3, pos 4) ∷ []) ∷ is_set ((pos 2, pos 1) ∷ []) ∷ is_set ((pos 0, greatest) ∷ []) ∷ is_set ((pos 0, greatest +ℤ pos 1) ∷ []) ∷ []
    ≡ true ∷ true ∷ false ∷ false ∷ true ∷ false ∷ []
unfolding is_set
row_sets = refl
