-- THE TABLE OF OPERATORS AND BUILT-INS, a line each. A line's number is its place, from 0, and is written nowhere; the signatures of the lines stand in `mz_builtin`, in this order.
use Rattle.std.specs.Prelude.{◌≡◌, refl, ℕ, zero, suc, List, [], ◌∷◌, Bool, codes, length, nat_eq, Option, Some, None, slice_get, unwrap_or, if◌then◌else◌}
use Rattle.std.specs.Option.{option_map}
use Rattle.std.specs.Cmp.Lexicographic.{pointwise}
use Rattle.mz_operations.specs.declared.row.Row.{Row}
use Rattle.mz_operations.specs.declared.row.Row.TheVariants.{Scalar, Made, Bounding, Show, ShowArray}
use Rattle.mz_operations.specs.declared.row.ScalarRow.TheVariants.{Logic, Not, Order, Equal, Unequal, In, Arith, Sign, Power, Fold, Extreme, SetExtreme, Quantified, Count, Clause, Ordinal, Card, Length, Occurs, Absent, Beside, Assert}
use Rattle.mz_operations.specs.declared.row.MadeRow.TheVariants.{SetOf, Subset, Superset, UpTo, IndexSet, Line, Shaped, Concat, AppendTexts, SetToArray, ArrayUnion, ArrayIntersect, Deopt, AssertValue, AssertArray, ShowInt, Join, ConcatTexts}
use Rattle.mz_operations.specs.declared.row.BoundingRow.TheVariants.{Lb, Ub, Dom, LbArray, UbArray, IsFixed, Fix}
use Rattle.mz_operations.specs.declared.row.Connective.TheVariants.{Iff, Implies, IsImplied, Or, Xor, And}
use Rattle.mz_operations.specs.declared.row.Comparison.TheVariants.{Less, AtMost, Greater, AtLeast}
use Rattle.mz_operations.specs.declared.row.Arith.TheVariants.{Add, Sub, Mul, Div, Mod, Min, Max}
use Rattle.mz_operations.specs.declared.row.Sign.TheVariants.{Plus, Minus, Abs}
use Rattle.mz_operations.specs.declared.row.Fold.TheVariants.{Sum, SumOfOptions, Product}
use Rattle.mz_operations.specs.declared.row.Quantifier.TheVariants.{Forall, Exists, Xorall}
use Rattle.mz_operations.specs.declared.row.SetOp.TheVariants.{Union, Intersect, Diff, Symdiff}
use Rattle.mz_operations.specs.declared.row.Side.TheVariants.{Least, Greatest}
use Rattle.mz_operations.specs.declared.lines.TableLine.{TableLine}

pub record PlainLine : Type 0 where
  pub name : List ℕ
  -- the level of a binary operator, from 1, the loosest; 0 of what is none
  pub level : ℕ
  pub row : Row

-- what the code's line stands for
abbrev pub plain_line : TableLine → PlainLine
plain_line l = record { name = l.name.now; level = l.level; row = l.row }

abbrev pub operator : ℕ → List ℕ → Row → PlainLine
operator level name row = record { name = name; level = level; row = row }

-- a prefix operator, or a function
abbrev pub named : List ℕ → Row → PlainLine
named name row = operator 0 name row

unfoldable pub lines : List PlainLine
lines =
    -- connectives
    operator 1 (codes "<->") (Scalar (Logic Iff))
    ∷ operator 2 (codes "->") (Scalar (Logic Implies))
    ∷ operator 2 (codes "<-") (Scalar (Logic IsImplied))
    ∷ operator 3 (codes "\\/") (Scalar (Logic Or))
    ∷ operator 3 (codes "xor") (Scalar (Logic Xor))
    ∷ operator 4 (codes "/\\") (Scalar (Logic And))
    ∷ named (codes "not") (Scalar Not)
    -- comparisons; of sets `=` and `!=` are rows of their own, told by the argument
    ∷ operator 5 (codes "=") (Scalar Equal)
    ∷ operator 5 (codes "!=") (Scalar Unequal)
    ∷ operator 5 (codes "<") (Scalar (Order Less))
    ∷ operator 5 (codes "<=") (Scalar (Order AtMost))
    ∷ operator 5 (codes ">") (Scalar (Order Greater))
    ∷ operator 5 (codes ">=") (Scalar (Order AtLeast))
    -- sets
    ∷ operator 6 (codes "in") (Scalar In)
    ∷ operator 6 (codes "subset") (Made Subset)
    ∷ operator 6 (codes "superset") (Made Superset)
    ∷ operator 7 (codes "union") (Made (SetOf Union))
    ∷ operator 10 (codes "intersect") (Made (SetOf Intersect))
    ∷ operator 7 (codes "diff") (Made (SetOf Diff))
    ∷ operator 7 (codes "symdiff") (Made (SetOf Symdiff))
    ∷ operator 8 (codes "..") (Made UpTo)
    ∷ named (codes "card") (Scalar Card)
    ∷ named (codes "set2array") (Made SetToArray)
    ∷ named (codes "array_union") (Made ArrayUnion)
    ∷ named (codes "array_intersect") (Made ArrayIntersect)
    -- integers
    ∷ operator 9 (codes "+") (Scalar (Arith Add))
    ∷ operator 9 (codes "-") (Scalar (Arith Sub))
    ∷ operator 10 (codes "*") (Scalar (Arith Mul))
    ∷ named (codes "+") (Scalar (Sign Plus))
    ∷ named (codes "-") (Scalar (Sign Minus))
    ∷ operator 10 (codes "div") (Scalar (Arith Div))
    ∷ operator 10 (codes "mod") (Scalar (Arith Mod))
    ∷ operator 11 (codes "^") (Scalar Power)
    ∷ named (codes "pow") (Scalar Power)
    ∷ named (codes "abs") (Scalar (Sign Abs))
    -- extremes: of two integers, of a set, of an array
    ∷ named (codes "min") (Scalar (Arith Min))
    ∷ named (codes "min") (Scalar (SetExtreme Least))
    ∷ named (codes "min") (Scalar (Extreme Least))
    ∷ named (codes "max") (Scalar (Arith Max))
    ∷ named (codes "max") (Scalar (SetExtreme Greatest))
    ∷ named (codes "max") (Scalar (Extreme Greatest))
    -- folds: of elements, and of options of them
    ∷ named (codes "sum") (Scalar (Fold Sum))
    ∷ named (codes "sum") (Scalar (Fold SumOfOptions))
    ∷ named (codes "product") (Scalar (Fold Product))
    ∷ named (codes "forall") (Scalar (Quantified Forall))
    ∷ named (codes "forall") (Scalar (Quantified Forall))
    ∷ named (codes "exists") (Scalar (Quantified Exists))
    ∷ named (codes "exists") (Scalar (Quantified Exists))
    ∷ named (codes "xorall") (Scalar (Quantified Xorall))
    ∷ named (codes "clause") (Scalar Clause)
    ∷ named (codes "count") (Scalar Count)
    ∷ named (codes "count") (Scalar Count)
    -- ordinals
    ∷ named (codes "bool2int") (Scalar Ordinal)
    ∷ named (codes "enum2int") (Scalar Ordinal)
    -- arrays
    ∷ operator 12 (codes "++") (Made Concat)
    ∷ named (codes "length") (Scalar Length)
    ∷ named (codes "index_set") (Made (IndexSet 0 1))
    ∷ named (codes "index_set_1of2") (Made (IndexSet 0 2))
    ∷ named (codes "index_set_2of2") (Made (IndexSet 1 2))
    ∷ named (codes "index_set_1of3") (Made (IndexSet 0 3))
    ∷ named (codes "index_set_2of3") (Made (IndexSet 1 3))
    ∷ named (codes "index_set_3of3") (Made (IndexSet 2 3))
    ∷ named (codes "array1d") (Made Line)
    ∷ named (codes "array1d") (Made (Shaped 1))
    ∷ named (codes "array2d") (Made (Shaped 2))
    ∷ named (codes "array3d") (Made (Shaped 3))
    ∷ named (codes "array4d") (Made (Shaped 4))
    ∷ named (codes "array5d") (Made (Shaped 5))
    ∷ named (codes "array6d") (Made (Shaped 6))
    -- bounds: `lb` and `ub` each of an integer, and of a set
    ∷ named (codes "lb") (Bounding Lb)
    ∷ named (codes "lb") (Bounding Lb)
    ∷ named (codes "ub") (Bounding Ub)
    ∷ named (codes "ub") (Bounding Ub)
    ∷ named (codes "dom") (Bounding Dom)
    ∷ named (codes "lb_array") (Bounding LbArray)
    ∷ named (codes "ub_array") (Bounding UbArray)
    ∷ named (codes "is_fixed") (Bounding IsFixed)
    ∷ named (codes "fix") (Bounding Fix)
    -- options
    ∷ named (codes "occurs") (Scalar Occurs)
    ∷ named (codes "absent") (Scalar Absent)
    ∷ named (codes "deopt") (Made Deopt)
    -- cases
    ∷ named (codes "enum_next") (Scalar (Beside Greatest))
    ∷ named (codes "enum_prev") (Scalar (Beside Least))
    -- assertions
    ∷ named (codes "assert") (Scalar Assert)
    ∷ named (codes "assert") (Made AssertValue)
    ∷ named (codes "assert") (Made AssertArray)
    -- texts
    ∷ named (codes "show") Show
    ∷ named (codes "show") ShowArray
    ∷ named (codes "show_int") (Made ShowInt)
    ∷ named (codes "join") (Made Join)
    ∷ named (codes "concat") (Made ConcatTexts)
    ∷ operator 12 (codes "++") (Made AppendTexts)
    -- of arrays of texts
    ∷ operator 12 (codes "++") (Made Concat)
    ∷ []

-- ---- by number

unfoldable pub line_at : ℕ → Option PlainLine
line_at number = slice_get lines number

-- none of the number of a global
abbrev pub row_of : ℕ → Option Row
row_of number = option_map (λ l. l.row) (line_at number)

-- 0 of what is no binary operator
abbrev pub level_of : ℕ → ℕ
level_of number = unwrap_or (option_map (λ l. l.level) (line_at number)) 0

-- ---- by name

abbrev pub has_name : List ℕ → PlainLine → Bool
has_name name l = pointwise nat_eq l.name name

-- the place of a name's form, of which this many stand before it
unfoldable pub place_in : List PlainLine → List ℕ → ℕ → ℕ
place_in [] name forms = 0
place_in (l ∷ ls) name zero = if has_name name l then 0 else suc (place_in ls name zero)
place_in (l ∷ ls) name (suc forms) = suc (place_in ls name (if has_name name l then forms else suc forms))

-- the number of a name's form, from 0
abbrev pub number_of : List ℕ → ℕ → ℕ
number_of name form = place_in lines name form

-- ---- worked examples

prefix_plus : row_of (number_of (codes "+") 1) ≡ Some (Scalar (Sign Plus))
unfolding lines line_at place_in
prefix_plus = refl

-- `pow` is a function, and `^` an operator
level_of_pow : level_of (number_of (codes "pow") 0) ≡ 0
unfolding lines line_at place_in
level_of_pow = refl

level_of_power : level_of (number_of (codes "^") 0) ≡ 11
unfolding lines line_at place_in
level_of_power = refl

level_of_append_of_texts : level_of (number_of (codes "++") 1) ≡ 12
unfolding lines line_at place_in
level_of_append_of_texts = refl

append_of_text_arrays : row_of (number_of (codes "++") 2) ≡ Some (Made Concat)
unfolding lines line_at place_in
append_of_text_arrays = refl

none_behind_the_last : row_of (length lines) ≡ None
unfolding lines line_at
none_behind_the_last = refl
