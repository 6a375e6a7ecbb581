-- What each row gives on values, a line a row: None is undefined. A Boolean isn't made false here where it is undefined, and no limit is tested.
use Rattle.std.specs.Prelude.{ℕ, length, ℤ, pos, nat_abs, int_lt, nat_eq, List, [], ◌∷◌, ◌++◌, map, Bool, true, false, not, ◌||◌, Option, Some, None, slice_get, if◌then◌else◌}
use Rattle.std.specs.Option.{option_or, option_map}
use Rattle.std.specs.Ordering.{int_eq}
use Rattle.std.specs.Fmt.{signed_decimal}
use Rattle.mz_value.specs.Ranges.{Range, cardinality}
use Rattle.mz_value.specs.Contents.{Content, bool, int, case, set, text, array, contents}
use Rattle.mz_value.specs.Shown.{Names, padded, join, elements, shown}
use Rattle.mz_operations.specs.declared.row.ScalarRow.{ScalarRow}
use Rattle.mz_operations.specs.declared.row.ScalarRow.TheVariants.{Logic, Not, Order, Equal, Unequal, SetEqual, SetUnequal, In, Arith, Sign, Power, Fold, Extreme, SetExtreme, Quantified, Count, Clause, Ordinal, Card, Length, Occurs, Absent, Beside, Assert}
use Rattle.mz_operations.specs.declared.row.MadeRow.{MadeRow}
use Rattle.mz_operations.specs.declared.row.MadeRow.TheVariants.{SetOf, Subset, Superset, UpTo, IndexSet, Line, Shaped, Concat, AppendTexts, SetToArray, ArrayUnion, ArrayIntersect, Deopt, AssertValue, AssertArray, ShowInt, Join, ConcatTexts}
use Rattle.mz_operations.specs.declared.row.BoundingRow.{BoundingRow}
use Rattle.mz_operations.specs.declared.row.BoundingRow.TheVariants.{Lb, Ub, Dom, LbArray, UbArray, IsFixed, Fix}
use Rattle.mz_operations.specs.declared.row.Row.{Row}
use Rattle.mz_operations.specs.declared.row.Row.TheVariants.{Scalar, Made, Bounding, Show, ShowArray}
use Rattle.mz_operations.specs.declared.row.Quantifier.TheVariants.{Forall, Exists}
use Rattle.mz_operations.specs.declared.row.Side.TheVariants.{Least, Greatest}
use Rattle.mz_operations.specs.Views.{◌>>=◌, as_bool, as_int, as_set, as_text, as_pair, is_absent, is_single}
use Rattle.mz_operations.specs.Arguments.{Arguments, at, bool_at, int_at, case_at, ordinal_at, element_at, option_at, set_at, enum_at, text_at, items_at, row_at, index_at, pair}
use Rattle.mz_operations.specs.Sets.{union, intersection, combined, contains, is_subset, same_set, end_of, up_to}
use Rattle.mz_operations.specs.Numbers.{connected, ordered, computed, signed, folded, fold_start, raised, nearer, beside, quantified, quantifier_start, counted}
use Rattle.mz_operations.specs.Arrays.{fold_from, summand, instance, truth_or, element_of, line, shape, is_shape_of}

-- two options are equal where both are absent, or both occur with equal values
unfoldable pub equality : Content → Content → Option Bool
equality x y =
    if is_absent x
    then (if is_absent y then Some true else Some false)
    else (if is_absent y then Some false else option_map (λ p. int_eq p.0 p.1) (as_pair x y))

-- x to the power n; a negative n is refused before
abbrev pub power : ℤ → ℤ → Option ℤ
power x n = if int_lt n (pos 0) then None else Some (raised x (nat_abs n))

-- what the sets have in common; none where there is no set
unfoldable pub common_so_far : Option (List Range) → List Range → Option (List Range)
common_so_far None s = Some s
common_so_far (Some a) s = Some (intersection a s)

-- one text more
abbrev pub and_text : List (List ℕ) → List ℕ → List (List ℕ)
and_text ts t = ts ++ t ∷ []

unfoldable pub scalar_value : ScalarRow → Arguments → Option Content
scalar_value (Logic op) args = do
  a ← bool_at args 0
  b ← bool_at args 1
  Some (bool (connected op a b))
scalar_value Not args = do
  a ← bool_at args 0
  Some (bool (not a))
scalar_value (Order op) args = do
  p ← pair args
  Some (bool (ordered op p.0 p.1))
scalar_value Equal args = do
  x ← option_at args 0
  y ← option_at args 1
  b ← equality x y
  Some (bool b)
scalar_value Unequal args = do
  x ← option_at args 0
  y ← option_at args 1
  b ← equality x y
  Some (bool (not b))
scalar_value SetEqual args = do
  a ← set_at args 0
  b ← set_at args 1
  Some (bool (same_set a b))
scalar_value SetUnequal args = do
  a ← set_at args 0
  b ← set_at args 1
  Some (bool (not (same_set a b)))
scalar_value In args = do
  x ← element_at args 0
  s ← set_at args 1
  Some (bool (contains s x))
scalar_value (Arith op) args = do
  x ← int_at args 0
  y ← int_at args 1
  n ← computed op x y
  Some (int n)
scalar_value (Sign op) args = do
  x ← int_at args 0
  Some (int (signed op x))
scalar_value Power args = do
  x ← int_at args 0
  k ← int_at args 1
  n ← power x k
  Some (int n)
scalar_value (Fold op) args = do
  xs ← items_at args 0
  n ← fold_from (summand op) (folded op) (fold_start op) xs
  Some (int n)
scalar_value (Extreme side) args = do
  xs ← items_at args 0
  found ← fold_from as_int (nearer side) None xs
  n ← found
  Some (int n)
scalar_value (SetExtreme side) args = do
  s ← set_at args 0
  n ← end_of side s
  Some (element_of (enum_at args 0) n)
scalar_value (Quantified op) args = do
  xs ← items_at args 0
  b ← fold_from (instance op) (quantified op) (quantifier_start op) xs
  Some (bool b)
scalar_value Count args = do
  xs ← items_at args 0
  n ← fold_from (truth_or false) counted 0 xs
  Some (int (pos n))
scalar_value Clause args = do
  xs ← items_at args 0
  ys ← items_at args 1
  some ← fold_from as_bool (quantified Exists) false xs
  all ← fold_from as_bool (quantified Forall) true ys
  Some (bool (some || not all))
scalar_value Ordinal args = do
  n ← ordinal_at args 0
  Some (int n)
scalar_value Card args = do
  s ← set_at args 0
  Some (int (pos (cardinality s)))
scalar_value Length args = do
  xs ← items_at args 0
  Some (int (pos (length xs)))
scalar_value Occurs args = do
  x ← option_at args 0
  Some (bool (not (is_absent x)))
scalar_value Absent args = do
  x ← option_at args 0
  Some (bool (is_absent x))
scalar_value (Beside side) args = do
  s ← set_at args 0
  c ← case_at args 1
  if contains s (beside side c.1) then Some (case c.0 (beside side c.1)) else None
scalar_value Assert args = do
  _holds ← bool_at args 0
  _message ← text_at args 1
  Some (bool true)

unfoldable pub made_value : MadeRow → Arguments → Option Content
made_value (SetOf op) args = do
  a ← set_at args 0
  b ← set_at args 1
  Some (set (option_or (enum_at args 0) (enum_at args 1)) (combined op a b))
made_value Subset args = do
  a ← set_at args 0
  b ← set_at args 1
  Some (bool (is_subset a b))
made_value Superset args = do
  a ← set_at args 0
  b ← set_at args 1
  Some (bool (is_subset b a))
made_value UpTo args = do
  _x ← element_at args 0
  p ← pair args
  s ← up_to p.0 p.1
  Some (set (enum_at args 0) s)
made_value (IndexSet k d) args = do
  rs ← index_at args 0
  r ← slice_get rs k
  s ← up_to r.0 r.1
  if nat_eq (length rs) d then Some (set None s) else None
made_value Line args = do
  xs ← items_at args 0
  Some (line xs)
made_value (Shaped d) args = do
  w ← shape d args
  xs ← items_at args d
  if is_shape_of w (length xs) then Some (array w.ranges (contents xs)) else None
made_value Concat args = do
  xs ← row_at args 0
  ys ← row_at args 1
  Some (line (xs ++ ys))
made_value AppendTexts args = do
  t ← text_at args 0
  u ← text_at args 1
  Some (text (t ++ u))
made_value SetToArray args = do
  s ← set_at args 0
  Some (line (map (element_of (enum_at args 0)) (elements s)))
made_value ArrayUnion args = do
  xs ← items_at args 0
  s ← fold_from as_set union [] xs
  Some (set None s)
made_value ArrayIntersect args = do
  xs ← items_at args 0
  found ← fold_from as_set common_so_far None xs
  s ← found
  Some (set None s)
made_value Deopt args = do
  x ← option_at args 0
  if is_absent x then None else Some x
made_value AssertValue args = do
  _holds ← bool_at args 0
  _message ← text_at args 1
  at args 2
made_value AssertArray args = do
  _holds ← bool_at args 0
  _message ← text_at args 1
  at args 2
made_value ShowInt args = do
  w ← int_at args 0
  n ← int_at args 1
  Some (text (padded w (signed_decimal n)))
made_value Join args = do
  t ← text_at args 0
  xs ← items_at args 1
  ts ← fold_from as_text and_text [] xs
  Some (text (join t ts))
made_value ConcatTexts args = do
  xs ← items_at args 0
  ts ← fold_from as_text and_text [] xs
  Some (text (join [] ts))

-- an integer or a set
unfoldable pub is_bounded : Content → Bool
is_bounded (int n) = true
is_bounded (set e rs) = true
is_bounded _ = false

-- a value that `fix` and `is_fixed` take
unfoldable pub is_fixable : Content → Bool
is_fixable (set e rs) = true
is_fixable x = is_single x

-- of par arguments; what these rows give of var ones is `value_by_bounds`
unfoldable pub bounding_value : BoundingRow → Arguments → Option Content
bounding_value Lb args = do
  x ← at args 0
  if is_bounded x then Some x else None
bounding_value Ub args = do
  x ← at args 0
  if is_bounded x then Some x else None
bounding_value Dom args = do
  n ← int_at args 0
  s ← up_to n n
  Some (set None s)
bounding_value LbArray args = scalar_value (Extreme Least) args
bounding_value UbArray args = scalar_value (Extreme Greatest) args
bounding_value IsFixed args = do
  x ← at args 0
  if is_fixable x then Some (bool true) else None
bounding_value Fix args = do
  x ← at args 0
  if is_fixable x then Some x else None

-- `show` reads the names of the enums' cases
abbrev pub shown_value : Names → Arguments → Option Content
shown_value names args = do
  x ← at args 0
  Some (text (shown names x))

abbrev pub value : Names → Row → Arguments → Option Content
value names (Scalar r) args = scalar_value r args
value names (Made r) args = made_value r args
value names (Bounding r) args = bounding_value r args
value names Show args = shown_value names args
value names ShowArray args = shown_value names args
