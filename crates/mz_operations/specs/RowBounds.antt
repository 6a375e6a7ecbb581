-- The bounds of each row's value, a line a row, from the bounds of its arguments; and what the rows give that read bounds alone.
use Rattle.std.specs.Prelude.{ℕ, zero, suc, length, ℤ, pos, negsuc, nat_eq, List, [], ◌∷◌, ◌++◌, Option, Some, None, map, slice_get, if◌then◌else◌}
use Rattle.mz_value.specs.Ranges.{Range}
use Rattle.mz_value.specs.Contents.{Content, bool, int, set}
use Rattle.mz_interval.specs.Ends.{Ends}
use Rattle.mz_operations.specs.declared.row.ScalarRow.{ScalarRow}
use Rattle.mz_operations.specs.declared.row.ScalarRow.TheVariants.{Logic, Not, Order, Equal, Unequal, SetEqual, SetUnequal, In, Arith, Sign, Power, Fold, Extreme, SetExtreme, Quantified, Count, Clause, Ordinal, Card, Length, Occurs, Absent, Beside, Assert}
use Rattle.mz_operations.specs.declared.row.MadeRow.{MadeRow}
use Rattle.mz_operations.specs.declared.row.MadeRow.TheVariants.{SetOf, Subset, Superset, IndexSet, Line, Shaped, Concat, ArrayUnion, ArrayIntersect, Deopt, AssertValue, AssertArray}
use Rattle.mz_operations.specs.declared.row.BoundingRow.TheVariants.{Lb, Ub, Dom, LbArray, UbArray, IsFixed, Fix}
use Rattle.mz_operations.specs.declared.row.Row.{Row}
use Rattle.mz_operations.specs.declared.row.Row.TheVariants.{Scalar, Made, Bounding}
use Rattle.mz_operations.specs.Views.{◌>>=◌}
use Rattle.mz_operations.specs.Sets.{up_to}
use Rattle.mz_operations.specs.Arrays.{index_range}
use Rattle.mz_operations.specs.Bounds.{Bound, number, sets, Bounds, one, many, truth, is_settled, arith_ends, sign_ends, extreme_ends, folded_ends, fold_start_ends, raised_ends, count_ends, card_ends, hull_from, hull_of_set, combined_upper, union_of_all, intersection_of_all}

-- ---- the arguments' bounds

unfoldable pub bounds_at : List Bounds → ℕ → Option Bounds
bounds_at bs k = slice_get bs k

abbrev pub as_ends : Bound → Option Ends
as_ends (number e) = Some e
as_ends (sets l u) = None

abbrev pub as_upper : Bound → Option (List Range)
as_upper (number e) = None
as_upper (sets l u) = Some u

abbrev pub as_one : Bounds → Option Bound
as_one (one b) = Some b
as_one (many ix bs) = None

abbrev pub as_elements : Bounds → Option (List Bound)
as_elements (one b) = None
as_elements (many ix bs) = Some bs

abbrev pub as_ranges : Bounds → Option (List Range)
as_ranges (one b) = None
as_ranges (many ix bs) = Some ix

-- each is of the kind
unfoldable pub each : {A : Type 0} → (Bound → Option A) → List Bound → Option (List A)
each see [] = Some []
each see (b ∷ bs) = see b >>= λ a. each see bs >>= λ rest. Some (a ∷ rest)

unfoldable pub ends_at : List Bounds → ℕ → Option Ends
ends_at bs k = bounds_at bs k >>= as_one >>= as_ends

unfoldable pub upper_at : List Bounds → ℕ → Option (List Range)
upper_at bs k = bounds_at bs k >>= as_one >>= as_upper

unfoldable pub elements_at : List Bounds → ℕ → Option (List Bound)
elements_at bs k = bounds_at bs k >>= as_elements

unfoldable pub all_ends_at : List Bounds → ℕ → Option (List Ends)
all_ends_at bs k = elements_at bs k >>= each as_ends

unfoldable pub all_uppers_at : List Bounds → ℕ → Option (List (List Range))
all_uppers_at bs k = elements_at bs k >>= each as_upper

-- the sets that this many first arguments are
unfoldable pub uppers_before : ℕ → List Bounds → Option (List (List Range))
uppers_before zero bs = Some []
uppers_before (suc n) [] = None
uppers_before (suc n) (b ∷ bs) = as_one b >>= as_upper >>= λ u. uppers_before n bs >>= λ us. Some (u ∷ us)

-- 0 where it is negative
abbrev pub exponent : ℤ → ℕ
exponent (pos n) = n
exponent (negsuc n) = 0

-- an array with the index set 1..n
abbrev pub line_of : List Bound → Bounds
line_of bs = many ((pos 1, pos (length bs)) ∷ []) bs

-- ---- the table. None is given where the value is always par, so that its bounds are the value's, and where the arguments are of no typed tree. A node of type bool that is no option and is neither par, nor a coercion, nor a name has the bounds 0..1, whatever its row says: the type is known where the node is

unfoldable pub scalar_bounds : ScalarRow → List Bounds → Option Bounds
scalar_bounds (Arith op) bs = do
  e ← ends_at bs 0
  f ← ends_at bs 1
  Some (one (number (arith_ends op e f)))
scalar_bounds (Sign op) bs = do
  e ← ends_at bs 0
  Some (one (number (sign_ends op e)))
scalar_bounds Power bs = do
  e ← ends_at bs 0
  k ← ends_at bs 1
  Some (one (number (raised_ends e (exponent k.0))))
scalar_bounds (Fold op) bs = do
  es ← all_ends_at bs 0
  Some (one (number (folded_ends op (fold_start_ends op) es)))
scalar_bounds (Extreme side) bs = do
  es ← all_ends_at bs 0
  Some (one (number (extreme_ends side es)))
scalar_bounds Count bs = do
  ps ← elements_at bs 0
  Some (one (number (count_ends (length ps))))
scalar_bounds Ordinal bs = do
  e ← ends_at bs 0
  Some (one (number e))
scalar_bounds Card bs = do
  u ← upper_at bs 0
  Some (one (number (card_ends u)))
scalar_bounds (Beside side) bs = do
  u ← upper_at bs 0
  Some (one (number (hull_of_set u)))
scalar_bounds (SetExtreme side) bs = None
scalar_bounds Length bs = None
scalar_bounds (Logic op) bs = Some (one (number truth))
scalar_bounds Not bs = Some (one (number truth))
scalar_bounds (Order op) bs = Some (one (number truth))
scalar_bounds Equal bs = Some (one (number truth))
scalar_bounds Unequal bs = Some (one (number truth))
scalar_bounds SetEqual bs = Some (one (number truth))
scalar_bounds SetUnequal bs = Some (one (number truth))
scalar_bounds In bs = Some (one (number truth))
scalar_bounds (Quantified op) bs = Some (one (number truth))
scalar_bounds Clause bs = Some (one (number truth))
scalar_bounds Occurs bs = Some (one (number truth))
scalar_bounds Absent bs = Some (one (number truth))
scalar_bounds Assert bs = Some (one (number truth))

unfoldable pub made_bounds : MadeRow → List Bounds → Option Bounds
made_bounds (SetOf op) bs = do
  u ← upper_at bs 0
  w ← upper_at bs 1
  Some (one (sets [] (combined_upper op u w)))
made_bounds ArrayUnion bs = do
  us ← all_uppers_at bs 0
  Some (one (sets [] (union_of_all us)))
made_bounds ArrayIntersect bs = do
  us ← all_uppers_at bs 0
  Some (one (sets [] (intersection_of_all us)))
made_bounds Subset bs = Some (one (number truth))
made_bounds Superset bs = Some (one (number truth))
made_bounds Line bs = do
  ps ← elements_at bs 0
  Some (line_of ps)
made_bounds (Shaped d) bs = do
  us ← uppers_before d bs
  ps ← elements_at bs d
  Some (many (map index_range us) ps)
made_bounds Concat bs = do
  ps ← elements_at bs 0
  qs ← elements_at bs 1
  Some (line_of (ps ++ qs))
made_bounds Deopt bs = bounds_at bs 0
made_bounds AssertValue bs = bounds_at bs 2
made_bounds AssertArray bs = bounds_at bs 2
made_bounds _ bs = None

abbrev pub row_bounds : Row → List Bounds → Option Bounds
row_bounds (Scalar r) bs = scalar_bounds r bs
row_bounds (Made r) bs = made_bounds r bs
row_bounds _ bs = None

-- ---- rows that read bounds alone, so that they have a value of a var argument, also of an undefined one. A number is given as an integer: the node makes a truth value or a case of it by its type

-- the hull of the elements, none of none
abbrev pub hull_if_any : List Ends → Option Ends
hull_if_any [] = None
hull_if_any (e ∷ es) = Some (hull_from e es)

unfoldable pub lower_of : Bound → Content
lower_of (number e) = int e.0
lower_of (sets l u) = set None l

unfoldable pub upper_of : Bound → Content
upper_of (number e) = int e.1
upper_of (sets l u) = set None u

unfoldable pub value_by_bounds : Row → List Bounds → Option Content
value_by_bounds (Bounding Lb) bs = do
  b ← bounds_at bs 0
  c ← as_one b
  Some (lower_of c)
value_by_bounds (Bounding Ub) bs = do
  b ← bounds_at bs 0
  c ← as_one b
  Some (upper_of c)
value_by_bounds (Bounding Dom) bs = do
  e ← ends_at bs 0
  s ← up_to e.0 e.1
  Some (set None s)
value_by_bounds (Bounding LbArray) bs = do
  es ← all_ends_at bs 0
  e ← hull_if_any es
  Some (int e.0)
value_by_bounds (Bounding UbArray) bs = do
  es ← all_ends_at bs 0
  e ← hull_if_any es
  Some (int e.1)
value_by_bounds (Bounding IsFixed) bs = do
  b ← bounds_at bs 0
  c ← as_one b
  Some (bool (is_settled c))
value_by_bounds (Bounding Fix) bs = do
  b ← bounds_at bs 0
  c ← as_one b
  if is_settled c then Some (upper_of c) else None
value_by_bounds (Scalar Length) bs = do
  ps ← elements_at bs 0
  Some (int (pos (length ps)))
value_by_bounds (Made (IndexSet k d)) bs = do
  b ← bounds_at bs 0
  rs ← as_ranges b
  r ← slice_get rs k
  s ← up_to r.0 r.1
  if nat_eq (length rs) d then Some (set None s) else None
value_by_bounds _ bs = None
