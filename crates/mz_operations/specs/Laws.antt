-- Values in bounds give a value in bounds, and all numbers have one limit.
use Rattle.std.specs.Prelude.{◌≡◌, ℕ, length, ℤ, pos, List, [], ◌∷◌, ◌&&◌, true, false, Some, None, slice_get}
use Rattle.mz_base.specs.declared.limit.TheConstants.{INTEGER_LIMIT}
use Rattle.mz_value.specs.Ranges.{Range, AreCanonical, AreInLimit, Has, cardinality, least, greatest}
use Rattle.mz_value.specs.Contents.{Content}
use Rattle.mz_interval.specs.Ends.{Ends, Encloses, is_number, least_number, greatest_number}
use Rattle.mz_operations.specs.declared.row.Arith.{Arith}
use Rattle.mz_operations.specs.declared.row.Sign.{Sign}
use Rattle.mz_operations.specs.declared.row.Fold.{Fold}
use Rattle.mz_operations.specs.declared.row.Side.{Side}
use Rattle.mz_operations.specs.declared.row.SetOp.{SetOp}
use Rattle.mz_operations.specs.Views.{as_int, as_set}
use Rattle.mz_operations.specs.Sets.{union, combined, contains}
use Rattle.mz_operations.specs.Numbers.{computed, signed, folded, fold_start, raised, nearer, beside, counted}
use Rattle.mz_operations.specs.Arrays.{fold_from, summand, truth_or}
use Rattle.mz_operations.specs.Values.{common_so_far}
use Rattle.mz_operations.specs.Bounds.{arith_ends, sign_ends, extreme_ends, folded_ends, fold_start_ends, raised_ends, count_ends, card_ends, hull_of_all, union_of_all, hull_of_set, combined_upper, intersection_of_all}

-- both ends lie in the limit
abbrev pub IsLimited : Ends → Type 0
IsLimited e = (is_number e.0 && is_number e.1) ≡ true

-- an element's number, where it is one, lies in its bounds
pub record LiesIn (e : Ends) (x : Content) : Type 0 where
  pub inside : (n : ℤ) → as_int x ≡ Some n → Encloses e n

-- element by element
abbrev pub AllLieIn : List Ends → List Content → Type 0
AllLieIn [] [] = Unit {0}
AllLieIn (e ∷ es) (x ∷ xs) = LiesIn e x × AllLieIn es xs
AllLieIn [] (x ∷ xs) = ⊥
AllLieIn (e ∷ es) [] = ⊥

-- a list of ranges is that of a set of integers in the limit
abbrev pub IsSet : List Range → Type 0
IsSet s = AreCanonical s × AreInLimit s

-- u has what s has
pub record IsPart (s u : List Range) : Type 0 where
  pub inside : (x : ℤ) → Has s x → Has u x

-- an element, where it is a set, lies in u
pub record LiesWithin (u : List Range) (x : Content) : Type 0 where
  pub upper : IsSet u
  pub set : (s : List Range) → as_set x ≡ Some s → IsSet s
  pub part : (s : List Range) → as_set x ≡ Some s → IsPart s u

abbrev pub AllLieWithin : List (List Range) → List Content → Type 0
AllLieWithin [] [] = Unit {0}
AllLieWithin (u ∷ us) (x ∷ xs) = LiesWithin u x × AllLieWithin us xs
AllLieWithin [] (x ∷ xs) = ⊥
AllLieWithin (u ∷ us) [] = ⊥

abbrev pub AreSets : List (List Range) → Type 0
AreSets [] = Unit {0}
AreSets (u ∷ us) = IsSet u × AreSets us

-- ---- the laws

abbrev pub ArithEncloses : Type 0
ArithEncloses = (op : Arith) (e f : Ends) (x y n : ℤ) → Encloses e x → Encloses f y → computed op x y ≡ Some n → Encloses (arith_ends op e f) n

abbrev pub SignEncloses : Type 0
SignEncloses = (op : Sign) (e : Ends) (x : ℤ) → Encloses e x → Encloses (sign_ends op e) (signed op x)

-- bounds that left the limit are refused, and say nothing of the value
abbrev pub FoldEncloses : Type 0
FoldEncloses = (op : Fold) (es : List Ends) (xs : List Content) (n : ℤ) → AllLieIn es xs → IsLimited (folded_ends op (fold_start_ends op) es) → fold_from (summand op) (folded op) (fold_start op) xs ≡ Some n → Encloses (folded_ends op (fold_start_ends op) es) n

abbrev pub PowerEncloses : Type 0
PowerEncloses = (e : Ends) (x : ℤ) (k : ℕ) → Encloses e x → IsLimited (raised_ends e k) → Encloses (raised_ends e k) (raised x k)

abbrev pub ExtremeEncloses : Type 0
ExtremeEncloses = (side : Side) (es : List Ends) (xs : List Content) (n : ℤ) → AllLieIn es xs → fold_from as_int (nearer side) None xs ≡ Some (Some n) → Encloses (extreme_ends side es) n

abbrev pub CountEncloses : Type 0
CountEncloses = (xs : List Content) (n : ℕ) → fold_from (truth_or false) counted 0 xs ≡ Some n → Encloses (count_ends (length xs)) (pos n)

abbrev pub CardEncloses : Type 0
CardEncloses = (s u : List Range) → AreCanonical s → AreCanonical u → IsPart s u → Encloses (card_ends u) (pos (cardinality s))

-- a place that is reached, or a branch
abbrev pub HullEncloses : Type 0
HullEncloses = (es : List Ends) (k : ℕ) (e : Ends) (x : ℤ) → slice_get es k ≡ Some e → Encloses e x → Encloses (hull_of_all es) x

abbrev pub UnionEncloses : Type 0
UnionEncloses = (us : List (List Range)) (k : ℕ) (u : List Range) → AreSets us → slice_get us k ≡ Some u → IsPart u (union_of_all us)

-- a case beside another, where the set has it; a variable's value, where its domain is u
abbrev pub BesideEncloses : Type 0
BesideEncloses = (side : Side) (s u : List Range) (k : ℤ) → AreCanonical u → IsPart s u → contains s (beside side k) ≡ true → Encloses (hull_of_set u) (beside side k)

abbrev pub SetEncloses : Type 0
SetEncloses = (op : SetOp) (s t u w : List Range) → IsSet s → IsSet t → IsSet u → IsSet w → IsPart s u → IsPart t w → IsPart (combined op s t) (combined_upper op u w)

abbrev pub ArrayUnionEncloses : Type 0
ArrayUnionEncloses = (us : List (List Range)) (xs : List Content) (s : List Range) → AllLieWithin us xs → fold_from as_set union [] xs ≡ Some s → IsPart s (union_of_all us)

abbrev pub ArrayIntersectEncloses : Type 0
ArrayIntersectEncloses = (us : List (List Range)) (xs : List Content) (s : List Range) → AllLieWithin us xs → fold_from as_set common_so_far None xs ≡ Some (Some s) → IsPart s (intersection_of_all us)

-- the limit of literals, of sets and of bounds
pub record HaveOneLimit : Type 0 where
  pub of_literals : INTEGER_LIMIT ≡ greatest_number
  pub of_sets : greatest ≡ greatest_number
  pub of_sets_below : least ≡ least_number
