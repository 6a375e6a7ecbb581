-- What the globals of order say of numbers.
use Rattle.std.specs.Prelude.{ℕ, ℤ, pos, int_le, int_lt, nat_eq, List, [], ◌∷◌, ◌++◌, count_by, Bool, true, false, not, ◌&&◌, ◌||◌, Option, Some, None}
use Rattle.std.specs.List.{list_all}
use Rattle.std.specs.Ordering.{int_eq}
use Rattle.mz_operations.specs.declared.row.Comparison.{Comparison}
use Rattle.mz_operations.specs.declared.row.Side.{Side}
use Rattle.mz_operations.specs.Numbers.{ordered}
use Rattle.mz_globals.specs.Lists.{pairwise, stepwise, extreme_of}

abbrev pub differ : ℤ → ℤ → Bool
differ x y = not (int_eq x y)

abbrev pub all_different : List ℤ → Bool
all_different xs = pairwise differ xs

-- equal values are 0
abbrev pub differ_or_zero : ℤ → ℤ → Bool
differ_or_zero x y = differ x y || int_eq x (pos 0)

abbrev pub different_but_zero : List ℤ → Bool
different_but_zero xs = pairwise differ_or_zero xs

-- all are the first one
abbrev pub all_equal : List ℤ → Bool
all_equal [] = true
all_equal (x ∷ xs) = list_all (int_eq x) xs

abbrev pub is_ordered : Comparison → List ℤ → Bool
is_ordered op xs = stepwise (ordered op) xs

-- the first list comes before the second: it is less at the first place where they differ, or a proper prefix; `equal` tells of equal lists
abbrev pub comes_before : Bool → List ℤ → List ℤ → Bool
comes_before equal [] [] = equal
comes_before equal [] (y ∷ ys) = true
comes_before equal (x ∷ xs) [] = false
comes_before equal (x ∷ xs) (y ∷ ys) = int_lt x y || (int_eq x y && comes_before equal xs ys)

-- the number of places with a value
abbrev pub times : ℤ → List ℤ → ℕ
times v xs = count_by (int_eq v) xs

-- both lists have it as often
abbrev pub is_as_often : List ℤ → List ℤ → ℤ → Bool
is_as_often xs ys v = nat_eq (times v xs) (times v ys)

-- the second list is the first one sorted; their lengths aren't paired
abbrev pub sorts : List ℤ → List ℤ → Bool
sorts xs ys = stepwise int_le ys && list_all (is_as_often xs ys) (xs ++ ys)

-- where t is, s was before; `seen`: it was already
abbrev pub precedes : ℤ → ℤ → Bool → List ℤ → Bool
precedes s t seen [] = true
precedes s t seen (x ∷ xs) = (seen || differ t x) && precedes s t (seen || int_eq s x) xs

-- a number that is there is this one
abbrev pub is_number_of : Option ℤ → ℤ → Bool
is_number_of None m = false
is_number_of (Some n) m = int_eq n m

-- m is the least or the greatest value; of no value none is
abbrev pub is_extreme : Side → ℤ → List ℤ → Bool
is_extreme side m xs = is_number_of (extreme_of side xs) m
