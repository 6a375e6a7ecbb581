-- What a row costs, from the sizes of its arguments.
use Rattle.std.specs.Prelude.{◌≡◌, refl, ℕ, ◌+◌, ◌^◌, min, drop, sum, List, [], ◌∷◌, Option, Some, None}
use Rattle.mz_operations.specs.declared.row.ScalarRow.{ScalarRow}
use Rattle.mz_operations.specs.declared.row.ScalarRow.TheVariants.{Fold, Extreme, Quantified, Count, Clause, Length, Card, Arith}
use Rattle.mz_operations.specs.declared.row.Arith.TheVariants.{Add}
use Rattle.mz_operations.specs.declared.row.Fold.TheVariants.{Sum}
use Rattle.mz_operations.specs.declared.row.MadeRow.{MadeRow}
use Rattle.mz_operations.specs.declared.row.MadeRow.TheVariants.{IndexSet, Line, Shaped, Concat, SetToArray, ArrayUnion, ArrayIntersect, AssertValue, AssertArray, Join, ConcatTexts}
use Rattle.mz_operations.specs.declared.row.BoundingRow.{BoundingRow}
use Rattle.mz_operations.specs.declared.row.BoundingRow.TheVariants.{LbArray, UbArray}
use Rattle.mz_operations.specs.declared.row.Row.{Row}
use Rattle.mz_operations.specs.declared.row.Row.TheVariants.{Scalar, Made, Bounding, Show, ShowArray}

-- the first argument whose elements count: from there on all arguments are arrays, or it is the set of `set2array`; none where no argument counts
unfoldable pub scalar_counts : ScalarRow → Option ℕ
scalar_counts (Fold op) = Some 0
scalar_counts (Extreme side) = Some 0
scalar_counts (Quantified op) = Some 0
scalar_counts Count = Some 0
scalar_counts Clause = Some 0
scalar_counts Length = Some 0
scalar_counts _ = None

unfoldable pub made_counts : MadeRow → Option ℕ
made_counts (IndexSet k d) = Some 0
made_counts Line = Some 0
made_counts (Shaped d) = Some d
made_counts Concat = Some 0
made_counts SetToArray = Some 0
made_counts ArrayUnion = Some 0
made_counts ArrayIntersect = Some 0
made_counts AssertArray = Some 2
made_counts Join = Some 1
made_counts ConcatTexts = Some 0
made_counts _ = None

unfoldable pub bounding_counts : BoundingRow → Option ℕ
bounding_counts LbArray = Some 0
bounding_counts UbArray = Some 0
bounding_counts _ = None

unfoldable pub counts_from : Row → Option ℕ
counts_from (Scalar r) = scalar_counts r
counts_from (Made r) = made_counts r
counts_from (Bounding r) = bounding_counts r
counts_from Show = None
counts_from ShowArray = Some 0

abbrev pub elements_of : Option ℕ → List ℕ → ℕ
elements_of None sizes = 0
elements_of (Some k) sizes = sum (drop k sizes)

-- the greatest cost
abbrev pub cost_limit : ℕ
cost_limit = 2 ^ 62

-- 1 and the elements of the arrays; `sizes` has the number of elements of each argument that is an array or a set
unfoldable pub cost : Row → List ℕ → ℕ
cost row sizes = min cost_limit (1 + elements_of (counts_from row) sizes)

-- ---- worked examples

two_integers : cost (Scalar (Arith Add)) (5 ∷ 7 ∷ []) ≡ 1
unfolding cost counts_from scalar_counts
two_integers = refl

a_sum_of_three : cost (Scalar (Fold Sum)) (3 ∷ []) ≡ 4
unfolding cost counts_from scalar_counts
a_sum_of_three = refl

a_clause_of_two_arrays : cost (Scalar Clause) (2 ∷ 3 ∷ []) ≡ 6
unfolding cost counts_from scalar_counts
a_clause_of_two_arrays = refl

-- a set's elements don't count
card_of_a_set : cost (Scalar Card) (9 ∷ []) ≡ 1
unfolding cost counts_from scalar_counts
card_of_a_set = refl

-- but those that `set2array` makes do
an_array_of_a_set : cost (Made SetToArray) (9 ∷ []) ≡ 10
unfolding cost counts_from made_counts
an_array_of_a_set = refl

-- the index sets of `array2d` don't count, the elements do
six_elements_in_two_dimensions : cost (Made (Shaped 2)) (2 ∷ 3 ∷ 6 ∷ []) ≡ 7
unfolding cost counts_from made_counts
six_elements_in_two_dimensions = refl

an_assert_of_a_set : cost (Made AssertValue) (0 ∷ 0 ∷ 4 ∷ []) ≡ 1
unfolding cost counts_from made_counts
an_assert_of_a_set = refl

an_assert_of_an_array : cost (Made AssertArray) (0 ∷ 0 ∷ 4 ∷ []) ≡ 5
unfolding cost counts_from made_counts
an_assert_of_an_array = refl

joined_texts : cost (Made Join) (0 ∷ 3 ∷ []) ≡ 4
unfolding cost counts_from made_counts
joined_texts = refl

at_the_limit : cost (Scalar (Fold Sum)) (2 ^ 63 ∷ []) ≡ 2 ^ 62
unfolding cost counts_from scalar_counts
at_the_limit = refl
