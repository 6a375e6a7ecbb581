-- The bounds of values and of operations, in the order of the rules: a number has an interval, a set a least and a greatest set.
use Rattle.std.specs.Prelude.{ℕ, zero, suc, ℤ, pos, neg_ℤ, List, [], ◌∷◌, Bool, true, false, ◌&&◌, unwrap_or, replicate, map, filter, zip, flat_map, if◌then◌else◌}
use Rattle.std.specs.Int.{int_max}
use Rattle.std.specs.Ordering.{int_eq}
use Rattle.mz_value.specs.Ranges.{Range, cardinality, range_of}
use Rattle.mz_value.specs.Contents.{Content, bool, int, case, set, absent, text, array}
use Rattle.mz_value.specs.Shown.{elements}
use Rattle.mz_interval.specs.Ends.{Ends, is_number, hull_of}
use Rattle.mz_interval.specs.Rows.{sum_of, negation_of, product_of, quotient_of, remainder_of}
use Rattle.mz_operations.specs.declared.row.Arith.{Arith}
use Rattle.mz_operations.specs.declared.row.Arith.TheVariants.{Add, Sub, Mul, Div, Mod, Min, Max}
use Rattle.mz_operations.specs.declared.row.Sign.{Sign}
use Rattle.mz_operations.specs.declared.row.Sign.TheVariants.{Plus, Minus, Abs}
use Rattle.mz_operations.specs.declared.row.Fold.{Fold}
use Rattle.mz_operations.specs.declared.row.Fold.TheVariants.{Sum, SumOfOptions, Product}
use Rattle.mz_operations.specs.declared.row.Side.{Side}
use Rattle.mz_operations.specs.declared.row.Side.TheVariants.{Least, Greatest}
use Rattle.mz_operations.specs.declared.row.SetOp.{SetOp}
use Rattle.mz_operations.specs.declared.row.SetOp.TheVariants.{Union, Intersect, Diff, Symdiff}
use Rattle.mz_operations.specs.Views.{number_of_bool, items_in}
use Rattle.mz_operations.specs.Sets.{union, intersection, same_set, is_within, end_of}
use Rattle.mz_operations.specs.Numbers.{toward}

-- the bounds of one value: an integer's, a case's number's, or a truth value's as 0 or 1; the least and the greatest set that a set may be. An option has the bounds of its value
pub data Bound : Type 0 where
  number : Ends → Bound
  sets : List Range → List Range → Bound

-- the bounds of a value, or of an array by its index ranges and its elements
pub data Bounds : Type 0 where
  one : Bound → Bounds
  many : List Range → List Bound → Bounds

-- the bounds where there is no value: of an undefined number, of a fold that needs an element and has none
abbrev pub nothing : Ends
nothing = (pos 0, pos 0)

-- ---- par values: the bounds are the value's

abbrev pub single : ℤ → Bound
single n = number (n, n)

unfoldable pub bound_of : Content → Bound
bound_of (bool b) = single (number_of_bool b)
bound_of (int n) = single n
bound_of (case e k) = single k
bound_of (set e s) = sets s s
bound_of absent = number nothing
bound_of (text t) = number nothing
bound_of (array ix xs) = number nothing

unfoldable pub bounds_of : Content → Bounds
bounds_of (array ix xs) = many ix (map bound_of (items_in xs))
bounds_of x = one (bound_of x)

-- the bounds of an undefined par set, and of an undefined par array of this many dimensions
abbrev pub no_set : Bounds
no_set = one (sets [] [])

abbrev pub no_array : ℕ → Bounds
no_array d = many (replicate d (pos 1, pos 0)) []

-- the bounds are one value
unfoldable pub is_settled : Bound → Bool
is_settled (number e) = int_eq e.0 e.1
is_settled (sets l u) = same_set l u

-- ---- Booleans

abbrev pub truth : Ends
truth = (pos 0, pos 1)

-- ---- arithmetic

-- the least or the greatest of the lower ends and of the upper ends
unfoldable pub toward_ends : Side → Ends → Ends → Ends
toward_ends side e f = (toward side e.0 f.0, toward side e.1 f.1)

unfoldable pub arith_ends : Arith → Ends → Ends → Ends
arith_ends Add e f = sum_of e f
arith_ends Sub e f = sum_of e (negation_of f)
arith_ends Mul e f = product_of e f
arith_ends Div e f = quotient_of e f
arith_ends Mod e f = remainder_of e f
arith_ends Min e f = toward_ends Least e f
arith_ends Max e f = toward_ends Greatest e f

-- the least magnitude: 0 where the bounds hold numbers of both signs
abbrev pub least_magnitude : Ends → ℤ
least_magnitude e = int_max (pos 0) (int_max e.0 (neg_ℤ e.1))

unfoldable pub sign_ends : Sign → Ends → Ends
sign_ends Plus e = e
sign_ends Minus e = negation_of e
sign_ends Abs e = (least_magnitude e, int_max (neg_ℤ e.0) e.1)

unfoldable pub extreme_from : Side → Ends → List Ends → Ends
extreme_from side acc [] = acc
extreme_from side acc (e ∷ es) = extreme_from side (toward_ends side acc e) es

-- `min` and `max` of an array, 0..0 of none
abbrev pub extreme_ends : Side → List Ends → Ends
extreme_ends side [] = nothing
extreme_ends side (e ∷ es) = extreme_from side e es

-- a partial result that has left the limit stays as it is, and counts
abbrev pub within_ends : Ends → Ends → Ends
within_ends acc next = if is_number acc.0 && is_number acc.1 then next else acc

-- one step of a fold: an optional element of a sum is joined with 0
unfoldable pub fold_ends : Fold → Ends → Ends → Ends
fold_ends Sum acc e = within_ends acc (sum_of acc e)
fold_ends SumOfOptions acc e = within_ends acc (sum_of acc (hull_of nothing e))
fold_ends Product acc e = within_ends acc (product_of acc e)

unfoldable pub folded_ends : Fold → Ends → List Ends → Ends
folded_ends op acc [] = acc
folded_ends op acc (e ∷ es) = folded_ends op (fold_ends op acc e) es

abbrev pub fold_start_ends : Fold → Ends
fold_start_ends Sum = (pos 0, pos 0)
fold_start_ends SumOfOptions = (pos 0, pos 0)
fold_start_ends Product = (pos 1, pos 1)

unfoldable pub raised_ends : Ends → ℕ → Ends
raised_ends e zero = (pos 1, pos 1)
raised_ends e (suc n) = fold_ends Product (raised_ends e n) e

-- ---- counts

-- of this many elements
abbrev pub count_ends : ℕ → Ends
count_ends n = (pos 0, pos n)

-- of a set that lies in u
abbrev pub card_ends : List Range → Ends
card_ends u = (pos 0, pos (cardinality u))

-- ---- accesses and branches

abbrev pub hull_from : Ends → List Ends → Ends
hull_from acc [] = acc
hull_from acc (e ∷ es) = hull_from (hull_of acc e) es

-- the hull over places or branches, 0..0 of none
abbrev pub hull_of_all : List Ends → Ends
hull_of_all [] = nothing
hull_of_all (e ∷ es) = hull_from e es

-- the union over places or branches
unfoldable pub union_from : List Range → List (List Range) → List Range
union_from acc [] = acc
union_from acc (u ∷ us) = union_from (union acc u) us

abbrev pub union_of_all : List (List Range) → List Range
union_of_all us = union_from [] us

-- the tuples of indices of these ranges, in row order
unfoldable pub index_tuples : List Range → List (List ℤ)
index_tuples [] = [] ∷ []
index_tuples (r ∷ rs) = flat_map (λ i. map (λ is. i ∷ is) (index_tuples rs)) (elements (range_of r.0 r.1))

-- each index lies in its bounds
unfoldable pub is_reached : List Ends → List ℤ → Bool
is_reached [] [] = true
is_reached (e ∷ es) (i ∷ is) = is_within e i && is_reached es is
is_reached [] (i ∷ is) = false
is_reached (e ∷ es) [] = false

-- the elements at the places that indices of these bounds reach
unfoldable pub reached : {A : Type 0} → List Range → List Ends → List A → List A
reached ranges indices xs = map (λ p. p.1) (filter (λ p. is_reached indices p.0) (zip (index_tuples ranges) xs))

-- an access to an array of numbers, and of sets (their greatest sets)
abbrev pub access_ends : List Range → List Ends → List Ends → Ends
access_ends ranges indices es = hull_of_all (reached ranges indices es)

abbrev pub access_upper : List Range → List Ends → List (List Range) → List Range
access_upper ranges indices us = union_of_all (reached ranges indices us)

-- two branches of an `if`, element by element
unfoldable pub branch_bound : Bound → Bound → Bound
branch_bound (number e) (number f) = number (hull_of e f)
branch_bound (sets l u) (sets m v) = sets [] (union u v)
branch_bound b c = b

-- of a set nothing is sure under a condition
abbrev pub opened : Bound → Bound
opened (number e) = number e
opened (sets l u) = sets [] u

unfoldable pub branch_bounds : Bounds → Bounds → Bounds
branch_bounds (one b) (one c) = one (branch_bound b c)
branch_bounds (many ix bs) (many jx cs) = many ix (map (λ p. branch_bound p.0 p.1) (zip bs cs))
branch_bounds b c = b

abbrev pub first_branch : Bounds → Bounds
first_branch (one b) = one (opened b)
first_branch (many ix bs) = many ix (map opened bs)

-- the branches after the first one
unfoldable pub if_bounds : Bounds → List Bounds → Bounds
if_bounds acc [] = first_branch acc
if_bounds acc (b ∷ bs) = if_bounds (branch_bounds acc b) bs

-- ---- enums, sets, variables

-- from the least to the greatest element, 0..0 of the empty set: of `enum_next` and `enum_prev`, and of a variable with this domain
abbrev pub hull_of_set : List Range → Ends
hull_of_set s = (unwrap_or (end_of Least s) (pos 0), unwrap_or (end_of Greatest s) (pos 0))

-- the greatest set that the operation gives; the least one is the empty set
unfoldable pub combined_upper : SetOp → List Range → List Range → List Range
combined_upper Union a b = union a b
combined_upper Intersect a b = intersection a b
combined_upper Diff a b = a
combined_upper Symdiff a b = union a b

unfoldable pub intersection_from : List Range → List (List Range) → List Range
intersection_from acc [] = acc
intersection_from acc (u ∷ us) = intersection_from (intersection acc u) us

-- `array_intersect`, the empty set of none
abbrev pub intersection_of_all : List (List Range) → List Range
intersection_of_all [] = []
intersection_of_all (u ∷ us) = intersection_from u us
