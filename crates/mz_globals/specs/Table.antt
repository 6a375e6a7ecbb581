-- The globals, a line each: what a call costs, what it is refused for, and its value.
use Rattle.std.specs.Prelude.{ℕ, ◌+◌, ◌*◌, min, sum, ℤ, pos, List, [], ◌∷◌, map, zip, take, drop, length, Bool, false, Option, Some, None, slice_index_or, unwrap_or, if◌then◌else◌}
use Rattle.std.specs.List.{list_any}
use Rattle.std.specs.Option.{option_or, option_map}
use Rattle.std.specs.Ordering.{int_eq}
use Rattle.mz_base.specs.declared.kind.Kind.TheVariants as kind
use Rattle.mz_value.specs.Ranges.{Range}
use Rattle.mz_value.specs.Contents.{Content, bool, int}
use Rattle.mz_interval.specs.Ends.{Ends}
use Rattle.mz_operations.specs.Views.{◌>>=◌, as_bool, as_int, as_set}
use Rattle.mz_operations.specs.Arguments.{Arguments, int_at, set_at}
use Rattle.mz_operations.specs.Answers.{Answer, Gives, Stops}
use Rattle.mz_operations.specs.Bounds as bounds
use Rattle.mz_operations.specs.Costs.{cost_limit}
use Rattle.mz_globals.specs.declared.global.Global.{Global}
use Rattle.mz_globals.specs.declared.global.Global.TheVariants.{AllDifferent, DifferentButZero, AllEqual, Ordered, Lex, Sort, Precede, Extreme, Member, CountOf, Count, Times, Among, DifferentValues, Cardinality, SlidingSum, Channel, Link, Disjoint, Partition, Cumulative, Disjunctive, DisjunctiveStrict, Diffn, Packing, PackingLoad, Element, Table, Regular, Inverse, Circuit}
use Rattle.mz_globals.specs.declared.checks.Places.{Places}
use Rattle.mz_globals.specs.declared.checks.Cost.{Cost}
use Rattle.mz_globals.specs.declared.checks.Cost.TheVariants.{Elements, Pairs, Steps}
use Rattle.mz_globals.specs.declared.checks.Fit.TheVariants.{Free, Alike, Columns, Automaton}
use Rattle.mz_globals.specs.declared.checks.Sums.TheVariants.{Nothing, Both, Whole, Windows}
use Rattle.mz_globals.specs.declared.checks.Checks.{Checks}
use Rattle.mz_globals.specs.declared.checks.Refusal.{Refusal}
use Rattle.mz_globals.specs.declared.checks.Refusal.TheVariants.{Misfit, Negative, Outside}
use Rattle.mz_globals.specs.Reading.{Placed, Grid, ints_at, sets_at, placed_at, grid_at}
use Rattle.mz_globals.specs.Givens.{Given, Givens, given_at, given_of, givens_at, is_misfit, first_negative, first_outside, sums_in}
use Rattle.mz_globals.specs.Order as order
use Rattle.mz_globals.specs.Counting as counting
use Rattle.mz_globals.specs.Scheduling as scheduling
use Rattle.mz_globals.specs.Graphs as graphs

pub record Line : Type 0 where
  pub checks : Checks
  -- of arguments that aren't refused
  pub value : Arguments → Option Content

-- ---- costs and refusals

abbrev pub from : ℕ → ℕ → Places
from first count = record { first = first; count = count }

abbrev checked : Cost → Checks
checked cost = record { cost = cost; fit = Free; nonnegative = from 0 0; sums = Nothing; more_sums = Nothing }

-- linear in the elements of these arguments, and quadratic
abbrev linear : ℕ → ℕ → Checks
linear first count = checked (Elements (from first count))

abbrev quadratic : ℕ → ℕ → Checks
quadratic first count = checked (Pairs (from first count))

-- ---- values: a truth value is false where an argument is undefined

abbrev pub truth : Option Bool → Option Content
truth b = Some (bool (unwrap_or b false))

abbrev Reading : Type 0 → Type 0
Reading A = Arguments → Option A

abbrev tells : {A : Type 0} → Reading A → (A → Bool) → Reading Content
tells a test args = truth (a args >>= λ x. Some (test x))

abbrev tells_two : {A B : Type 0} → Reading A → Reading B → (A → B → Bool) → Reading Content
tells_two a b test args = truth (a args >>= λ x. b args >>= λ y. Some (test x y))

abbrev tells_three : {A B C : Type 0} → Reading A → Reading B → Reading C → (A → B → C → Bool) → Reading Content
tells_three a b c test args = truth (a args >>= λ x. b args >>= λ y. c args >>= λ z. Some (test x y z))

abbrev tells_four : {A B C D : Type 0} → Reading A → Reading B → Reading C → Reading D → (A → B → C → D → Bool) → Reading Content
tells_four a b c d test args = truth (a args >>= λ x. b args >>= λ y. c args >>= λ z. d args >>= λ w. Some (test x y z w))

abbrev number : ℕ → Reading ℤ
number k args = int_at args k

abbrev set : ℕ → Reading (List Range)
set k args = set_at args k

abbrev numbers : ℕ → Reading (List ℤ)
numbers k args = ints_at args k

abbrev sets : ℕ → Reading (List (List Range))
sets k args = sets_at args k

abbrev array : ℕ → Reading (Placed ℤ)
array k args = placed_at as_int args k

abbrev grid : ℕ → Reading Grid
grid k args = grid_at args k

abbrev array_of_sets : ℕ → Reading (Placed (List Range))
array_of_sets k args = placed_at as_set args k

abbrev booleans : ℕ → Reading (Placed Bool)
booleans k args = placed_at as_bool args k

-- the pairs that stand at one place of two lists
abbrev zipped : ℕ → ℕ → Reading (List (ℤ × ℤ))
zipped j k args = ints_at args j >>= λ xs. ints_at args k >>= λ ys. Some (zip xs ys)

-- tasks with what each uses
abbrev tasks_with_uses : Reading (List (scheduling.Task × ℤ))
tasks_with_uses args = zipped 0 1 args >>= λ ks. ints_at args 2 >>= λ rs. Some (zip ks rs)

-- the extents in x and in y
abbrev boxes : Reading (List (scheduling.Task × scheduling.Task))
boxes args = zipped 0 2 args >>= λ xs. zipped 1 3 args >>= λ ys. Some (zip xs ys)

abbrev automaton : Reading graphs.Automaton
automaton args = int_at args 1 >>= λ q. int_at args 2 >>= λ s. grid_at args 3 >>= λ d. set_at args 5 >>= λ f. Some (record { states = q; letters = s; steps = d.cells; final = f })

-- the function `count` is undefined where an argument is
abbrev counted : Reading Content
counted args = ints_at args 0 >>= λ xs. int_at args 1 >>= λ y. Some (int (pos (order.times y xs)))

-- ---- the table

unfoldable pub line_of : Global → Line
line_of AllDifferent = record { checks = quadratic 0 1; value = tells (numbers 0) order.all_different }
line_of DifferentButZero = record { checks = quadratic 0 1; value = tells (numbers 0) order.different_but_zero }
line_of AllEqual = record { checks = linear 0 1; value = tells (numbers 0) order.all_equal }
line_of (Ordered op) = record { checks = linear 0 1; value = tells (numbers 0) (order.is_ordered op) }
-- lengths may differ
line_of (Lex equal) = record { checks = linear 0 2; value = tells_two (numbers 0) (numbers 1) (order.comes_before equal) }
-- lengths aren't paired
line_of Sort = record { checks = quadratic 0 2; value = tells_two (numbers 0) (numbers 1) order.sorts }
line_of Precede = record { checks = linear 2 1; value = tells_three (number 0) (number 1) (numbers 2) (λ s t xs. order.precedes s t false xs) }
line_of (Extreme side) = record { checks = linear 1 1; value = tells_two (number 0) (numbers 1) (order.is_extreme side) }
line_of Member = record { checks = linear 0 1; value = tells_two (numbers 0) (number 1) (λ xs y. list_any (int_eq y) xs) }
line_of CountOf = record { checks = linear 0 1; value = counted }
line_of Count = record { checks = linear 0 1; value = tells_three (numbers 0) (number 1) (number 2) (λ xs y c. int_eq (pos (order.times y xs)) c) }
line_of (Times relation) = record { checks = linear 1 1; value = tells_three (number 0) (numbers 1) (number 2) (λ n xs v. counting.related relation n (pos (order.times v xs))) }
line_of Among = record { checks = linear 1 1; value = tells_three (number 0) (numbers 1) (set 2) (λ n xs v. int_eq (pos (counting.times_among v xs)) n) }
line_of DifferentValues = record { checks = quadratic 1 1; value = tells_two (number 0) (numbers 1) (λ n xs. int_eq (pos (counting.different_values xs)) n) }
-- the lengths of the cover and of the counts alone are paired
line_of Cardinality = record { checks = record (quadratic 0 3) { fit = Alike (from 1 2) }; value = tells_three (numbers 0) (numbers 1) (numbers 2) counting.are_counts }
line_of SlidingSum = record { checks = record (quadratic 3 1) { nonnegative = from 2 1; sums = Windows 2 3 }; value = tells_four (number 0) (number 1) (number 2) (numbers 3) counting.slides }
line_of Channel = record { checks = quadratic 0 2; value = tells_two (array 0) (array_of_sets 1) counting.channels }
line_of Link = record { checks = linear 1 1; value = tells_two (set 0) (booleans 1) counting.links }
line_of Disjoint = record { checks = quadratic 0 1; value = tells (sets 0) counting.all_disjoint }
line_of Partition = record { checks = quadratic 0 1; value = tells_two (sets 0) (set 1) counting.partitions }
line_of Cumulative = record { checks = record (quadratic 0 3) { fit = Alike (from 0 3); nonnegative = from 1 2; sums = Both 0 1; more_sums = Whole 2 }; value = tells_two tasks_with_uses (number 3) scheduling.is_cumulative }
line_of Disjunctive = record { checks = record (quadratic 0 2) { fit = Alike (from 0 2); nonnegative = from 1 1; sums = Both 0 1 }; value = tells (zipped 0 1) scheduling.is_disjunctive }
line_of DisjunctiveStrict = record { checks = record (quadratic 0 2) { fit = Alike (from 0 2); nonnegative = from 1 1; sums = Both 0 1 }; value = tells (zipped 0 1) scheduling.is_strictly_disjunctive }
line_of Diffn = record { checks = record (quadratic 0 4) { fit = Alike (from 0 4); nonnegative = from 2 2; sums = Both 0 2; more_sums = Both 1 3 }; value = tells boxes scheduling.is_diffn }
line_of Packing = record { checks = record (quadratic 1 2) { fit = Alike (from 1 2); nonnegative = from 2 1; sums = Whole 2 }; value = tells_two (number 0) (zipped 1 2) scheduling.packs }
-- the loads' length isn't paired
line_of PackingLoad = record { checks = record (quadratic 0 3) { fit = Alike (from 1 2); nonnegative = from 2 1; sums = Whole 2 }; value = tells_two (array 0) (zipped 1 2) scheduling.are_loads }
line_of Element = record { checks = linear 1 1; value = tells_three (number 0) (array 1) (number 2) graphs.is_element }
line_of Table = record { checks = record (linear 0 2) { fit = Columns }; value = tells_two (numbers 0) (grid 1) graphs.is_row }
line_of Regular = record { checks = record (checked Steps) { fit = Automaton; nonnegative = from 1 2 }; value = tells_three (numbers 0) automaton (number 4) (λ xs m q. graphs.accepts m q xs) }
-- lengths may differ
line_of Inverse = record { checks = quadratic 0 2; value = tells_two (array 0) (array 1) graphs.are_inverse }
line_of Circuit = record { checks = quadratic 0 1; value = tells (array 0) graphs.is_circuit }

-- ---- what a call costs, from the sizes of its arguments

abbrev pub size_at : List ℕ → ℕ → ℕ
size_at sizes k = slice_index_or sizes k 0

abbrev pub sizes_in : Places → List ℕ → ℕ
sizes_in p sizes = sum (take p.count (drop p.first sizes))

abbrev pub full_cost : Cost → List ℕ → ℕ
full_cost (Elements p) sizes = 1 + sizes_in p sizes
full_cost (Pairs p) sizes = 1 + sizes_in p sizes * sizes_in p sizes
full_cost Steps sizes = 1 + size_at sizes 0 * (1 + size_at sizes 1 * size_at sizes 2)

-- a greater cost than the limit counts as the limit
abbrev pub global_cost : Global → List ℕ → ℕ
global_cost g sizes = min cost_limit (full_cost (line_of g).checks.cost sizes)

-- ---- what a call is refused for, in the order of the tests: arrays that don't fit, then what is negative, then sums in their order

abbrev pub negative_of : Option ℤ → Option Refusal
negative_of n = option_map Negative n

abbrev pub outside_of : Option ℤ → Option Refusal
outside_of n = option_map Outside n

abbrev pub refusal_by : Checks → Givens → Option Refusal
refusal_by c gs =
    if is_misfit c.fit gs
    then Some Misfit
    else option_or (negative_of (first_negative (givens_at c.nonnegative gs))) (outside_of (option_or (first_outside (sums_in c.sums gs)) (first_outside (sums_in c.more_sums gs))))

abbrev pub refusal_of : Global → Givens → Option Refusal
refusal_of g gs = refusal_by (line_of g).checks gs

-- ---- the bounds of a call's value: those of a truth value, or from 0 to the number of elements that are counted

abbrev pub global_ends : Global → Givens → Ends
global_ends CountOf gs = bounds.count_ends (length (given_at gs 0).ends)
global_ends g gs = bounds.truth

-- ---- what a call answers on values

abbrev pub unless_refused : Option Refusal → Option Content → Answer
unless_refused None v = Gives v
unless_refused (Some Misfit) v = Stops kind.IndexMismatch (pos 0)
unless_refused (Some (Negative n)) v = Stops kind.NegativeArgument n
unless_refused (Some (Outside n)) v = Stops kind.Bounds n

abbrev pub global_answer : Global → Arguments → Answer
global_answer g args = unless_refused (refusal_of g (map given_of args)) ((line_of g).value args)
