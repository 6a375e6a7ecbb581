-- The bounds of nodes, and with them their sorts.
use Rattle.std.specs.Prelude.{ℕ, zero, suc, ◌-◌, ℤ, pos, negsuc, int_le, List, [], ◌∷◌, drop, take, Bool, true, false, ◌&&◌, Option, Some, None, if◌then◌else◌}
use Rattle.std.specs.Option.{option_map}
use Rattle.std.specs.Ordering.{int_eq}
use Rattle.mz_value.specs.Ranges.{Range}
use Rattle.mz_interval.specs.Ends.{Ends, hull_of, if_in_limit}
use Rattle.mz_operations.specs.declared.row.Arith.{Arith as ArithRow}
use Rattle.mz_operations.specs.declared.row.Arith.TheVariants as arith_row
use Rattle.mz_operations.specs.declared.row.Sign.TheVariants as sign_row
use Rattle.mz_operations.specs.declared.row.SetOp.{SetOp as SetRow}
use Rattle.mz_operations.specs.declared.row.SetOp.TheVariants as set_row
use Rattle.mz_operations.specs.declared.row.Side.{Side}
use Rattle.mz_operations.specs.declared.row.Side.TheVariants.{Least, Greatest}
use Rattle.mz_operations.specs.Views.{◌>>=◌}
use Rattle.mz_operations.specs.Sets.{union}
use Rattle.mz_operations.specs.Bounds as bounds
use Rattle.mz_operations.specs.Bounds.{nothing, arith_ends, sign_ends, extreme_ends, card_ends, hull_of_all, union_of_all, hull_of_set, combined_upper}
use Rattle.mz_arena.specs.declared.node.NodeKind.{NodeKind}
use Rattle.mz_arena.specs.declared.node.NodeKind.TheVariants.{Int, Bool as BoolNode, Var, Local, Add, Mul, Div, Mod, Min, Max, Abs, ToInt, Eq, Ne, Le, Lt, And, Or, Not, Iff, If, Access, Guard, Nil, Cons, SetConst, SetVar, SetLocal, Member, Union, Intersect, Diff, Symdiff, Card, SetEq, Subset}
use Rattle.mz_arena.specs.declared.node.Sort.{Sort}
use Rattle.mz_arena.specs.declared.node.Sort.TheVariants as sort
use Rattle.mz_arena.specs.Entries.{Entry, at, folded, of_one, of_two, of_three}

-- a node's bounds: of an integer, of a Boolean as 0 or 1, the greatest set of a set; of a list of integers or of sets those of each element. Of a list of Booleans nothing is kept, as an access to it has the bounds 0..1
pub data Extent : Type 0 where
  whole : Ends → Extent
  truth : Ends → Extent
  subset : List Range → Extent
  wholes : List Ends → Extent
  truths : Extent
  subsets : List (List Range) → Extent
  empty : Extent

-- None: the node isn't one that an arena may have
abbrev pub Known : Type 0
Known = Option Extent

abbrev pub as_whole : Known → Option Ends
as_whole (Some (whole e)) = Some e
as_whole _ = None

abbrev pub as_truth : Known → Option Ends
as_truth (Some (truth e)) = Some e
as_truth _ = None

abbrev pub as_subset : Known → Option (List Range)
as_subset (Some (subset u)) = Some u
as_subset _ = None

-- a list of integers, of Booleans, of sets: the empty list is each of these
abbrev pub as_wholes : Known → Option (List Ends)
as_wholes (Some (wholes es)) = Some es
as_wholes (Some empty) = Some []
as_wholes _ = None

abbrev pub is_truths : Known → Bool
is_truths (Some truths) = true
is_truths (Some empty) = true
is_truths _ = false

abbrev pub as_subsets : Known → Option (List (List Range))
as_subsets (Some (subsets us)) = Some us
as_subsets (Some empty) = Some []
as_subsets _ = None

-- a number's bounds, in the limit
abbrev pub in_limit : Ends → Known
in_limit e = option_map whole (if_in_limit e)

-- a Boolean that is no constant and no variable
abbrev pub open_truth : Known
open_truth = Some (truth bounds.truth)

abbrev pub is_bit : ℤ → Bool
is_bit n = int_le (pos 0) n && int_le n (pos 1)

-- ---- constants, variables and choices

unfoldable pub bool_extent : ℤ → Known
bool_extent n = if is_bit n then Some (truth (n, n)) else None

abbrev pub both_truths : Ends → Known
both_truths e = if int_eq e.0 (pos 0) && int_eq e.1 (pos 1) then Some (truth e) else None

-- an integer where the mark is 0, and a Boolean, whose domain is {0, 1}, where it is 1
abbrev pub marked : ℕ → Ends → Known
marked zero e = in_limit e
marked (suc zero) e = both_truths e
marked (suc (suc n)) e = None

unfoldable pub variable_extent : ℕ → Known → Known
variable_extent mark x = do
  u ← as_subset x
  marked mark (hull_of_set u)

unfoldable pub set_variable_extent : Known → Known
set_variable_extent x = do
  u ← as_subset x
  Some (subset u)

-- ---- integers

abbrev pub arith_bounds : ArithRow → Option Ends → Option Ends → Option Ends
arith_bounds op x y = x >>= λ e. y >>= λ f. if_in_limit (arith_ends op e f)

abbrev pub arith_extent : ArithRow → Known → Known → Known
arith_extent op x y = option_map whole (arith_bounds op (as_whole x) (as_whole y))

abbrev pub abs_bounds : Option Ends → Option Ends
abs_bounds x = x >>= λ e. if_in_limit (sign_ends sign_row.Abs e)

abbrev pub abs_extent : Known → Known
abs_extent x = option_map whole (abs_bounds (as_whole x))

-- of no element 0..0
abbrev pub extreme_extent : Side → Known → Known
extreme_extent side x = option_map (λ es. whole (extreme_ends side es)) (as_wholes x)

unfoldable pub to_int_extent : Known → Known
to_int_extent x = do
  e ← as_truth x
  Some (whole e)

-- ---- Booleans

unfoldable pub comparison_extent : Known → Known → Known
comparison_extent x y = do
  _e ← as_whole x
  _f ← as_whole y
  open_truth

unfoldable pub connective_extent : Known → Known → Known
connective_extent x y = do
  _e ← as_truth x
  _f ← as_truth y
  open_truth

unfoldable pub not_extent : Known → Known
not_extent x = do
  _e ← as_truth x
  open_truth

unfoldable pub member_extent : Known → Known → Known
member_extent x y = do
  _e ← as_whole x
  _u ← as_subset y
  open_truth

unfoldable pub set_comparison_extent : Known → Known → Known
set_comparison_extent x y = do
  _u ← as_subset x
  _w ← as_subset y
  open_truth

-- ---- branches, guards, lists

-- a node that is no list
abbrev pub as_single : Known → Known
as_single (Some (whole e)) = Some (whole e)
as_single (Some (truth e)) = Some (truth e)
as_single (Some (subset u)) = Some (subset u)
as_single _ = None

-- a list
abbrev pub as_list : Known → Known
as_list (Some (wholes es)) = Some (wholes es)
as_list (Some truths) = Some truths
as_list (Some (subsets us)) = Some (subsets us)
as_list (Some empty) = Some empty
as_list _ = None

abbrev pub branch_extent : Extent → Known → Known
branch_extent (whole e) z = as_whole z >>= λ f. Some (whole (hull_of e f))
branch_extent (truth e) z = as_truth z >>= λ f. open_truth
branch_extent (subset u) z = as_subset z >>= λ w. Some (subset (union u w))
branch_extent _ z = None

unfoldable pub if_extent : Known → Known → Known → Known
if_extent x y z = do
  _c ← as_truth x
  b ← as_single y
  branch_extent b z

abbrev pub guarded_extent : Extent → Known
guarded_extent (whole e) = Some (whole e)
guarded_extent (truth e) = open_truth
guarded_extent (subset u) = Some (subset u)
guarded_extent _ = None

unfoldable pub guard_extent : Known → Known → Known
guard_extent x y = do
  _c ← as_truth x
  b ← as_single y
  guarded_extent b

-- 0 of a negative number
abbrev pub not_negative : ℤ → ℕ
not_negative (pos n) = n
not_negative (negsuc n) = 0

-- how many elements stand before the first place that a number between the ends reaches, where the places are numbered from 1
abbrev pub skipped : Ends → ℕ
skipped e = not_negative e.0 - 1

-- the elements at the places that are reached
abbrev pub reached : {A : Type 0} → Ends → List A → List A
reached e xs = take (not_negative e.1 - skipped e) (drop (skipped e) xs)

abbrev pub element_extent : Ends → Extent → Known
element_extent e (wholes es) = Some (whole (hull_of_all (reached e es)))
element_extent e truths = open_truth
element_extent e (subsets us) = Some (subset (union_of_all (reached e us)))
element_extent e empty = Some (whole nothing)
element_extent e _ = None

unfoldable pub access_extent : Known → Known → Known
access_extent x y = do
  e ← as_whole x
  list ← as_list y
  element_extent e list

abbrev pub before_extent : Extent → Known → Known
before_extent (whole e) y = as_wholes y >>= λ es. Some (wholes (e ∷ es))
before_extent (truth e) y = if is_truths y then Some truths else None
before_extent (subset u) y = as_subsets y >>= λ us. Some (subsets (u ∷ us))
before_extent _ y = None

unfoldable pub cons_extent : Known → Known → Known
cons_extent x y = do
  b ← as_single x
  before_extent b y

-- ---- sets

unfoldable pub set_extent : SetRow → Known → Known → Known
set_extent op x y = do
  u ← as_subset x
  w ← as_subset y
  Some (subset (combined_upper op u w))

abbrev pub card_bounds : Option (List Range) → Option Ends
card_bounds x = x >>= λ u. if_in_limit (card_ends u)

abbrev pub card_extent : Known → Known
card_extent x = option_map whole (card_bounds (as_subset x))

-- ---- the table: a node of a kind, from its children's bounds

abbrev pub kind_extent : Entry → NodeKind → List Known → Known
kind_extent e Int xs = in_limit (e.node.number, e.node.number)
kind_extent e BoolNode xs = bool_extent e.node.number
kind_extent e Var xs = of_one xs (variable_extent e.node.c)
kind_extent e Local xs = of_one xs (variable_extent e.node.c)
kind_extent e Add xs = of_two xs (arith_extent arith_row.Add)
kind_extent e Mul xs = of_two xs (arith_extent arith_row.Mul)
kind_extent e Div xs = of_two xs (arith_extent arith_row.Div)
kind_extent e Mod xs = of_two xs (arith_extent arith_row.Mod)
kind_extent e Min xs = of_one xs (extreme_extent Least)
kind_extent e Max xs = of_one xs (extreme_extent Greatest)
kind_extent e Abs xs = of_one xs abs_extent
kind_extent e ToInt xs = of_one xs to_int_extent
kind_extent e Eq xs = of_two xs comparison_extent
kind_extent e Ne xs = of_two xs comparison_extent
kind_extent e Le xs = of_two xs comparison_extent
kind_extent e Lt xs = of_two xs comparison_extent
kind_extent e And xs = of_two xs connective_extent
kind_extent e Or xs = of_two xs connective_extent
kind_extent e Not xs = of_one xs not_extent
kind_extent e Iff xs = of_two xs connective_extent
kind_extent e If xs = of_three xs if_extent
kind_extent e Access xs = of_two xs access_extent
kind_extent e Guard xs = of_two xs guard_extent
kind_extent e Nil xs = Some empty
kind_extent e Cons xs = of_two xs cons_extent
kind_extent e SetConst xs = Some (subset e.set)
kind_extent e SetVar xs = of_one xs set_variable_extent
kind_extent e SetLocal xs = of_one xs set_variable_extent
kind_extent e Member xs = of_two xs member_extent
kind_extent e Union xs = of_two xs (set_extent set_row.Union)
kind_extent e Intersect xs = of_two xs (set_extent set_row.Intersect)
kind_extent e Diff xs = of_two xs (set_extent set_row.Diff)
kind_extent e Symdiff xs = of_two xs (set_extent set_row.Symdiff)
kind_extent e Card xs = of_one xs card_extent
kind_extent e SetEq xs = of_two xs set_comparison_extent
kind_extent e Subset xs = of_two xs set_comparison_extent

abbrev pub node_extent : Entry → List Known → Known
node_extent e xs = kind_extent e e.node.kind xs

unfoldable pub extents : List Entry → List Known
extents es = folded node_extent [] es

-- the bounds of an id
abbrev pub extent : List Entry → ℕ → Known
extent es id = at (extents es) id

-- the bounds of an operation on the integers that two ids have
abbrev pub arith_at : ArithRow → List Entry → ℕ → ℕ → Option Ends
arith_at op es a b = arith_bounds op (as_whole (extent es a)) (as_whole (extent es b))

-- the interval of an integer or a Boolean
abbrev pub ends_in : Known → Option Ends
ends_in (Some (whole e)) = Some e
ends_in (Some (truth e)) = Some e
ends_in _ = None

abbrev pub sort_of : Known → Option Sort
sort_of (Some (whole e)) = Some sort.Integer
sort_of (Some (truth e)) = Some sort.Boolean
sort_of (Some (subset u)) = Some sort.Set
sort_of (Some (wholes es)) = Some sort.List
sort_of (Some truths) = Some sort.List
sort_of (Some (subsets us)) = Some sort.List
sort_of (Some empty) = Some sort.List
sort_of None = None
