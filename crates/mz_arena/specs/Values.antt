-- The values of terms.
use Rattle.std.specs.Prelude.{ℕ, zero, suc, ℤ, pos, negsuc, List, [], ◌∷◌, Bool, false, not, ◌&&◌, ◌||◌, Option, Some, None, slice_get, if◌then◌else◌}
use Rattle.std.specs.Option.{option_map}
use Rattle.std.specs.Ordering.{int_eq}
use Rattle.mz_value.specs.Ranges.{Range, cardinality}
use Rattle.mz_operations.specs.declared.row.Arith.{Arith as ArithRow}
use Rattle.mz_operations.specs.declared.row.Sign.{Sign as SignRow}
use Rattle.mz_operations.specs.declared.row.SetOp.{SetOp as SetRow}
use Rattle.mz_operations.specs.declared.row.Side.{Side}
use Rattle.mz_operations.specs.Views.{◌>>=◌, number_of_bool}
use Rattle.mz_operations.specs.Sets.{combined, contains}
use Rattle.mz_operations.specs.Numbers.{computed, signed, same, toward}

-- an integer, or a Boolean as 0 or 1; a set; a list of numbers, of sets, or with no element
pub data Val : Type 0 where
  number : ℤ → Val
  set : List Range → Val
  numbers : List ℤ → Val
  sets : List (List Range) → Val
  empty : Val

-- None is undefined
abbrev pub Term : Type 0
Term = Option Val

-- the values of the variables and of the choices, by their ids
pub record Values : Type 0 where
  pub number : ℕ → ℤ
  pub set : ℕ → List Range

abbrev pub as_number : Term → Option ℤ
as_number (Some (number n)) = Some n
as_number _ = None

abbrev pub as_set : Term → Option (List Range)
as_set (Some (set s)) = Some s
as_set _ = None

abbrev pub as_numbers : Term → Option (List ℤ)
as_numbers (Some (numbers ns)) = Some ns
as_numbers (Some empty) = Some []
as_numbers _ = None

abbrev pub as_sets : Term → Option (List (List Range))
as_sets (Some (sets ss)) = Some ss
as_sets (Some empty) = Some []
as_sets _ = None

abbrev pub bit : Bool → Term
bit b = Some (number (number_of_bool b))

-- a Boolean is true where it is 1: an undefined one isn't
abbrev pub is_one : Option ℤ → Bool
is_one None = false
is_one (Some n) = int_eq n (pos 1)

abbrev pub is_true : Term → Bool
is_true x = is_one (as_number x)

-- ---- integers

unfoldable pub arith_term : ArithRow → Term → Term → Term
arith_term op x y = do
  i ← as_number x
  j ← as_number y
  n ← computed op i j
  Some (number n)

unfoldable pub sign_term : SignRow → Term → Term
sign_term op x = do
  i ← as_number x
  Some (number (signed op i))

-- the integer further to a side, of the first and those after it
abbrev pub extreme_number : Side → ℤ → List ℤ → ℤ
extreme_number side acc [] = acc
extreme_number side acc (n ∷ ns) = extreme_number side (toward side acc n) ns

abbrev pub extreme_value : Side → List ℤ → Term
extreme_value side [] = None
extreme_value side (n ∷ ns) = Some (number (extreme_number side n ns))

unfoldable pub extreme_term : Side → Term → Term
extreme_term side x = do
  ns ← as_numbers x
  extreme_value side ns

-- ---- Booleans: where a part of a comparison is undefined, it is false

abbrev pub holds : {A : Type 0} → Option A → Option A → (A → A → Bool) → Bool
holds None y f = false
holds (Some i) None f = false
holds (Some i) (Some j) f = f i j

unfoldable pub comparison_term : (ℤ → ℤ → Bool) → Term → Term → Term
comparison_term f x y = bit (holds (as_number x) (as_number y) f)

unfoldable pub set_comparison_term : (List Range → List Range → Bool) → Term → Term → Term
set_comparison_term f x y = bit (holds (as_set x) (as_set y) f)

abbrev pub is_member : Option ℤ → Option (List Range) → Bool
is_member None s = false
is_member (Some n) None = false
is_member (Some n) (Some s) = contains s n

unfoldable pub member_term : Term → Term → Term
member_term x y = bit (is_member (as_number x) (as_set y))

unfoldable pub and_term : Term → Term → Term
and_term x y = bit (is_true x && is_true y)

unfoldable pub or_term : Term → Term → Term
or_term x y = bit (is_true x || is_true y)

unfoldable pub not_term : Term → Term
not_term x = bit (not (is_true x))

unfoldable pub iff_term : Term → Term → Term
iff_term x y = bit (same (is_true x) (is_true y))

unfoldable pub to_int_term : Term → Term
to_int_term x = bit (is_true x)

-- ---- branches, guards, lists

unfoldable pub if_term : Term → Term → Term → Term
if_term x y z = if is_true x then y else z

unfoldable pub guard_term : Term → Term → Term
guard_term x y = if is_true x then y else None

-- the element at a place, from 1
abbrev pub element_at : {A : Type 0} → List A → ℤ → Option A
element_at xs (pos zero) = None
element_at xs (pos (suc k)) = slice_get xs k
element_at xs (negsuc n) = None

abbrev pub value_at : Val → ℤ → Term
value_at (numbers ns) i = option_map number (element_at ns i)
value_at (sets ss) i = option_map set (element_at ss i)
value_at _ i = None

unfoldable pub access_term : Term → Term → Term
access_term x y = do
  i ← as_number x
  list ← y
  value_at list i

-- a list with an undefined element is undefined
abbrev pub before : Val → Term → Term
before (number n) y = option_map (λ ns. numbers (n ∷ ns)) (as_numbers y)
before (set s) y = option_map (λ ss. sets (s ∷ ss)) (as_sets y)
before _ y = None

unfoldable pub cons_term : Term → Term → Term
cons_term x y = do
  v ← x
  before v y

-- ---- sets

unfoldable pub set_term : SetRow → Term → Term → Term
set_term op x y = do
  s ← as_set x
  t ← as_set y
  Some (set (combined op s t))

unfoldable pub card_term : Term → Term
card_term x = do
  s ← as_set x
  Some (number (pos (cardinality s)))
