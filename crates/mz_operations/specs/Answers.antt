-- What a row answers: the first of its faults, or its value.
use Rattle.std.specs.Prelude.{ℕ, length, ℤ, pos, int_lt, Bool, true, false, not, Option, Some, None, unwrap_or, if◌then◌else◌}
use Rattle.mz_base.specs.declared.kind.Kind.{Kind}
use Rattle.mz_base.specs.declared.kind.Kind.TheVariants.{IndexMismatch, NegativeArgument, AssertFailed, Bounds}
use Rattle.mz_value.specs.Contents.{Content, int}
use Rattle.mz_value.specs.Shown.{Names}
use Rattle.mz_interval.specs.Ends.{is_number}
use Rattle.mz_operations.specs.declared.row.ScalarRow.TheVariants.{Power, Assert}
use Rattle.mz_operations.specs.declared.row.MadeRow.TheVariants.{Shaped, AssertValue, AssertArray}
use Rattle.mz_operations.specs.declared.row.Row.{Row}
use Rattle.mz_operations.specs.declared.row.Row.TheVariants.{Scalar, Made}
use Rattle.mz_operations.specs.Views.{◌>>=◌}
use Rattle.mz_operations.specs.Arguments.{Arguments, bool_at, int_at, items_at}
use Rattle.mz_operations.specs.Arrays.{shape, is_shape_of}
use Rattle.mz_operations.specs.Values.{value}

-- a value or Undefined, or a fault with its number
pub data Answer : Type 0 where
  Gives : Option Content → Answer
  Stops : Kind → ℤ → Answer

-- the index sets and the array are defined and don't fit
abbrev pub misfit : ℕ → Arguments → Option Bool
misfit d args = do
  w ← shape d args
  xs ← items_at args d
  Some (not (is_shape_of w (length xs)))

unfoldable pub is_mismatched : Row → Arguments → Bool
is_mismatched (Made (Shaped d)) args = unwrap_or (misfit d args) false
is_mismatched _ args = false

-- an argument that may not be negative and is; the base of a power may be undefined then
unfoldable pub negative : Row → Arguments → Option ℤ
negative (Scalar Power) args = do
  k ← int_at args 1
  if int_lt k (pos 0) then Some k else None
negative _ args = None

-- an `assert` whose condition is false; with an undefined one it is undefined
unfoldable pub is_failed : Row → Arguments → Bool
is_failed (Scalar Assert) args = not (unwrap_or (bool_at args 0) true)
is_failed (Made AssertValue) args = not (unwrap_or (bool_at args 0) true)
is_failed (Made AssertArray) args = not (unwrap_or (bool_at args 0) true)
is_failed _ args = false

-- a computed integer has to lie in the limit
unfoldable pub limited : Option Content → Answer
limited (Some (int n)) = if is_number n then Gives (Some (int n)) else Stops Bounds n
limited v = Gives v

-- the number of a negative argument, or else the answer
abbrev pub unless_negative : Option ℤ → Answer → Answer
unless_negative None a = a
unless_negative (Some n) a = Stops NegativeArgument n

-- the faults are tested in this order
abbrev pub answer : Names → Row → Arguments → Answer
answer names row args =
    if is_mismatched row args
    then Stops IndexMismatch (pos 0)
    else unless_negative (negative row args) (if is_failed row args then Stops AssertFailed (pos 0) else limited (value names row args))
