-- What `apply_row` answers.
use Rattle.std.specs.Prelude.{◌≡◌, Bool, true, false, Option, Result, Ok, Err, is_some, if◌then◌else◌}
use Rattle.std.specs.Option.{option_map}
use Rattle.mz_base.specs.declared.fault.Span.{Span}
use Rattle.mz_base.specs.declared.stop.Stop.{Stop}
use Rattle.mz_base.specs.declared.stop.Stop.TheVariants.{Refused, Memory}
use Rattle.mz_value.specs.declared.value.Value.{Value}
use Rattle.mz_value.specs.Contents.{content}
use Rattle.mz_operations.specs.declared.row.Row.{Row}
use Rattle.mz_operations.specs.declared.row.Row.TheVariants.{Scalar, Show, ShowArray}
use Rattle.mz_operations.specs.declared.row.ScalarRow.TheVariants.{Equal, Unequal, SetEqual, SetUnequal}
use Rattle.mz_operations.specs.Arguments.{Arguments, set_at}
use Rattle.mz_operations.specs.Answers.{Answer, Gives, Stops, is_failed}

-- `=` and `!=` of sets are rows of their own, told by the first argument
unfoldable pub read_as : Row → Arguments → Row
read_as (Scalar Equal) args = if is_some (set_at args 0) then Scalar SetEqual else Scalar Equal
read_as (Scalar Unequal) args = if is_some (set_at args 0) then Scalar SetUnequal else Scalar Unequal
read_as row args = row

-- rows but `show`
unfoldable pub is_applied : Row → Bool
is_applied Show = false
is_applied ShowArray = false
is_applied row = true

-- a row that is no `show`, and no `assert` whose condition is false
pub record IsApplied (row : Row) (args : Arguments) : Type 0 where
  pub applied : is_applied row ≡ true
  pub holds : is_failed row args ≡ false

-- a result that is an answer of the definitions, at a place
abbrev pub Answers : Result (Option Value) Stop → Span → Answer → Type 0
Answers (Ok v) at a = a ≡ Gives (option_map content v)
Answers (Err (Refused f)) at a = (a ≡ Stops f.kind f.number) × (f.span ≡ at)
Answers (Err Memory) at a = Unit {0}
