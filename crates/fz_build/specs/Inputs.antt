-- The inputs of rows that give a result.
use Rattle.std.specs.Prelude.{ℕ, List, [], slice_get, Bool, true, false, Option, Some, None}
use Rattle.fz_program.specs.declared.row_name.RowName.{RowName}
use Rattle.fz_program.specs.declared.row_name.RowName.TheVariants.{IntLinEq}
use Rattle.fz_program.specs.Arguments.{Plain, Argument, one, array}

-- the row in which the result is a term of the sum, and not the last argument
unfoldable pub is_sum : RowName → Bool
is_sum IntLinEq = true
is_sum _ = false

-- the input at a place, from 0
abbrev pub argument_in : Option Argument → Argument
argument_in None = array []
argument_in (Some a) = a

abbrev pub argument_at : List Argument → ℕ → Argument
argument_at xs k = argument_in (slice_get xs k)

abbrev pub elements_in : Argument → List Plain
elements_in (one p) = []
elements_in (array ps) = ps

abbrev pub elements_at : List Argument → ℕ → List Plain
elements_at xs k = elements_in (argument_at xs k)
