-- What a row's inputs give.
use Rattle.std.specs.Prelude.{◌-ℤ◌, List, Bool, true, false, ◌||◌, Option, Some}
use Rattle.fz_program.specs.declared.row_name.RowName.{RowName}
use Rattle.fz_program.specs.Values.{Value, number, ArgumentValue, number_at}
use Rattle.fz_program.specs.Table.{Meaning, tests, gives, line, result_of, sum_at}
use Rattle.fz_build.specs.Inputs.{is_sum}

abbrev pub is_giving : Meaning → Bool
is_giving (tests test) = false
is_giving (gives result) = true

-- a row with a result
abbrev pub has_result : RowName → Bool
has_result name = is_sum name || is_giving (line name).meaning

-- of a sum, what it passes its constant by
abbrev pub result_by : Bool → Meaning → List ArgumentValue → Option Value
result_by true m xs = Some (number (sum_at xs -ℤ number_at xs 2))
result_by false m xs = result_of m xs

abbrev pub result_given : RowName → List ArgumentValue → Option Value
result_given name xs = result_by (is_sum name) (line name).meaning xs
