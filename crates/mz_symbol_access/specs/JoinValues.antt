-- What two var arrays, one after the other, are asked to give.
use Rattle.std.specs.Prelude.{ℕ, List, ◌++◌, Option, Some, None}
use Rattle.mz_value.specs.Contents.{Content}
use Rattle.mz_symbol.specs.Readings.{Reading}

-- where both are there
abbrev pub joined_values : Option (List Content) → Option (List Content) → Option (List Content)
joined_values None o = None
joined_values (Some xs) None = None
joined_values (Some xs) (Some ys) = Some (xs ++ ys)

-- of the arrays with these numbers
abbrev pub joined_line : Reading → ℕ → ℕ → Option (List Content)
joined_line r x y = joined_values (r.line x) (r.line y)
