-- Sets as arguments.
use Rattle.std.specs.Prelude.{ℕ, None, Option}
use Rattle.std.specs.Option.{option_map}
use Rattle.mz_value.specs.Contents.{Content}
use Rattle.mz_value.specs.Contents as values
use Rattle.mz_arena.specs.Values.{as_set}
use Rattle.mz_symbol.specs.Readings.{Reading}

-- a set of integers as an argument
abbrev pub set_value : Reading → ℕ → Option Content
set_value r id = option_map (values.set None) (as_set (r.term id))
