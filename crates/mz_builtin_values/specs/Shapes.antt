-- What the code's index sets stand for.
use Rattle.std.specs.Prelude.{ℕ, ◌^◌}
use Rattle.mz_operations.specs.Arrays as arrays
use Rattle.mz_builtin_values.specs.declared.building.IndexShape.{IndexShape}

abbrev pub shape_of : IndexShape → arrays.IndexShape
shape_of w = record { contiguous = w.contiguous; ranges = w.ranges.items }

-- more places than an array has; that many are told apart
abbrev pub cap : ℕ
cap = 2 ^ 63
