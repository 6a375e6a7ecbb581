-- What the code's arrays stand for.
use Rattle.std.specs.Prelude.{ℕ, List, map, zip, Option, Some, Vec, Bool, ℤ}
use Rattle.std.specs.Borrow.{Bor}
use Rattle.std.specs.Global.{Global}
use Rattle.std.specs.Option.{option_map}
use Rattle.mz_value.specs.Ranges.{Range}
use Rattle.mz_operations.specs.Views.{◌>>=◌}
use Rattle.mz_operations.specs.Arguments.{Arguments}
use Rattle.mz_globals.specs.Reading.{Placed, Grid, ints_at}
use Rattle.mz_globals.specs.Scheduling.{Task}
use Rattle.glob_order.specs.declared.of_values.reading.PlacedNumbers.{PlacedNumbers}
use Rattle.glob_order.specs.declared.of_values.reading.PlacedSets.{PlacedSets}
use Rattle.glob_order.specs.declared.of_values.reading.PlacedBooleans.{PlacedBooleans}
use Rattle.glob_order.specs.declared.of_values.reading.Grid as code

-- the elements of a list that may not be there
abbrev pub listed : {A : Type 0} → Option (Vec A Global) → Option (List A)
listed o = option_map (λ v. v.items) o

-- and where they are sets that are lent
abbrev pub set_list : Option (Vec (Bor (List Range)) Global) → Option (List (List Range))
set_list o = option_map (λ v. map (λ s. s.now) v.items) o

abbrev pub numbers_of : PlacedNumbers → Placed ℤ
numbers_of p = record { indices = p.indices; items = p.items.items }

abbrev pub sets_of : PlacedSets → Placed (List Range)
sets_of p = record { indices = p.indices; items = map (λ s. s.now) p.items.items }

abbrev pub booleans_of : PlacedBooleans → Placed Bool
booleans_of p = record { indices = p.indices; items = p.items.items }

abbrev pub grid_of : code.Grid → Grid
grid_of g = record { rows = g.rows; cells = g.cells.items }

-- ---- what is read of several arguments

abbrev pub pairs_at : Arguments → ℕ → ℕ → Option (List (ℤ × ℤ))
pairs_at args j k = ints_at args j >>= λ xs. ints_at args k >>= λ ys. Some (zip xs ys)

abbrev pub tasks_at : Arguments → Option (List (Task × ℤ))
tasks_at args = pairs_at args 0 1 >>= λ ks. ints_at args 2 >>= λ rs. Some (zip ks rs)

abbrev pub boxes_at : Arguments → Option (List (Task × Task))
boxes_at args = pairs_at args 0 2 >>= λ xs. pairs_at args 1 3 >>= λ ys. Some (zip xs ys)
