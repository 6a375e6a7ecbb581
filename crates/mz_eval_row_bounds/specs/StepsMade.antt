-- Mirror of src/made.rt; private clauses only.
use Rattle.std.specs.Prelude.{List, [], Option, Some}
use Rattle.std.specs.Option.{option_map}
use Rattle.mz_value.specs.Ranges.{Range}
use Rattle.mz_operations.specs.Arrays.{index_range}
use Rattle.mz_operations.specs.Bounds.{Bound, Bounds}
use Rattle.mz_operations.specs.Bounds as bounds
use Rattle.mz_operations.specs.RowBounds.{as_upper}
use Rattle.mz_operations.specs.Views.{◌>>=◌}
use Rattle.mz_meaning.specs.Cells.{scalar_bound}
use Rattle.mz_meaning.specs.Operations.{index_set_bounds}
use Rattle.mz_eval_cells.specs.declared.types.Known.{Known}
use Rattle.mz_eval_cells.specs.Views.{cell_of}

-- what an index set has at most, as a range
abbrev pub set_range : Bound → Option Range
set_range b = option_map index_range (as_upper b)

abbrev pub index_set_of : Known → Bound
index_set_of k = scalar_bound (index_set_bounds (cell_of k))

-- nothing is sure of a set
abbrev pub at_most : List Range → Bounds
at_most u = bounds.one (bounds.sets [] u)

abbrev pub shaped_of : Option (List Range) → Option (List Bound) → Option Bounds
shaped_of rs ps = rs >>= λ ix. ps >>= λ bs. Some (bounds.many ix bs)
