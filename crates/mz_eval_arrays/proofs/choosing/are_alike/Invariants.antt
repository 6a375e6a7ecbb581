use Rattle.std.proofs.Common.{◌≡◌, map, drop}
use Rattle.std.specs.List.{list_all}
use Rattle.mz_meaning.specs.Arrays.{same_shape}
use Rattle.mz_eval_cells.specs.Views.{known_bounds}
use Rattle.mz_eval_arrays.proofs.choosing.are_alike.Given as goal

abbrev pub invariant-loop-b : goal.invariant-loop-b
invariant-loop-b l = list_all (same_shape (known_bounds l.first)) (map known_bounds l.rest) ≡ list_all (same_shape (known_bounds l.first)) (map known_bounds (drop l.b-index l.rest))
