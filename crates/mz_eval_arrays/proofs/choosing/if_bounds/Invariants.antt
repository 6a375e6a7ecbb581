use Rattle.std.proofs.Common.{◌≡◌, map, drop}
use Rattle.mz_operations.specs.Bounds.{if_bounds}
use Rattle.mz_eval_cells.specs.Views.{known_bounds}
use Rattle.mz_eval_arrays.proofs.choosing.if_bounds.Given as goal

abbrev pub invariant-loop-b : goal.invariant-loop-b
invariant-loop-b l = if_bounds (known_bounds l.first) (map known_bounds l.rest) ≡ if_bounds (known_bounds l.acc) (map known_bounds (drop l.b-index l.rest))
