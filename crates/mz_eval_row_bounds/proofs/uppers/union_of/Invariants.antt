use Rattle.std.proofs.Common.{◌≡◌, map, drop}
use Rattle.std.specs.Option.{option_map}
use Rattle.mz_operations.specs.Bounds.{union_of_all, union_from}
use Rattle.mz_operations.specs.RowBounds.{each, as_upper}
use Rattle.mz_eval_cells.specs.Views.{known_bound}
use Rattle.mz_eval_row_bounds.proofs.uppers.union_of.Given as goal

abbrev pub invariant-loop-b : goal.invariant-loop-b
invariant-loop-b l = option_map (union_from l.acc) (each as_upper (map known_bound (drop l.b-index l.all))) ≡ option_map union_of_all (each as_upper (map known_bound l.all))
