use Rattle.std.proofs.Common.{◌≡◌, map, drop}
use Rattle.std.specs.Option.{option_map}
use Rattle.mz_operations.specs.Bounds.{intersection_from}
use Rattle.mz_operations.specs.RowBounds.{each, as_upper}
use Rattle.mz_eval_cells.specs.Views.{known_bound}
use Rattle.mz_eval_row_bounds.proofs.uppers.intersection_from.Given as goal

abbrev pub invariant-loop-b : goal.invariant-loop-b
invariant-loop-b l = option_map (intersection_from l.acc) (each as_upper (map known_bound (drop l.b-index l.others))) ≡ option_map (intersection_from l.fn.first) (each as_upper (map known_bound l.others))
