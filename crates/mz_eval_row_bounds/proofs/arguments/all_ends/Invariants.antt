use Rattle.std.proofs.Common.{◌≡◌, map, drop}
use Rattle.mz_operations.specs.RowBounds.{each, as_ends}
use Rattle.mz_eval_cells.specs.Views.{known_bound}
use Rattle.mz_eval_row_bounds.proofs.Listing.{after}
use Rattle.mz_eval_row_bounds.proofs.arguments.all_ends.Given as goal

abbrev pub invariant-loop-b : goal.invariant-loop-b
invariant-loop-b l = after l.ends.items (each as_ends (map known_bound (drop l.b-index l.all))) ≡ each as_ends (map known_bound l.all)
