use Rattle.std.proofs.Common.{◌≡◌, map, drop}
use Rattle.mz_operations.specs.RowBounds.{each}
use Rattle.mz_eval_row_bounds.specs.StepsMade.{set_range, index_set_of}
use Rattle.mz_eval_row_bounds.proofs.Listing.{after}
use Rattle.mz_eval_row_bounds.proofs.made.index_ranges.Given as goal

abbrev pub invariant-loop-s : goal.invariant-loop-s
invariant-loop-s l = after l.ranges.items (each set_range (map index_set_of (drop l.s-index l.sets))) ≡ each set_range (map index_set_of l.sets)
