use Rattle.std.proofs.Common.{◌≡◌, ◌≤◌, ◌-◌}
use Rattle.mz_operations.specs.Arrays.{shape, shape_from}
use Rattle.mz_builtin_values.specs.Shapes.{shape_of}
use Rattle.mz_eval_row_cells.specs.Steps.{all_known}
use Rattle.mz_eval_row_cells.proofs.faults.shape.Given as goal

abbrev pub invariant-loop-k : goal.invariant-loop-k
invariant-loop-k l = (l.k ≤ l.d) × (shape_from (l.d - l.k) l.k (all_known l.cells) (shape_of l.w) ≡ shape l.d (all_known l.cells))

abbrev pub decreases-loop-k : goal.decreases-loop-k
decreases-loop-k l = l.d - l.k
