use Rattle.std.proofs.Common.{◌≡◌, ◌≤◌, ◌-◌}
use Rattle.mz_operations.specs.Arguments.{arguments}
use Rattle.mz_operations.specs.Arrays.{shape, shape_from}
use Rattle.mz_builtin_values.specs.Shapes.{shape_of}
use Rattle.mz_builtin_values.proofs.index.shape.Given as goal

abbrev pub invariant-loop-k : goal.invariant-loop-k
invariant-loop-k l = (l.k ≤ l.d) × (shape_from (l.d - l.k) l.k (arguments l.args) (shape_of l.w) ≡ shape l.d (arguments l.args))

abbrev pub decreases-loop-k : goal.decreases-loop-k
decreases-loop-k l = l.d - l.k
