use Rattle.std.proofs.Common.{◌≡◌, ◌++◌, map}
use Rattle.std.specs.Prelude.{nat_abs, ◌-ℤ◌, ◌≤ℤ◌}
use Rattle.mz_value.specs.Contents.{content}
use Rattle.mz_value.specs.Shown.{range_elements}
use Rattle.mz_operations.specs.Arrays.{element_of}
use Rattle.mz_builtin_values.proofs.Numbered.{above}
use Rattle.mz_builtin_values.proofs.elements.push_range.Given as goal

abbrev pub invariant-loop-n : goal.invariant-loop-n
invariant-loop-n l = (l.n ≤ℤ l.r.1) × (map content l.all.items ++ map (element_of l.of) (above l.n l.r.1) ≡ map content l.fn.all.items ++ map (element_of l.of) (range_elements l.r))

abbrev pub decreases-loop-n : goal.decreases-loop-n
decreases-loop-n l = nat_abs (l.r.1 -ℤ l.n)
