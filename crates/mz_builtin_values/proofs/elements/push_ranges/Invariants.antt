use Rattle.std.proofs.Common.{◌≡◌, ◌++◌, map, drop}
use Rattle.mz_value.specs.Contents.{content}
use Rattle.mz_value.specs.Shown.{elements}
use Rattle.mz_operations.specs.Arrays.{element_of}
use Rattle.mz_builtin_values.proofs.elements.push_ranges.Given as goal

abbrev pub invariant-loop-r : goal.invariant-loop-r
invariant-loop-r l = map content l.fn.all.items ++ map (element_of l.of) (elements l.ranges) ≡ map content l.all.items ++ map (element_of l.of) (elements (drop l.r-index l.ranges))
