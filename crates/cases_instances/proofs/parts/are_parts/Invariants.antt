use Rattle.std.proofs.Common.{map, length}
use Rattle.mz_instance.specs.Instance.{AreParts}
use Rattle.cases_instances.specs.Seen.{part}
use Rattle.cases_instances.proofs.parts.are_parts.Given as goal

abbrev pub invariant-loop-rest : goal.invariant-loop-rest
invariant-loop-rest l = AreParts (map part l.rest) → AreParts (map part l.parts)

abbrev pub decreases-loop-rest : goal.decreases-loop-rest
decreases-loop-rest l = length l.rest
