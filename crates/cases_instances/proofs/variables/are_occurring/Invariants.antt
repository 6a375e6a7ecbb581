use Rattle.std.proofs.Common.{map, length}
use Rattle.mz_arena.specs.Instances.{var_cell}
use Rattle.mz_instance.specs.Instance.{AreOccurring}
use Rattle.cases_instances.proofs.variables.are_occurring.Given as goal

abbrev pub invariant-loop-rest : goal.invariant-loop-rest
invariant-loop-rest l = AreOccurring l.opt (map var_cell l.rest) → AreOccurring l.opt (map var_cell l.cells)

abbrev pub decreases-loop-rest : goal.decreases-loop-rest
decreases-loop-rest l = length l.rest
