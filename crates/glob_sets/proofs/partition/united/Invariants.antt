use Rattle.std.proofs.Common.{◌-◌, length}
use Rattle.glob_sets.specs.Senses.{UnitedSoFar}
use Rattle.glob_sets.proofs.partition.united.Given as goal

abbrev pub invariant-each : goal.invariant-each
invariant-each l = UnitedSoFar l.fn.run l.run l.fn.none l.sets l.k l.acc

abbrev pub decreases-each : goal.decreases-each
decreases-each l = length l.sets - l.k
