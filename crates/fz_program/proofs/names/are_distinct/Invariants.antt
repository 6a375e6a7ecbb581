use Rattle.std.proofs.Common.{map, length, ◌++◌}
use Rattle.fz_program.specs.Flat.{AreDistinct, labels_of, variable, array_labels, array_item}
use Rattle.fz_program.proofs.names.are_distinct.Given as goal

abbrev pub invariant-loop-rest : goal.invariant-loop-rest
invariant-loop-rest l = record {
  to : AreDistinct (labels_of (map variable l.rest) ++ array_labels (map array_item l.arrays)) → AreDistinct (labels_of (map variable l.vars) ++ array_labels (map array_item l.arrays));
  from : AreDistinct (labels_of (map variable l.vars) ++ array_labels (map array_item l.arrays)) → AreDistinct (labels_of (map variable l.rest) ++ array_labels (map array_item l.arrays));
}

abbrev pub decreases-loop-rest : goal.decreases-loop-rest
decreases-loop-rest l = length l.rest
