use Rattle.std.proofs.Common.{map, length}
use Rattle.fz_program.specs.Flat.{AreDistinct, array_labels, array_item}
use Rattle.fz_program.proofs.names.are_distinct_arrays.Given as goal

abbrev pub invariant-loop-rest : goal.invariant-loop-rest
invariant-loop-rest l = record {
  to : AreDistinct (array_labels (map array_item l.rest)) → AreDistinct (array_labels (map array_item l.arrays));
  from : AreDistinct (array_labels (map array_item l.arrays)) → AreDistinct (array_labels (map array_item l.rest));
}

abbrev pub decreases-loop-rest : goal.decreases-loop-rest
decreases-loop-rest l = length l.rest
