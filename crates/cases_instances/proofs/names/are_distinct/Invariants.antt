use Rattle.std.proofs.Common.{map, length, string_bytes}
use Rattle.fz_program.specs.Flat.{AreDistinct}
use Rattle.cases_instances.proofs.names.are_distinct.Given as goal

abbrev pub invariant-texts : goal.invariant-texts
invariant-texts l = AreDistinct (map string_bytes l.rest) → AreDistinct (map string_bytes l.fn.texts)

abbrev pub decreases-texts : goal.decreases-texts
decreases-texts l = length l.rest
