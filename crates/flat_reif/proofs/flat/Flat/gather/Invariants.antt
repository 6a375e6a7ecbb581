use Rattle.fz_program.specs.Arguments.{plains}
use Rattle.flat_reif.specs.States.{state}
use Rattle.flat_reif.proofs.Gathering.{GatheredSoFar}
use Rattle.flat_reif.proofs.flat.Flat.gather.Given as goal

abbrev pub invariant-down : goal.invariant-down
invariant-down l = GatheredSoFar (state l.self) l.list l.here (plains l.items.items)

abbrev pub decreases-down : goal.decreases-down
decreases-down l = l.here
