use Rattle.std.proofs.Common.{◌≤◌, ◌-◌}
use Rattle.flat_reif.specs.States.{state}
use Rattle.flat_reif.specs.Below.{FlattenedBelow}
use Rattle.flat_reif.proofs.flat.Flat.flatten_below.Given as goal

abbrev pub invariant-ids : goal.invariant-ids
invariant-ids l = FlattenedBelow (state l.fn.self) (state l.self) l.need l.here × (l.here ≤ l.upto)

abbrev pub decreases-ids : goal.decreases-ids
decreases-ids l = l.upto - l.here
