use Rattle.std.proofs.Common.{◌≤◌, length}
use Rattle.flat_root.specs.Marks.{ClosesAt}
use Rattle.flat_root.proofs.marks.close.Given as goal

abbrev pub invariant-down : goal.invariant-down
invariant-down l = ClosesAt l.arena l.fn.need l.need l.here × (l.here ≤ length l.arena)

abbrev pub decreases-down : goal.decreases-down
decreases-down l = l.here
