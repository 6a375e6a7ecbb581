use Rattle.std.proofs.Common.{◌≡◌, ◌≤◌, drop, length}
use Rattle.flat_root.specs.Parts.{turned}
use Rattle.flat_root.proofs.parts.turned.Given as goal

abbrev pub invariant-back : goal.invariant-back
invariant-back l = (l.stack.items ≡ turned (drop l.k l.ids)) × (l.k ≤ length l.ids)

abbrev pub decreases-back : goal.decreases-back
decreases-back l = l.k
