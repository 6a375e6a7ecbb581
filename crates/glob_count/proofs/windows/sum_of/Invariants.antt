use Rattle.std.proofs.Common.{◌*◌, ◌-◌, ◌≤◌, length, drop}
use Rattle.glob_count.specs.Windows.{SumOnward}
use Rattle.glob_count.proofs.windows.sum_of.Given as goal

abbrev pub invariant-loop-k : goal.invariant-loop-k
invariant-loop-k l = SumOnward (4 * l.k) l.fn.run l.run l.ids (drop l.k l.ids) l.acc × (l.k ≤ length l.ids)

abbrev pub decreases-loop-k : goal.decreases-loop-k
decreases-loop-k l = length l.ids - l.k
