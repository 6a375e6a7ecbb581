use Rattle.std.proofs.Common.{◌*◌, ◌-◌, ◌≤◌, length, drop, map}
use Rattle.glob_nodes.specs.Says.{num}
use Rattle.glob_nodes.specs.StepsEach.{Told}
use Rattle.glob_order.specs.Senses.{preceded_by}
use Rattle.glob_order.proofs.preceding.preceded_by.Given as goal

abbrev pub invariant-loop-k : goal.invariant-loop-k
invariant-loop-k l = Told (24 * (length l.ids - l.k)) l.fn.run l.run (λ r. preceded_by (num r l.s) (num r l.t) (map (num r) (drop l.k l.ids))) l.acc × (l.k ≤ length l.ids)

abbrev pub decreases-loop-k : goal.decreases-loop-k
decreases-loop-k l = l.k
