use Rattle.std.proofs.Common.{◌*◌, ◌-◌, ◌≤◌, length, drop, map, min}
use Rattle.glob_nodes.specs.Says.{num}
use Rattle.glob_nodes.specs.StepsEach.{Told}
use Rattle.glob_order.specs.Senses.{lexed}
use Rattle.glob_order.proofs.lexical.lexed.Given as goal

abbrev pub invariant-loop-k : goal.invariant-loop-k
invariant-loop-k l = Told (24 * (min (length l.xs) (length l.ys) - l.k)) l.fn.run l.run (λ r. lexed l.equal (map (num r) (drop l.k l.xs)) (map (num r) (drop l.k l.ys))) l.acc × (l.k ≤ min (length l.xs) (length l.ys))

abbrev pub decreases-loop-k : goal.decreases-loop-k
decreases-loop-k l = l.k
