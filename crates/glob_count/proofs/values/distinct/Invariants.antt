use Rattle.std.proofs.Common.{◌+◌, ◌*◌, ◌≤◌, length, drop, map}
use Rattle.glob_nodes.specs.Says.{num, pair_count}
use Rattle.glob_nodes.specs.StepsEach.{Given}
use Rattle.glob_nodes.proofs.Counting.{count_term}
use Rattle.glob_count.specs.Senses.{distinct_among}
use Rattle.glob_count.proofs.values.distinct.Given as goal

abbrev pub invariant-loop-k : goal.invariant-loop-k
invariant-loop-k l = Given (20 * (length (drop l.k l.ids) + pair_count (drop l.k l.ids))) l.fn.run l.run (λ r. count_term (distinct_among (map (num r) (drop l.k l.ids)))) l.acc × (l.k ≤ length l.ids)

abbrev pub decreases-loop-k : goal.decreases-loop-k
decreases-loop-k l = l.k
