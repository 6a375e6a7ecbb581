use Rattle.std.proofs.Common.{◌+◌, ◌*◌, ◌-◌, ◌≤◌, Some, count_by, length, drop}
use Rattle.glob_nodes.specs.StepsEach.{Given}
use Rattle.glob_nodes.proofs.Counting.{count_term}
use Rattle.glob_nodes.proofs.sums.counted.Given as goal

abbrev pub invariant-loop-k : goal.invariant-loop-k
invariant-loop-k g l = Given ((g.R.Relation.room + 8) * (length l.others - l.k)) l.fn.run l.run (λ v. count_term (count_by (λ y. g.R.Relation.related l.r l.x y v) (drop l.k l.others))) l.acc × (l.k ≤ length l.others)

abbrev pub decreases-loop-k : goal.decreases-loop-k
decreases-loop-k g l = l.k
