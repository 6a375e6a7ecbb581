use Rattle.std.proofs.Common.{◌+◌, ◌*◌, ◌-◌, ◌≤◌, length, drop}
use Rattle.mz_globals.specs.Lists.{stepwise}
use Rattle.glob_nodes.specs.StepsEach.{Told}
use Rattle.glob_nodes.proofs.each.each_next.Given as goal

abbrev pub invariant-loop-k : goal.invariant-loop-k
invariant-loop-k g l = Told ((g.R.Relation.room + 6) * (length l.xs - l.k)) l.fn.run l.run (λ v. stepwise (λ x y. g.R.Relation.related l.r x y v) (drop (l.k - 1) l.xs)) l.acc × (l.k ≤ length l.xs)

abbrev pub decreases-loop-k : goal.decreases-loop-k
decreases-loop-k g l = l.k
