use Rattle.std.proofs.Common.{◌+◌, ◌*◌, ◌≤◌, length, drop}
use Rattle.mz_globals.specs.Lists.{pairwise}
use Rattle.glob_nodes.specs.Says.{pair_count}
use Rattle.glob_nodes.specs.StepsEach.{Told}
use Rattle.glob_nodes.proofs.each.each_two.Given as goal

abbrev pub invariant-loop-k : goal.invariant-loop-k
invariant-loop-k g l = Told ((g.R.Relation.room + 6) * pair_count (drop l.k l.xs)) l.fn.run l.run (λ v. pairwise (λ x y. g.R.Relation.related l.r x y v) (drop l.k l.xs)) l.acc × (l.k ≤ length l.xs)

abbrev pub decreases-loop-k : goal.decreases-loop-k
decreases-loop-k g l = l.k
