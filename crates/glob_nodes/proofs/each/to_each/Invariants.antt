use Rattle.std.proofs.Common.{◌+◌, ◌*◌, ◌-◌, ◌≤◌, length, drop}
use Rattle.mz_arena.specs.Values.{is_true}
use Rattle.glob_nodes.specs.Says.{joined_each}
use Rattle.glob_nodes.specs.StepsEach.{Told}
use Rattle.glob_nodes.proofs.each.to_each.Given as goal

abbrev pub invariant-loop-k : goal.invariant-loop-k
invariant-loop-k g l = Told ((g.R.Relation.room + 6) * (length l.others - l.k)) l.fn.run l.run (λ v. joined_each l.op (λ y. g.R.Relation.related l.r l.x y v) (drop l.k l.others) (is_true (v.term l.fn.told))) l.acc × (l.k ≤ length l.others)

abbrev pub decreases-loop-k : goal.decreases-loop-k
decreases-loop-k g l = l.k
