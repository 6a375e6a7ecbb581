use Rattle.std.proofs.Common.{◌+◌, ◌*◌, ◌-◌, ◌≤◌, length, drop}
use Rattle.mz_arena.specs.Values.{is_true}
use Rattle.glob_nodes.specs.Says.{joined_each}
use Rattle.glob_nodes.specs.StepsEach.{Told}
use Rattle.glob_nodes.proofs.passing.each_passes.Given as goal

abbrev pub invariant-loop-k : goal.invariant-loop-k
invariant-loop-k g l = Told ((g.F.Test.room l.t + 6) * (length l.items - l.k)) l.fn.run l.run (λ v. joined_each l.op (λ x. g.F.Test.holds l.t x v) (drop l.k l.items) (is_true (v.term l.fn.told))) l.acc × (l.k ≤ length l.items)

abbrev pub decreases-loop-k : goal.decreases-loop-k
decreases-loop-k g l = l.k
