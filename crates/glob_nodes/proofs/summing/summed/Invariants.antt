use Rattle.std.proofs.Common.{◌+◌, ◌*◌, ◌-◌, ◌≤◌, length, drop}
use Rattle.glob_nodes.specs.Numbers.{added}
use Rattle.glob_nodes.specs.StepsSums.{SumSoFar}
use Rattle.glob_nodes.proofs.summing.summed.Given as goal

abbrev pub invariant-loop-k : goal.invariant-loop-k
invariant-loop-k g l = SumSoFar ((g.P.Part.room + 4) * (length l.items - l.k)) l.fn.run l.run (λ v. added (λ x. g.P.Part.amount l.p x v) (drop l.k l.items)) l.acc × (l.k ≤ length l.items)

abbrev pub decreases-loop-k : goal.decreases-loop-k
decreases-loop-k g l = l.k
