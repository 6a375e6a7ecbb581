use Rattle.glob_order.proofs.Sums.{IsSoFar}
use Rattle.glob_count.proofs.of_values.sums.sum.Given as goal

abbrev pub invariant-loop-x : goal.invariant-loop-x
invariant-loop-x l = IsSoFar (λ x. x) l.xs l.x-index l.acc
