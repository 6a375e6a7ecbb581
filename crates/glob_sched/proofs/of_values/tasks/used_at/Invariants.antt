use Rattle.mz_globals.specs.Scheduling.{taken_at}
use Rattle.glob_order.proofs.Sums.{IsSoFar}
use Rattle.glob_sched.proofs.of_values.tasks.used_at.Given as goal

abbrev pub invariant-loop-u : goal.invariant-loop-u
invariant-loop-u l = IsSoFar (taken_at l.t) l.us l.u-index l.acc
