use Rattle.std.proofs.Common.{◌≡◌, drop}
use Rattle.mz_globals.specs.Scheduling.{is_strictly_disjunctive}
use Rattle.glob_sched.proofs.of_values.tasks.is_strictly_disjunctive.Given as goal

abbrev pub invariant-loop-k : goal.invariant-loop-k
invariant-loop-k l = is_strictly_disjunctive (drop l.k l.ks) ≡ is_strictly_disjunctive l.ks
