use Rattle.std.proofs.Common.{◌≡◌, drop}
use Rattle.mz_globals.specs.Scheduling.{is_disjunctive}
use Rattle.glob_sched.proofs.of_values.tasks.is_disjunctive.Given as goal

abbrev pub invariant-loop-k : goal.invariant-loop-k
invariant-loop-k l = is_disjunctive (drop l.k l.ks) ≡ is_disjunctive l.ks
