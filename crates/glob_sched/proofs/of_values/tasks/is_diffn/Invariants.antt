use Rattle.std.proofs.Common.{◌≡◌, drop}
use Rattle.mz_globals.specs.Scheduling.{is_diffn}
use Rattle.glob_sched.proofs.of_values.tasks.is_diffn.Given as goal

abbrev pub invariant-loop-k : goal.invariant-loop-k
invariant-loop-k l = is_diffn (drop l.k l.boxes) ≡ is_diffn l.boxes
