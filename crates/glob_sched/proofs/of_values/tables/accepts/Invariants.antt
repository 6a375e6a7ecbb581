use Rattle.std.proofs.Common.{◌≡◌, drop}
use Rattle.mz_globals.specs.Graphs.{accepts}
use Rattle.glob_sched.specs.Machines.{machine}
use Rattle.glob_sched.proofs.of_values.tables.accepts.Given as goal

abbrev pub invariant-loop-x : goal.invariant-loop-x
invariant-loop-x l = accepts (machine l.m) l.q (drop l.x-index l.xs) ≡ accepts (machine l.m) l.start l.xs
