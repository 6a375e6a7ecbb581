use Rattle.std.proofs.Common.{◌≡◌, ◌+ℤ◌, pos, drop}
use Rattle.std.specs.List.{list_all}
use Rattle.mz_globals.specs.Lists.{numbered}
use Rattle.mz_globals.specs.Scheduling.{is_load}
use Rattle.glob_sched.proofs.of_values.packing.all_loads.Given as goal

abbrev pub invariant-loop-n : goal.invariant-loop-n
invariant-loop-n l = (l.bin ≡ l.first +ℤ pos l.n-index) × (list_all (is_load l.things) (numbered l.bin (drop l.n-index l.loads)) ≡ list_all (is_load l.things) (numbered l.first l.loads))
