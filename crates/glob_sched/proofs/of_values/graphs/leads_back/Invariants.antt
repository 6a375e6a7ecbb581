use Rattle.std.proofs.Common.{◌≡◌, ◌+ℤ◌, pos, drop}
use Rattle.std.specs.List.{list_all}
use Rattle.mz_globals.specs.Lists.{numbered}
use Rattle.mz_globals.specs.Graphs.{is_two_way}
use Rattle.glob_sched.proofs.of_values.graphs.leads_back.Given as goal

abbrev pub invariant-loop-y : goal.invariant-loop-y
invariant-loop-y l = (l.j ≡ l.first +ℤ pos l.y-index) × (list_all (is_two_way l.p) (numbered l.j (drop l.y-index l.ys)) ≡ list_all (is_two_way l.p) (numbered l.first l.ys))
