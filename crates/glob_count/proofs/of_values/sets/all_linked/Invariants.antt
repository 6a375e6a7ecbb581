use Rattle.std.proofs.Common.{◌≡◌, ◌+ℤ◌, pos, drop}
use Rattle.std.specs.List.{list_all}
use Rattle.mz_globals.specs.Lists.{numbered}
use Rattle.mz_globals.specs.Counting.{is_link}
use Rattle.glob_count.proofs.of_values.sets.all_linked.Given as goal

abbrev pub invariant-loop-b : goal.invariant-loop-b
invariant-loop-b l = (l.i ≡ l.first +ℤ pos l.b-index) × (list_all (is_link l.s) (numbered l.i (drop l.b-index l.bs)) ≡ list_all (is_link l.s) (numbered l.first l.bs))
