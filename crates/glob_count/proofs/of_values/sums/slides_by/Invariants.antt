use Rattle.std.proofs.Common.{◌≡◌, ◌-◌, suc, length, drop}
use Rattle.std.specs.List.{list_all}
use Rattle.mz_globals.specs.Lists.{windows, windows_from}
use Rattle.mz_globals.specs.Counting.{sum_fits}
use Rattle.glob_count.proofs.of_values.sums.slides_by.Given as goal

abbrev pub invariant-loop-k : goal.invariant-loop-k
invariant-loop-k l = list_all (sum_fits l.low l.up) (windows_from (suc (length l.xs) - l.size - l.k) l.size (drop l.k l.xs)) ≡ list_all (sum_fits l.low l.up) (windows l.size l.xs)
