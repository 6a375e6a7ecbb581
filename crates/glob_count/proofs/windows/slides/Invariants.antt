use Rattle.std.proofs.Common.{suc, ◌+◌, ◌*◌, ◌-◌, ◌≤◌, length, drop}
use Rattle.std.specs.List.{list_all}
use Rattle.mz_globals.specs.Lists.{windows_from}
use Rattle.glob_nodes.specs.StepsEach.{Told}
use Rattle.glob_count.specs.Windows.{sum_fits}
use Rattle.glob_count.proofs.windows.slides.Given as goal

abbrev pub invariant-loop-i : goal.invariant-loop-i
invariant-loop-i l = Told ((4 * l.seq + 24) * ((suc (length l.ids) - l.seq) - l.i)) l.fn.run l.run (λ r. list_all (λ w. sum_fits r l.low l.up w) (windows_from ((suc (length l.ids) - l.seq) - l.i) l.seq (drop l.i l.ids))) l.acc × (l.i ≤ suc (length l.ids) - l.seq)

abbrev pub decreases-loop-i : goal.decreases-loop-i
decreases-loop-i l = l.i
