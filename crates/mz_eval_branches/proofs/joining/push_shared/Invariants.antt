use Rattle.std.proofs.Common.{◌≡◌, ◌++◌, drop}
use Rattle.mz_symbol.specs.Readings.{Reading}
use Rattle.mz_eval_cells.specs.Views.{all_seen}
use Rattle.mz_eval_branches.proofs.joining.push_shared.Given as goal

abbrev pub invariant-loop-k : goal.invariant-loop-k
invariant-loop-k l = (r : Reading) → all_seen r l.fn.all.items ++ all_seen r l.row ≡ all_seen r l.all.items ++ all_seen r (drop l.k-index l.row)
