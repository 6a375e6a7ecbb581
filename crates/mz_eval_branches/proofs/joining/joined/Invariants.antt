use Rattle.std.proofs.Common.{◌≡◌, ◌++◌, drop}
use Rattle.mz_meaning.specs.Arrays.{joined}
use Rattle.mz_symbol.specs.Readings.{Reading}
use Rattle.mz_eval_cells.specs.Views.{all_seen}
use Rattle.mz_eval_branches.specs.TableCells.{rows_seen}
use Rattle.mz_eval_branches.proofs.joining.joined.Given as goal

abbrev pub invariant-loop-row : goal.invariant-loop-row
invariant-loop-row l = (r : Reading) → joined (rows_seen r l.rows) ≡ all_seen r l.all.items ++ joined (rows_seen r (drop l.row-index l.rows))
