use Rattle.std.proofs.Common.{◌≡◌, map, take}
use Rattle.mz_symbol.specs.Readings.{Reading}
use Rattle.mz_eval_cells.specs.Views.{all_seen}
use Rattle.mz_eval_comprehensions.specs.Views.{value_cell}
use Rattle.mz_eval_comprehensions.proofs.gathering.cells_of.Given as goal

abbrev pub invariant-loop-x : goal.invariant-loop-x
invariant-loop-x l = (r : Reading) → all_seen r l.all.items ≡ map value_cell (take l.x-index l.items)
