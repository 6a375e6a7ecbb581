use Rattle.std.proofs.Common.{◌≡◌, map, drop}
use Rattle.std.specs.List.{list_any}
use Rattle.mz_meaning.specs.Operations.{is_no_set}
use Rattle.mz_eval_cells.specs.Views.{cell_of}
use Rattle.mz_eval_row_cells.proofs.opened.some_no_set.Given as goal

abbrev pub invariant-loop-k : goal.invariant-loop-k
invariant-loop-k l = list_any is_no_set (map cell_of l.sets) ≡ list_any is_no_set (map cell_of (drop l.k-index l.sets))
