use Rattle.std.proofs.Common.{◌≡◌, [], map, drop}
use Rattle.mz_value.specs.Contents.{content}
use Rattle.mz_meaning.specs.Cells.{value_of}
use Rattle.mz_eval_cells.specs.Views.{cells_of}
use Rattle.mz_eval_arrays.specs.StepsJoining.{values_from}
use Rattle.mz_eval_arrays.proofs.joining.values_of.Given as goal

abbrev pub invariant-loop-k : goal.invariant-loop-k
invariant-loop-k l = values_from [] (map value_of (cells_of l.cells)) ≡ values_from (map content l.all.items) (map value_of (cells_of (drop l.k-index l.cells)))
