use Rattle.std.proofs.Common.{◌≡◌, [], drop}
use Rattle.mz_eval_cells.specs.Views.{cells_of}
use Rattle.mz_eval_arrays.specs.StepsJoining.{numbers_in, values_from}
use Rattle.mz_eval_arrays.proofs.numbering.numbers_of_cells.Given as goal

abbrev pub invariant-loop-k : goal.invariant-loop-k
invariant-loop-k l = values_from [] (numbers_in (cells_of l.cells)) ≡ values_from l.all.items (numbers_in (cells_of (drop l.k-index l.cells)))
