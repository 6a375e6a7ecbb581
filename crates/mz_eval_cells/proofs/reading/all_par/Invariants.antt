use Rattle.std.proofs.Common.{◌≡◌, drop}
use Rattle.mz_meaning.specs.Cells.{all_par}
use Rattle.mz_eval_cells.specs.Views.{cells_of}
use Rattle.mz_eval_cells.proofs.reading.all_par.Given as goal

abbrev pub invariant-loop-k : goal.invariant-loop-k
invariant-loop-k l = all_par (cells_of l.ks) ≡ all_par (cells_of (drop l.k-index l.ks))
