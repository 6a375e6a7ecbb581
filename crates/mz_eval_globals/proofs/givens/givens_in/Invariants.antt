use Rattle.std.proofs.Common.{◌≡◌, ◌++◌, drop, map}
use Rattle.mz_eval_globals.specs.Views.{plain_given}
use Rattle.mz_meaning.specs.Globals.{given_in}
use Rattle.mz_eval_cells.specs.Views.{cells_of}
use Rattle.mz_eval_globals.proofs.givens.givens_in.Given as goal

abbrev pub invariant-loop-k : goal.invariant-loop-k
invariant-loop-k l = map plain_given l.all.items ++ map given_in (cells_of (drop l.k-index l.cells)) ≡ map given_in (cells_of l.cells)
