use Rattle.std.proofs.Common.{◌≡◌, drop}
use Rattle.mz_meaning.specs.Calls.{all_lengths}
use Rattle.mz_symbol.specs.Readings.{Reading}
use Rattle.mz_eval_cells.specs.Views.{all_seen}
use Rattle.mz_eval.proofs.weights.lengths_on.Given as goal

abbrev pub invariant-loop-k : goal.invariant-loop-k
invariant-loop-k l = (r : Reading) → all_lengths l.n (all_seen r l.cells) ≡ all_lengths l.sum (all_seen r (drop l.k-index l.cells))
