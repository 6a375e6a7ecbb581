use Rattle.std.proofs.Common.{◌≡◌, ◌++◌, map, drop}
use Rattle.mz_meaning.specs.Arrays.{joined}
use Rattle.mz_eval_cells.specs.Views.{cells_of}
use Rattle.mz_eval_arrays.proofs.tabling.joined.Given as goal

abbrev pub invariant-loop-row : goal.invariant-loop-row
invariant-loop-row l = joined (map (λ r. cells_of r.items) l.rows) ≡ cells_of l.all.items ++ joined (map (λ r. cells_of r.items) (drop l.row-index l.rows))
