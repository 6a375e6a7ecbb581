use Rattle.std.proofs.Common.{◌≡◌, map, take}
use Rattle.mz_meaning.specs.Arrays.{ends_in}
use Rattle.mz_meaning.specs.Cells.{bounds_in, scalar_bound}
use Rattle.mz_eval_cells.specs.Views.{cells_of}
use Rattle.mz_eval_access.proofs.accessing.index_ends.Given as goal

abbrev pub invariant-loop-k : goal.invariant-loop-k
invariant-loop-k l = l.all.items ≡ map (λ c. ends_in (scalar_bound (bounds_in c))) (cells_of (take l.k-index l.at))
