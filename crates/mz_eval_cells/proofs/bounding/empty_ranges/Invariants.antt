use Rattle.std.proofs.Common.{◌≡◌, replicate}
use Rattle.std.specs.Prelude.{pos}
use Rattle.mz_eval_cells.proofs.bounding.empty_ranges.Given as goal

abbrev pub invariant-loop-k : goal.invariant-loop-k
invariant-loop-k l = l.all.items ≡ replicate l.k (pos 1, pos 0)
