use Rattle.std.proofs.Common.{◌≡◌, ◌++◌, map, drop}
use Rattle.mz_eval_cells.specs.Views.{known_bound}
use Rattle.mz_eval_row_bounds.proofs.made.push_shared.Given as goal

abbrev pub invariant-loop-b : goal.invariant-loop-b
invariant-loop-b l = map known_bound l.fn.all.items ++ map known_bound l.more ≡ map known_bound l.all.items ++ map known_bound (drop l.b-index l.more)
