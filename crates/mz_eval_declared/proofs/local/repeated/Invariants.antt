use Rattle.std.proofs.Common.{◌≡◌, map, replicate}
use Rattle.mz_eval_cells.specs.Views.{known_bound}
use Rattle.mz_eval_declared.proofs.local.repeated.Given as goal

abbrev pub invariant-loop-i : goal.invariant-loop-i
invariant-loop-i l = map known_bound l.all.items ≡ replicate l._i (known_bound l.b)
