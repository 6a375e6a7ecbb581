use Rattle.std.proofs.Common.{◌≡◌, map, take}
use Rattle.mz_operations.specs.Bounds.{opened}
use Rattle.mz_eval_cells.specs.Views.{known_bound}
use Rattle.mz_eval_arrays.proofs.choosing.all_opened.Given as goal

abbrev pub invariant-loop-b : goal.invariant-loop-b
invariant-loop-b l = map known_bound l.all.items ≡ map opened (map known_bound (take l.b-index l.bs))
