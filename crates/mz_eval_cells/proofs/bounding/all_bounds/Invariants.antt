use Rattle.std.proofs.Common.{◌≡◌, map, take}
use Rattle.mz_value.specs.Contents.{content}
use Rattle.mz_operations.specs.Bounds.{bound_of}
use Rattle.mz_eval_cells.specs.Views.{known_bound}
use Rattle.mz_eval_cells.proofs.bounding.all_bounds.Given as goal

abbrev pub invariant-loop-x : goal.invariant-loop-x
invariant-loop-x l = map known_bound l.all.items ≡ map bound_of (map content (take l.x-index l.xs))
