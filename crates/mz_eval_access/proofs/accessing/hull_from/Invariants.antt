use Rattle.std.proofs.Common.{◌≡◌, map, drop}
use Rattle.mz_operations.specs.Bounds.{hull_from}
use Rattle.mz_meaning.specs.Arrays.{ends_in}
use Rattle.mz_eval_cells.specs.Views.{known_bound}
use Rattle.mz_eval_access.proofs.accessing.hull_from.Given as goal

abbrev pub invariant-loop-b : goal.invariant-loop-b
invariant-loop-b l = hull_from l.fn.first (map ends_in (map known_bound l.rest)) ≡ hull_from l.whole (map ends_in (map known_bound (drop l.b-index l.rest)))
