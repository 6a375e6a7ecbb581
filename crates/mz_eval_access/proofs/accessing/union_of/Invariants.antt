use Rattle.std.proofs.Common.{◌≡◌, [], map, drop}
use Rattle.mz_operations.specs.Bounds.{union_from}
use Rattle.mz_meaning.specs.Arrays.{upper_in}
use Rattle.mz_eval_cells.specs.Views.{known_bound}
use Rattle.mz_eval_access.proofs.accessing.union_of.Given as goal

abbrev pub invariant-loop-b : goal.invariant-loop-b
invariant-loop-b l = union_from [] (map upper_in (map known_bound l.bs)) ≡ union_from l.acc (map upper_in (map known_bound (drop l.b-index l.bs)))
