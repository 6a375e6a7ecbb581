use Rattle.std.proofs.Common.{◌≡◌, ◌++◌, map, drop}
use Rattle.std.specs.Prelude.{zip}
use Rattle.mz_operations.specs.Bounds.{branch_bound}
use Rattle.mz_eval_cells.specs.Views.{known_bound}
use Rattle.mz_eval_arrays.proofs.choosing.all_branch_bounds.Given as goal

abbrev pub invariant-loop-b : goal.invariant-loop-b
invariant-loop-b l = map (λ p. branch_bound p.0 p.1) (zip (map known_bound l.bs) (map known_bound l.cs)) ≡ map known_bound l.all.items ++ map (λ p. branch_bound p.0 p.1) (zip (map known_bound (drop l.b-index l.bs)) (map known_bound l.others))
