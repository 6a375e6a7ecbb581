use Rattle.std.proofs.Common.{◌≡◌, ◌++◌, map, drop}
use Rattle.mz_core.specs.Types.{plain_type}
use Rattle.mz_meaning.specs.Arrays.{all_bounds, branch_bounds_of}
use Rattle.mz_eval_cells.specs.Views.{cell_of, known_bounds}
use Rattle.mz_eval_arrays.proofs.choosing.open_bounds.Given as goal

abbrev pub invariant-loop-p : goal.invariant-loop-p
invariant-loop-p l = all_bounds (map (λ p. branch_bounds_of (plain_type l.t) (cell_of p.1)) l.branches) ≡ map known_bounds l.all.items ++ all_bounds (map (λ p. branch_bounds_of (plain_type l.t) (cell_of p.1)) (drop l.p-index l.branches))
