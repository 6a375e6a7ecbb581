use Rattle.std.proofs.Common.{◌≡◌, length, map, drop}
use Rattle.std.specs.Prelude.{nat_eq}
use Rattle.std.specs.List.{list_all}
use Rattle.mz_eval_cells.specs.Views.{cells_of}
use Rattle.mz_eval_arrays.proofs.tabling.all_have_length.Given as goal

abbrev pub invariant-loop-row : goal.invariant-loop-row
invariant-loop-row l = list_all (λ r. nat_eq (length r) l.n) (map (λ r. cells_of r.items) l.rows) ≡ list_all (λ r. nat_eq (length r) l.n) (map (λ r. cells_of r.items) (drop l.row-index l.rows))
