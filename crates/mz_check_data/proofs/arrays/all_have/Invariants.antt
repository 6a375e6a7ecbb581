use Rattle.std.proofs.Common.{◌≡◌, map, drop}
use Rattle.std.specs.List.{list_all}
use Rattle.mz_tree.specs.Data.{value}
use Rattle.mz_check_data.specs.Datum.{has_length}
use Rattle.mz_check_data.proofs.arrays.all_have.Given as goal

abbrev pub invariant-loop-row : goal.invariant-loop-row
invariant-loop-row l = list_all (has_length l.n) (map (λ r. map value r.items) l.rows) ≡ list_all (has_length l.n) (map (λ r. map value r.items) (drop l.row-index l.rows))
