use Rattle.std.proofs.Common.{◌≡◌, map, drop}
use Rattle.std.specs.List.{list_any}
use Rattle.mz_core.specs.Types.{plain_type}
use Rattle.mz_builtin.specs.Views.{plain_numbered}
use Rattle.mz_check_meaning.specs.Duplicates.{has_params}
use Rattle.mz_check_exprs.proofs.duplicates.any_row.Given as goal

abbrev pub invariant-loop-row : goal.invariant-loop-row
invariant-loop-row l = list_any (has_params (map plain_type l.params)) (map plain_numbered l.rows) ≡ list_any (has_params (map plain_type l.params)) (map plain_numbered (drop l.row-index l.rows))
