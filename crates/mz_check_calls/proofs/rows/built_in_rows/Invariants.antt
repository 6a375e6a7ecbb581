use Rattle.std.proofs.Common.{◌≡◌, ◌++◌, map, filter}
use Rattle.std.specs.Vec.Iter.{into_iter_items}
use Rattle.mz_builtin.specs.Views.{plain_numbered}
use Rattle.mz_check_meaning.specs.Calls.{is_built_in}
use Rattle.mz_check_calls.proofs.rows.built_in_rows.Given as goal

abbrev pub invariant-loop-row : goal.invariant-loop-row
invariant-loop-row l = filter is_built_in (map plain_numbered l.fn.rows.items) ≡ map plain_numbered l.all.items ++ filter is_built_in (map plain_numbered (into_iter_items l.row-iterator))
