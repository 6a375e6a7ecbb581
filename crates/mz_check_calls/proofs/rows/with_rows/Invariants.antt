use Rattle.std.proofs.Common.{◌≡◌, ◌++◌, map}
use Rattle.std.specs.Vec.Iter.{into_iter_items}
use Rattle.mz_builtin.specs.Views.{plain_numbered}
use Rattle.mz_check_meaning.specs.Calls.{row_candidate}
use Rattle.mz_check_calls.proofs.rows.with_rows.Given as goal

abbrev pub invariant-loop-number : goal.invariant-loop-number
invariant-loop-number l = l.fn.before ++ map row_candidate (map plain_numbered l.fn.rows.items) ≡ l.all ++ map row_candidate (map plain_numbered (into_iter_items l.number-iterator))
