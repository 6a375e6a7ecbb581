use Rattle.std.proofs.Common.{◌≡◌, [], map, drop}
use Rattle.mz_core.specs.TreeViews.{tree}
use Rattle.mz_tree.specs.Data.{value}
use Rattle.mz_check_meaning.specs.Tests.{loop, one_more, each}
use Rattle.mz_check_context.specs.Known.{known}
use Rattle.mz_check_data.specs.Datum.{plain_tree}
use Rattle.mz_check_data.proofs.arrays.each_row.Given as goal

abbrev pub invariant-loop-row : goal.invariant-loop-row
invariant-loop-row l =
    loop (one_more (each (plain_tree (known l.context).names l.span))) [] (map (λ r. map value r.items) l.rows) ≡ loop (one_more (each (plain_tree (known l.context).names l.span))) (map (λ r. map tree r.items) l.all.items) (map (λ r. map value r.items) (drop l.row-index l.rows))
