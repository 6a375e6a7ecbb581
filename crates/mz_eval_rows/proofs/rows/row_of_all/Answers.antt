use Rattle.std.proofs.Common.{sym, subst}
use Rattle.mz_value.specs.Contents.{case_names}
use Rattle.mz_core.specs.Types.{plain_type}
use Rattle.mz_operations.specs.declared.row.Row.{Row}
use Rattle.mz_symbol.specs.Makes.{Means}
use Rattle.mz_eval_cells.specs.Views.{all_seen}
use Rattle.mz_eval_row_symbols.specs.NodeRows.{row_node, stamped}
use Rattle.mz_eval_rows.proofs.rows.row_of_all.Goals as goal

pub returns-clause-means : goal.returns-clause-means
returns-clause-means c =
    let t = plain_type c.args.t.now in
    let names = case_names c.args.cases.now in
    subst (λ (w : Row). Means (stamped t) c.row_of_shaped.result c.args.run.now c.row_of_shaped.new.run (λ r. row_node r.mode names w t c.args.at (all_seen r c.args.cells.items))) (sym c.in-Some.ensures) c.row_of_shaped.ensures.means
