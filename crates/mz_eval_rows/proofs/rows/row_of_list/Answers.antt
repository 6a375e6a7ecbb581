use Rattle.std.proofs.Common.{◌+◌, ◌*◌, List, subst}
use Rattle.mz_value.specs.Contents.{case_names}
use Rattle.mz_core.specs.Types.{plain_type}
use Rattle.mz_meaning.specs.Operations.{row_cost}
use Rattle.mz_symbol.specs.Makes.{GoesOnBy, Means}
use Rattle.mz_eval_cells.specs.declared.types.Known.{Known}
use Rattle.mz_eval_cells.specs.Views.{all_seen, cells_of}
use Rattle.mz_eval_row_symbols.specs.NodeRows.{row_node, stamped}
use Rattle.mz_eval_rows.proofs.rows.row_of_list.Goals as goal

pub returns-clause-means : goal.returns-clause-means
returns-clause-means c =
    let t = plain_type c.args.t.now in
    let names = case_names c.args.cases.now in
    subst (λ (ks : List Known). Means (stamped t) c.row_of_all.result c.args.run.now c.row_of_all.new.run (λ r. row_node r.mode names c.args.row t c.args.at (all_seen r ks))) c.in_ok-all.ensures c.row_of_all.ensures.means

pub returns-clause-goes : goal.returns-clause-goes
returns-clause-goes c = subst (λ (ks : List Known). GoesOnBy (64 * (1 + row_cost c.args.row (cells_of ks))) c.args.run.now c.row_of_all.new.run) c.in_ok-all.ensures c.row_of_all.ensures.goes
