use Rattle.std.proofs.Common.{[], ◌∷◌, sym, subst}
use Rattle.mz_value.specs.Contents.{case_names}
use Rattle.mz_core.specs.Types.{plain_type}
use Rattle.mz_symbol.specs.Makes.{Means}
use Rattle.mz_eval_cells.specs.Views.{seen}
use Rattle.mz_eval_row_symbols.specs.NodeRows.{row_node, stamped}
use Rattle.mz_eval_rows.proofs.rows.row_by_argument.Goals as goal

pub returns-then-is_lined-clause-means : goal.returns-then-is_lined-clause-means
returns-then-is_lined-clause-means c =
    let t = plain_type c.args.t.now in
    let names = case_names c.args.cases.now in
    subst (λ w. Means (stamped t) c.lined_row.result c.args.run.now c.lined_row.new.run (λ r. row_node r.mode names w t c.args.at (seen r c.args.a.now.cell ∷ []))) (sym (c.is_lined.ensures c.if-is_lined.true)) (c.lined_row.ensures.means names t c.args.at)
