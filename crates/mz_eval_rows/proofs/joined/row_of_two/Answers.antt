use Rattle.std.proofs.Common.{◌+◌, ◌*◌, [], ◌∷◌, sym, subst}
use Rattle.mz_value.specs.Contents.{case_names}
use Rattle.mz_core.specs.Types.{plain_type}
use Rattle.mz_meaning.specs.Operations.{row_cost}
use Rattle.mz_symbol.specs.Makes.{GoesOnBy, Means}
use Rattle.mz_eval_cells.specs.Views.{cell_of, seen}
use Rattle.mz_eval_row_symbols.specs.NodeRows.{row_node, stamped}
use Rattle.mz_eval_rows.proofs.joined.row_of_two.Goals as goal

pub returns-then-is_joined-clause-goes : goal.returns-then-is_joined-clause-goes
returns-then-is_joined-clause-goes c =
    subst (λ w. GoesOnBy (64 * (1 + row_cost w (cell_of c.args.a.cell ∷ cell_of c.args.b.cell ∷ []))) c.args.run.now c.row_of_joined.new.run) (sym (c.is_joined.ensures c.if-is_joined.true)) c.row_of_joined.ensures.goes

pub returns-then-is_joined-clause-means : goal.returns-then-is_joined-clause-means
returns-then-is_joined-clause-means c =
    let t = plain_type c.args.t.now in
    let names = case_names c.args.cases.now in
    subst (λ w. Means (stamped t) c.row_of_joined.result c.args.run.now c.row_of_joined.new.run (λ r. row_node r.mode names w t c.args.at (seen r c.args.a.cell ∷ seen r c.args.b.cell ∷ []))) (sym (c.is_joined.ensures c.if-is_joined.true)) c.row_of_joined.ensures.means
