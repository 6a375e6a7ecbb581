use Rattle.std.proofs.Common.{◌≡◌, List, [], ◌∷◌, subst}
use Rattle.mz_value.specs.Contents.{case_names}
use Rattle.mz_core.specs.Types.{plain_type}
use Rattle.mz_operations.specs.declared.row.MadeRow.TheVariants as made
use Rattle.mz_operations.specs.declared.row.Row.TheVariants.{Made}
use Rattle.mz_meaning.specs.Runs.{Out}
use Rattle.mz_meaning.specs.Cells.{Cell}
use Rattle.mz_meaning.specs.Operations.{row_cell}
use Rattle.mz_symbol.specs.Readings.{state_of}
use Rattle.mz_eval_cells.specs.Views.{cell_of, seen}
use Rattle.mz_eval_row_symbols.specs.NodeRows.{stamped, var_value, with_value}
use Rattle.mz_eval_rows.proofs.NodeLaws.{node_meets}
use Rattle.mz_eval_rows.proofs.joined.row_of_joined.Goals as goal

pub returns-clause-means : goal.returns-clause-means
returns-clause-means c r h =
    let t = plain_type c.args.t.now in
    let names = case_names c.args.cases.now in
    let row = Made made.Concat in
    let s = state_of r c.args.run.now in
    let told : List Cell → Type 0 = λ cs. row_cell r.mode names row t c.args.at cs s ≡ Out (with_value (var_value r.mode names row t cs) (cell_of c.in_ok-shape.shape)) s in
    let cs = seen r c.args.a.now.cell ∷ seen r c.args.b.now.cell ∷ [] in
    node_meets r.mode names row t c.args.at cs (with_value (var_value r.mode names row t cs) (cell_of c.in_ok-shape.shape)) s (state_of r c.both_cell.new.run) (stamped t r) c.both_cell.result
    (subst (λ x. told (seen r c.args.a.now.cell ∷ x ∷ [])) (c.in_ok-y.ensures.seen r) (subst (λ x. told (x ∷ seen r c.in_ok-y.y ∷ [])) (c.in_ok-x.ensures.seen r) ((c.in_ok-shape.ensures r).by s)))
    (c.both_cell.ensures.means names t r h)
