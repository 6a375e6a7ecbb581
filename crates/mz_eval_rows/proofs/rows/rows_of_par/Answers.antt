use Rattle.std.proofs.Common.{Ok, [], ◌∷◌, false, ap}
use Rattle.mz_value.specs.Contents.{case_names}
use Rattle.mz_core.specs.Types.{plain_type}
use Rattle.mz_meaning.specs.Runs.{Out}
use Rattle.mz_meaning.specs.Cells.{typed}
use Rattle.mz_symbol.specs.Readings.{state_of}
use Rattle.mz_eval_cells.specs.Views.{cell_of, seen}
use Rattle.mz_eval_row_symbols.specs.NodeRows.{stamped, var_value, with_value}
use Rattle.mz_eval_rows.proofs.NodeLaws.{node_meets}
use Rattle.mz_eval_rows.proofs.rows.rows_of_par.Goals as goal

pub returns-clause-means : goal.returns-clause-means
returns-clause-means c r h =
    let t = plain_type c.args.t.now in
    let names = case_names c.args.cases.now in
    let cs = seen r c.args.a ∷ seen r c.args.b ∷ [] in
    let s = state_of r c.args.run.now in
    let v = var_value r.mode names c.args.row t cs in
    node_meets r.mode names c.args.row t c.args.at cs (with_value v (cell_of c.in_ok-shape.shape)) s s (stamped t r) (Ok c.in_ok-k.k) ((c.in_ok-shape.ensures r).by s)
    (ap (λ x. Out (typed r.mode false t x) s) (c.in_ok-k.ensures r v))
