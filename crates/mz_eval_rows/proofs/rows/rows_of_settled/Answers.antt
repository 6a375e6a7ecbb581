use Rattle.std.proofs.Common.{Bool, Option, Ok, [], ◌∷◌, ◌∙◌, ◌&&◌, true, false, ap}
use Rattle.mz_value.specs.Contents.{Content, case_names}
use Rattle.mz_core.specs.Types.{plain_type}
use Rattle.mz_meaning.specs.Runs.{Out}
use Rattle.mz_meaning.specs.Cells.{held, is_par, typed, value_of}
use Rattle.mz_symbol.specs.Readings.{state_of}
use Rattle.mz_eval_cells.specs.Views.{cell_of, seen}
use Rattle.mz_eval_row_symbols.specs.NodeRows.{stamped, var_value, with_value}
use Rattle.mz_eval_rows.proofs.NodeLaws.{node_meets}
use Rattle.mz_eval_rows.proofs.SettledLaws.{settled_told}
use Rattle.mz_eval_rows.proofs.rows.rows_of_settled.Goals as goal

pub returns-clause-means : goal.returns-clause-means
returns-clause-means c r h =
    let t = plain_type c.args.t.now in
    let names = case_names c.args.cases.now in
    let cs = seen r c.args.args.0 ∷ seen r c.args.args.1 ∷ [] in
    let xs = cell_of c.args.pars.0 ∷ cell_of c.args.pars.1 ∷ [] in
    let s = state_of r c.args.run.now in
    let v = var_value r.mode names c.args.row t cs in
    let told = settled_told r.mode names c.args.row t c.args.at cs xs (cell_of c.in-Ok.par) s (ap (λ (b : Bool). b && (is_par (cell_of c.args.pars.1) && true)) c.requires.first.par ∙ ap (λ (b : Bool). true && (b && true)) c.requires.second.par) c.requires.exact (ap (λ (y : Option Content). y ∷ held r.mode (value_of (seen r c.args.args.1)) ∷ []) (c.requires.first.value r) ∙ ap (λ (y : Option Content). held r.mode (value_of (cell_of c.args.pars.0)) ∷ y ∷ []) (c.requires.second.value r)) (c.in-Ok.ensures.by s) in
    node_meets r.mode names c.args.row t c.args.at cs (with_value v (cell_of c.in_ok-shape.shape)) s s (stamped t r) (Ok c.in_ok-k.k) ((c.in_ok-shape.ensures r).by s)
    (ap (λ x. Out (typed r.mode false t x) s) (ap (λ (y : Option Content). with_value y (cell_of c.in_ok-shape.shape)) told ∙ c.in_ok-k.ensures r))
