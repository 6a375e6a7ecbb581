use Rattle.std.proofs.Common.{◌∙◌, [], ◌∷◌, false, sym, ap}
use Rattle.mz_value.specs.Contents.{case_names}
use Rattle.mz_core.specs.Types.{plain_type}
use Rattle.mz_operations.specs.Bounds.{one}
use Rattle.mz_meaning.specs.Runs.{give}
use Rattle.mz_meaning.specs.Cells.{Var, typed}
use Rattle.mz_symbol.specs.Readings.{state_of}
use Rattle.mz_eval_cells.specs.Views.{seen}
use Rattle.mz_eval_row_symbols.specs.NodeRows.{var_value}
use Rattle.mz_eval_row_symbols.proofs.EndLaws.{ends_told}
use Rattle.mz_eval_row_symbols.proofs.cells.cell_by_ends.Goals as goal

pub returns-clause-means : goal.returns-clause-means
returns-clause-means c r h =
    let names = case_names c.args.cases.now in
    let s = state_of r c.args.run.now in
    let t = plain_type c.args.t.now in
    let cs = seen r c.args.a.now.cell ∷ seen r c.args.b.now.cell ∷ [] in
    ap (λ f. f s) (ends_told r.mode names c.args.row t c.args.at cs c.args.ends (c.requires r))
    ∙ ap (λ b. give (typed r.mode false t (Var (one b) (var_value r.mode names c.args.row t cs))) s) (sym c.number_bound-bound.ensures)
    ∙ c.in_ok-k.ensures.means names r h
