use Rattle.std.proofs.Common.{◌∙◌, ap, sym}
use Rattle.mz_value.specs.Contents.{case_names}
use Rattle.mz_core.specs.Types.{plain_type}
use Rattle.mz_meaning.specs.Cells.{all_par}
use Rattle.mz_eval_cells.specs.Views.{cells_of}
use Rattle.mz_eval_row_cells.proofs.Parted.{row_open, row_par}
use Rattle.mz_eval_row_cells.proofs.row_of.row_of_all.Goals as goal

pub returns-then-all_par : goal.returns-then-all_par
unfolding plain_type
returns-then-all_par c =
    let ks = cells_of c.args.cells.items in
    row_par (case_names c.args.cases.now) c.args.row (plain_type c.args.t.now) c.args.at ks c.par_of_all.result (ap (λ xs. all_par (cells_of xs)) (sym c.as_slice.ensures.value) ∙ sym c.all_par.ensures ∙ c.if-all_par.true) c.par_of_all.ensures

pub returns-else-all_par : goal.returns-else-all_par
returns-else-all_par c =
    let ks = cells_of c.args.cells.items in
    let names = case_names c.args.cases.now in
    row_open names c.args.row (plain_type c.args.t.now) c.args.at ks c.open_of_all.result (ap (λ xs. all_par (cells_of xs)) (sym c.as_slice.ensures.value) ∙ sym c.all_par.ensures ∙ c.if-all_par.false) (c.open_of_all.ensures names)
