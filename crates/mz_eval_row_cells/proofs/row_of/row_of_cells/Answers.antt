use Rattle.std.proofs.Common.{[], ◌∷◌, ◌∙◌, sym}
use Rattle.mz_value.specs.Contents.{case_names}
use Rattle.mz_core.specs.Types.{plain_type}
use Rattle.mz_eval_cells.specs.Views.{cell_of}
use Rattle.mz_eval_row_cells.proofs.Parted.{row_open, row_par}
use Rattle.mz_eval_row_cells.proofs.row_of.row_of_cells.Goals as goal

pub returns-then-are_par : goal.returns-then-are_par
unfolding plain_type
returns-then-are_par c =
    row_par (case_names c.args.cases.now) c.args.row (plain_type c.args.t.now) c.args.at (cell_of c.args.a ∷ cell_of c.args.b ∷ []) c.par_of_two.result (sym c.are_par.ensures ∙ c.if-are_par.true) c.par_of_two.ensures

pub returns-else-are_par : goal.returns-else-are_par
returns-else-are_par c =
    let names = case_names c.args.cases.now in
    row_open names c.args.row (plain_type c.args.t.now) c.args.at (cell_of c.args.a ∷ cell_of c.args.b ∷ []) c.open_row.result (sym c.are_par.ensures ∙ c.if-are_par.false) (c.open_row.ensures names)
