use Rattle.std.proofs.Common.{[], ◌∷◌, ◌∙◌, sym}
use Rattle.std.specs.Prelude.{true, false}
use Rattle.mz_value.specs.Contents.{case_names}
use Rattle.mz_core.specs.Types.{plain_type}
use Rattle.mz_eval_cells.specs.Views.{cell_of}
use Rattle.mz_eval_row_cells.proofs.Parted.{one_par, row_open, row_par}
use Rattle.mz_eval_row_cells.proofs.row_of.row_of_one.Goals as goal

pub returns-then-is_par : goal.returns-then-is_par
unfolding plain_type
returns-then-is_par c =
    let k = cell_of c.args.a in
    row_par (case_names c.args.cases.now) c.args.row (plain_type c.args.t.now) c.args.at (k ∷ []) c.par_of_one.result (one_par k true (sym c.is_par.ensures ∙ c.if-is_par.true)) c.par_of_one.ensures

pub returns-else-is_par : goal.returns-else-is_par
returns-else-is_par c =
    let k = cell_of c.args.a in
    let names = case_names c.args.cases.now in
    row_open names c.args.row (plain_type c.args.t.now) c.args.at (k ∷ []) c.open_row.result (one_par k false (sym c.is_par.ensures ∙ c.if-is_par.false)) (c.open_row.ensures names)
