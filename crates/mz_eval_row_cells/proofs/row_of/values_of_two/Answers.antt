use Rattle.std.proofs.Common.{[], ◌∷◌, subst}
use Rattle.std.specs.Option.{option_map}
use Rattle.mz_value.specs.Contents.{case_names, content}
use Rattle.mz_meaning.specs.Cells.{value_of}
use Rattle.mz_meaning.specs.Operations.{par_row}
use Rattle.mz_eval_cells.specs.Views.{cell_of}
use Rattle.mz_eval_cells.specs.Meets.{Tells}
use Rattle.mz_eval_row_cells.proofs.row_of.values_of_two.Goals as goal

pub returns : goal.returns
returns c =
    let names = case_names c.args.cases.now in
    subst (λ v. Tells cell_of c.par_row.result (par_row names c.args.row c.args.base c.args.at (v ∷ value_of (cell_of c.args.b) ∷ []))) c.in_ok-x.ensures
    (subst (λ w. Tells cell_of c.par_row.result (par_row names c.args.row c.args.base c.args.at (option_map content c.in_ok-x.x ∷ w ∷ []))) c.in_ok-y.ensures c.par_row.ensures)
