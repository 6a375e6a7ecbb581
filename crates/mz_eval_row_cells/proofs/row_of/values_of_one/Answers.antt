use Rattle.std.proofs.Common.{[], ◌∷◌, subst}
use Rattle.mz_value.specs.Contents.{case_names}
use Rattle.mz_meaning.specs.Operations.{par_row}
use Rattle.mz_eval_cells.specs.Views.{cell_of}
use Rattle.mz_eval_cells.specs.Meets.{Tells}
use Rattle.mz_eval_row_cells.proofs.row_of.values_of_one.Goals as goal

pub returns : goal.returns
returns c = subst (λ v. Tells cell_of c.par_row.result (par_row (case_names c.args.cases.now) c.args.row c.args.base c.args.at (v ∷ []))) c.in_ok-v.ensures c.par_row.ensures
