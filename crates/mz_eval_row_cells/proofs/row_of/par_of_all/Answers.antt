use Rattle.std.proofs.Common.{ap, subst, ◌∙◌}
use Rattle.mz_value.specs.Contents.{case_names}
use Rattle.mz_operations.specs.Arguments.{arguments}
use Rattle.mz_meaning.specs.Operations.{par_row}
use Rattle.mz_eval_cells.specs.Views.{cell_of}
use Rattle.mz_eval_cells.specs.Meets.{Tells}
use Rattle.mz_eval_row_cells.proofs.row_of.par_of_all.Goals as goal

pub returns : goal.returns
returns c = subst (λ vs. Tells cell_of c.par_row.result (par_row (case_names c.args.cases.now) c.args.row c.args.base c.args.at vs)) (ap arguments c.as_slice.ensures.value ∙ c.in_ok-args.ensures) c.par_row.ensures
