use Rattle.mz_value.specs.Contents.{case_names}
use Rattle.mz_operations.specs.Arguments.{arguments}
use Rattle.mz_eval_row_cells.proofs.Shown.{shown_array}
use Rattle.mz_eval_row_cells.proofs.Told.{tells_is}
use Rattle.mz_eval_row_cells.proofs.applied.show_array.Goals as goal

pub returns : goal.returns
returns c = tells_is _ (λ s. shown_array (case_names c.args.cases.now) c.args.base c.args.at (arguments c.args.args.now) s) c.shown_row.ensures
