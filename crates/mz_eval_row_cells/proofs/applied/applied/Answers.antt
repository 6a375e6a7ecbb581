use Rattle.mz_operations.specs.Arguments.{arguments}
use Rattle.mz_operations.specs.Answers.{answer}
use Rattle.mz_eval_row_cells.proofs.Answered.{told_given, told_ends}
use Rattle.mz_eval_row_cells.proofs.applied.applied.Goals as goal

pub returns-in_err-v : goal.returns-in_err-v
returns-in_err-v c names = told_ends c.args.base c.args.at (answer names c.args.row (arguments c.args.args.now)) c.from_residual.result c.in_err-v.field-0.0 c.from_residual.ensures.1 (c.in_err-v.ensures names)

pub returns : goal.returns
returns c names = told_given c.args.base c.args.at (answer names c.args.row (arguments c.args.args.now)) c.in_ok-v.v c.in_ok-k.k (c.in_ok-v.ensures names) c.in_ok-k.ensures
