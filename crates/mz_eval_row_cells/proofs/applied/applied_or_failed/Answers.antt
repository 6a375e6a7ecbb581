use Rattle.std.proofs.Common.{rules}
use Rattle.mz_operations.specs.Arguments.{arguments}
use Rattle.mz_eval_row_cells.proofs.Answered.{failed_told}
use Rattle.mz_eval_row_cells.proofs.applied.applied_or_failed.Goals as goal

pub returns-then-is_failed : goal.returns-then-is_failed
returns-then-is_failed c names = failed_told names c.args.row c.args.base c.args.at (arguments c.args.args.now) _ (search rules) (search rules)
