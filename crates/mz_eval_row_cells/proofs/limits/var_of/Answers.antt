use Rattle.std.proofs.Common.{rules}
use Rattle.mz_eval_cells.specs.Views.{known_bounds}
use Rattle.mz_eval_row_cells.proofs.Limited.{told_number, told_others}
use Rattle.mz_eval_row_cells.proofs.limits.var_of.Goals as goal

pub returns-in-Some : goal.returns-in-Some
returns-in-Some c = told_number c.args.at (known_bounds c.args.b) c.in-Some.e _ (search rules) c.var_number.ensures

pub returns-in_ok-var_cell-in-None : goal.returns-in_ok-var_cell-in-None
returns-in_ok-var_cell-in-None c = told_others c.args.at (known_bounds c.args.b) _ (search rules) c.in_ok-var_cell-in-None.ensures.of
