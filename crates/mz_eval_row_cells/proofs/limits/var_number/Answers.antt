use Rattle.std.proofs.Common.{rules}
use Rattle.mz_eval_row_cells.proofs.Limited.{told_inside, told_outside}
use Rattle.mz_eval_row_cells.proofs.limits.var_number.Goals as goal

pub returns-in_ok-number_cell-in-Some : goal.returns-in_ok-number_cell-in-Some
returns-in_ok-number_cell-in-Some c = told_inside c.args.at c.args.e.now c.in-Some.inside _ (search rules) c.in_ok-number_cell-in-Some.ensures

pub returns-in-None : goal.returns-in-None
returns-in-None c = told_outside c.args.at c.args.e.now c.outside.result (search rules) c.outside.ensures
