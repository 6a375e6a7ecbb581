use Rattle.mz_core.specs.Types.{plain_type}
use Rattle.mz_check_calls.proofs.IntegerRows.{row_between}
use Rattle.mz_check_calls.proofs.integers.row_of_integers.Goals as goal

pub returns : goal.returns
returns c = row_between c.args.op (plain_type c.args.left.now) (plain_type c.args.right.now) c.args.left.now.var c.args.right.now.var c.is_one_var-var.result c.integer_row.result c.requires.left c.requires.right c.is_one_var-var.ensures c.integer_row.ensures
