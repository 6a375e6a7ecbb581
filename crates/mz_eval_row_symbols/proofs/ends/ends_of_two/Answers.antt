use Rattle.std.proofs.Common.{◌∙◌, sym}
use Rattle.mz_eval_row_symbols.proofs.EndLaws.{has_told}
use Rattle.mz_eval_row_symbols.proofs.ends.ends_of_two.Goals as goal

pub returns-in-Scalar : goal.returns-in-Scalar
returns-in-Scalar c = has_told c.args.row c.in-Scalar.w c.args.a.now c.args.b.now c.ends_of_row.result c.in-Scalar.is (sym c.are_par.ensures ∙ c.if-are_par.false) c.ends_of_row.ensures
