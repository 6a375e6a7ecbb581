use Rattle.std.proofs.Common.{◌∙◌, ap}
use Rattle.mz_interval.specs.Ends.{if_in_limit}
use Rattle.mz_eval_row_symbols.proofs.EndLaws.{arith_told}
use Rattle.mz_eval_row_symbols.proofs.ends.arith_of.Goals as goal

pub returns-in-Some : goal.returns-in-Some
returns-in-Some c x y h k = arith_told c.args.op x y c.args.e c.args.f c.in-Some.inside c.in_limit.result h k (c.in_limit.ensures ∙ ap if_in_limit c.arith_ends.ensures) c.in-Some.is
