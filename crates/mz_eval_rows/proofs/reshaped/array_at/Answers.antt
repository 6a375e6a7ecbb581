use Rattle.std.proofs.Common.{◌∙◌}
use Rattle.mz_eval_rows.proofs.ReshapedLaws.{array_there}
use Rattle.mz_eval_rows.proofs.reshaped.array_at.Goals as goal

pub returns : goal.returns
returns c r = array_there r c.args.cells.now c.args.d c.in-Some.k.now c.in-Some.ensures ∙ c.in_ok-p.ensures r
