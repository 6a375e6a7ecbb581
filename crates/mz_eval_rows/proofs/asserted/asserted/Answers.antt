use Rattle.std.proofs.Common.{◌∙◌}
use Rattle.mz_eval_rows.proofs.asserted.asserted.Goals as goal

pub returns-then-are_there : goal.returns-then-are_there
returns-then-are_there c r = c.are_there.ensures c.if-are_there.true r ∙ c.in_ok-k.ensures r
