use Rattle.std.proofs.Common.{◌∙◌, sym}
use Rattle.mz_eval_branches.proofs.NoValues.{seen_unvalued}
use Rattle.mz_eval_branches.proofs.undefined.unvalued.Goals as goal

pub returns-then-has_no_value : goal.returns-then-has_no_value
returns-then-has_no_value c r = seen_unvalued r c.args.k (sym c.has_no_value.ensures ∙ c.if-has_no_value.true)
