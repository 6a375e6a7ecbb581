use Rattle.std.proofs.Common.{◌∙◌, sym}
use Rattle.mz_eval_branches.proofs.NoValues.{none_told}
use Rattle.mz_eval_branches.proofs.undefined.no_values.Goals as goal

pub returns-then-has_no_value : goal.returns-then-has_no_value
returns-then-has_no_value c h r = none_told r c.args.branches.now c.args.last.now (sym c.has_no_value.ensures ∙ c.if-has_no_value.true) (sym c.have_no_value.ensures ∙ h)
