use Rattle.std.proofs.Common.{◌∙◌, sym}
use Rattle.mz_core.specs.Types.{plain_type}
use Rattle.mz_check_forms.proofs.JoinLaws.{join_above}
use Rattle.mz_check_forms.proofs.joins.is_above.Goals as goal

pub returns : goal.returns
returns c = λ h. join_above (plain_type c.args.t.now) (plain_type c.args.u.now) (sym c.below.ensures.computed ∙ h)
