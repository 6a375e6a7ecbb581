use Rattle.std.proofs.Common.{◌∙◌}
use Rattle.mz_scope.proofs.Same.{same_missing}
use Rattle.mz_scope.proofs.refusals.missing.Goals as goal

pub returns : goal.returns
returns c = c.first_missing.ensures ∙ same_missing c.in_ok-valued.valued _ c.in_ok-listed.listed _ c.args.os.now c.in_ok-valued.ensures c.in_ok-listed.ensures
