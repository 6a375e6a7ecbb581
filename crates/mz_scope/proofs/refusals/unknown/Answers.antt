use Rattle.std.proofs.Common.{◌∙◌}
use Rattle.mz_scope.specs.Tests.{known_in}
use Rattle.mz_scope.proofs.Same.{same_unknown}
use Rattle.mz_scope.proofs.refusals.unknown.Goals as goal

pub returns : goal.returns
returns c = c.first_unknown.ensures ∙ same_unknown (known_in c.args.names.now) c.in_ok-bound.bound _ c.in_ok-declared.declared _ c.args.os.now c.in_ok-bound.ensures c.in_ok-declared.ensures
