use Rattle.std.proofs.Common.{sym, ◌∙◌}
use Rattle.mz_core.specs.Types.{plain_type}
use Rattle.mz_core.proofs.PathLaws.{sound, Below_test}
use Rattle.mz_core.proofs.order.below.Goals as goal

pub returns-clause-order : goal.returns-clause-order
returns-clause-order c =
    let t = plain_type c.args.t.now in
    let u = plain_type c.args.u.now in
    (λ h. sound t u (sym c.is_below.ensures ∙ h), λ b. c.is_below.ensures ∙ Below_test b)
