use Rattle.std.proofs.Common.{◌≡◌, true, sym, ◌∙◌, subst}
use Rattle.mz_core.specs.Types.{plain_type}
use Rattle.mz_core.specs.Order.{same_type}
use Rattle.mz_core.proofs.Tests.{same_type_is, same_type_refl}
use Rattle.mz_core.proofs.order.same_type.Goals as goal

pub returns-clause-same : goal.returns-clause-same
returns-clause-same c =
    let t = plain_type c.args.t.now in
    let u = plain_type c.args.u.now in
    (λ h. same_type_is t u (sym c.are_same.ensures ∙ h), λ e. c.are_same.ensures ∙ subst (λ x. same_type t x ≡ true) e (same_type_refl t))
