use Rattle.std.proofs.Common.{ℤ, sym, subst, rules}
use Rattle.std.proofs.lemmas.Int.{to_z-of_z}
use mir.Syntax.{w64}
use mir.Val.{SFits}
use Rattle.mz_value.specs.Ranges.{Has}
use Rattle.fz_items.proofs.SetLemmas.{has_is}
use Rattle.fz_items.proofs.element.has.Goals as goal

pub returns : goal.returns
returns c =
    let fits : SFits w64 c.args.x = search rules in
    let P : ℤ → Type 0 = λ y. Has c.args.domain.now y in
    has_is c.contains.result c.args.domain.now c.args.x (λ e. subst P (to_z-of_z w64 c.args.x fits) (c.contains.ensures.0 e)) (λ h. c.contains.ensures.1 (subst P (sym (to_z-of_z w64 c.args.x fits)) h))
