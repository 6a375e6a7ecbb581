use Rattle.std.proofs.Common.{List, ap, sym, ◌∙◌, length, eqb, Some}
use Rattle.mz_value.specs.Ranges.{Range}
use Rattle.fz_items.proofs.SetLemmas.{within_is}
use Rattle.fz_items.proofs.element.is_within.Goals as goal

pub returns : goal.returns
returns c =
    ap Some (sym (c.is_empty.ensures ∙ ap (λ (rs : List Range). eqb (length rs) 0) c.ranges-4.ensures.ranges
    ∙ within_is c.args.s.now c.args.domain.now c.in_ok-lacking.lacking (c.ranges-2.ensures.canonical, c.ranges-2.ensures.limits) (c.ranges-3.ensures.canonical, c.ranges-3.ensures.limits) c.in_ok-lacking.ensures.members c.in_ok-lacking.ensures.canonical))
