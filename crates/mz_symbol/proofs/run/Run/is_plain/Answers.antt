use Rattle.std.proofs.Common.{◌∙◌, sym, ap, subst}
use Rattle.mz_symbol.specs.Symbols.{ArePlain}
use Rattle.mz_symbol.specs.StepsCons.{all_plain, items_in}
use Rattle.mz_symbol.proofs.ConsLaws.{plain_items}
use Rattle.mz_symbol.proofs.run.Run.is_plain.Goals as goal

pub returns-in-Some : goal.returns-in-Some
returns-in-Some c h = subst (λ o. ArePlain (items_in o)) c.in-Some.ensures.line (plain_items c.in-Some.l.now.items.items (ap all_plain (sym c.deref.ensures.value) ∙ sym c.are_plain.ensures ∙ h))
