use Rattle.std.proofs.Common.{IfOk, subst}
use Rattle.mz_symbol.specs.Symbols.{HaveBase}
use Rattle.mz_symbol.specs.StepsCons.{items_in}
use Rattle.mz_symbol.proofs.run.Run.item_base.Goals as goal

pub returns-in-Some : goal.returns-in-Some
returns-in-Some c = subst (λ o. IfOk c.base_of.result (λ b. HaveBase b (items_in o))) c.in-Some.ensures.line (subst (λ ss. IfOk c.base_of.result (λ b. HaveBase b ss)) c.deref.ensures.value c.base_of.ensures)
