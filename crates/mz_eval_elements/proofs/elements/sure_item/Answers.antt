use Rattle.std.proofs.Common.{MatchOption, subst}
use Rattle.mz_eval_elements.specs.StepsElements.{IsSureItemOf}
use Rattle.mz_eval_elements.proofs.NumberLaws.{sure_told}
use Rattle.mz_eval_elements.proofs.elements.sure_item.Goals as goal

pub returns-in-Row : goal.returns-in-Row
returns-in-Row c = sure_told c.args.run.now c.in-Row.field-0 c.in-Row.xs c.args.a.now c.args.n c.sure_item_of.result c.in-Row.is (subst (λ v. MatchOption c.sure_item_of.result (Unit {0}) (IsSureItemOf c.args.run.now v c.args.n)) c.deref.ensures c.sure_item_of.ensures)
