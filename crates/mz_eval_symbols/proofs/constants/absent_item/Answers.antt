use Rattle.std.proofs.Common.{◌∙◌, sym}
use Rattle.mz_eval_symbols.proofs.ConstantLaws.{absent_told}
use Rattle.mz_eval_symbols.proofs.constants.absent_item.Goals as goal

pub returns-clause-constant : goal.returns-clause-constant
returns-clause-constant c r h = absent_told r c.args.run.now c.number_node.new.run c.truth_node.new.self c.args.base _ c.in_ok-term.term c.in_ok-no.no (sym c.is_single.ensures ∙ c.if-not-is_single.false) (c.in_ok-term.ensures.means r (c.in_ok-no.ensures.goes.back r h)) (c.in_ok-no.ensures.means r h)
