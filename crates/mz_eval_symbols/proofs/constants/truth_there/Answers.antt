use Rattle.mz_eval_symbols.proofs.ConstantLaws.{there_told}
use Rattle.mz_eval_symbols.proofs.constants.truth_there.Goals as goal

pub returns-clause-constant : goal.returns-clause-constant
returns-clause-constant c r h = there_told r c.args.run.now c.bit_node.new.run c.truth_node.new.self c.args.b c.in_ok-term.term c.in_ok-yes.yes (c.in_ok-term.ensures.means r (c.in_ok-yes.ensures.goes.back r h)) (c.in_ok-yes.ensures.means r h)
