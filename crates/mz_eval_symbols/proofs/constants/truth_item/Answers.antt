use Rattle.mz_eval_symbols.proofs.ConstantLaws.{truth_told}
use Rattle.mz_eval_symbols.proofs.constants.truth_item.Goals as goal

pub returns-clause-constant : goal.returns-clause-constant
returns-clause-constant c r h = truth_told r c.args.run.now c.truth_node.new.self c.args.b c.in_ok-term.term (c.in_ok-term.ensures.means r h)
