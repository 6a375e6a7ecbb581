use Rattle.mz_eval_symbols.proofs.ConstantLaws.{set_told}
use Rattle.mz_eval_symbols.proofs.constants.set_item.Goals as goal

pub returns-clause-constant : goal.returns-clause-constant
returns-clause-constant c r h = set_told r c.args.run.now c.set_term.new.self c.args.s.of c.args.s.ranges c.set_base.result c.in_ok-term.term c.set_base.ensures (c.in_ok-term.ensures.means r h)
