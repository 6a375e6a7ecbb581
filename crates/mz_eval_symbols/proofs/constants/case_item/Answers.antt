use Rattle.std.proofs.Common.{w64}
use Rattle.std.proofs.lemmas.Int.{to_z-of_z}
use Rattle.mz_eval_symbols.proofs.ConstantLaws.{case_told}
use Rattle.mz_eval_symbols.proofs.constants.case_item.Goals as goal

pub returns-clause-constant : goal.returns-clause-constant
returns-clause-constant c r h = case_told r c.args.run.now c.number_node.new.run c.args.e c.args.n _ c.in_ok-term.term (to_z-of_z w64 c.args.n c.ranges.n) (c.in_ok-term.ensures.means r h)
