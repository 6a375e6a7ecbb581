use Rattle.mz_symbol_access.proofs.ChooseLaws.{none_occurs}
use Rattle.mz_symbol_access.proofs.single.occurs_node.Goals as goal

pub returns-then-are_none-clause-occurs : goal.returns-then-are_none-clause-occurs
returns-then-are_none-clause-occurs c r h = none_occurs r c.args.run.now c.args.c c.args.p c.args.q (c.are_none.ensures c.if-are_none.true)
