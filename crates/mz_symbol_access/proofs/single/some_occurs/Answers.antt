use Rattle.mz_symbol_access.proofs.ChooseLaws.{some_occurs}
use Rattle.mz_symbol_access.proofs.single.some_occurs.Goals as goal

pub returns-clause-occurs : goal.returns-clause-occurs
returns-clause-occurs c r h =
    let h2 = c.in-Ok-if_node.ensures.goes.back r h in
    let h1 = c.in-Ok-occurrence.ensures.goes.back r h2 in
    some_occurs r c.args.run.now c.occurrence.new.run c.occurrence-2.new.run c.if_node.new.run c.args.c c.in-Ok.x c.in-Ok-occurrence.y c.in-Ok-if_node.id c.args.p c.args.q (c.in-Ok.ensures.means r h1) (c.in-Ok-occurrence.ensures.means r h2) (c.in-Ok-if_node.ensures.means r h)
