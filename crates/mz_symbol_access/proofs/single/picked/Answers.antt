use Rattle.mz_symbol_access.proofs.ChooseLaws.{picks_of}
use Rattle.mz_symbol_access.proofs.single.picked.Goals as goal

pub returns-clause-picks : goal.returns-clause-picks
returns-clause-picks c r h = picks_of r c.args.run.now c.occurs_node.new.run c.if_node.new.run c.args.c c.args.p c.args.q c.in_ok-occurs.occurs c.in-Ok.term _ (c.is_base.ensures c.if-not-is_base.false) (c.in_ok-occurs.ensures.occurs r (c.in-Ok.ensures.goes.back r h)) (c.in-Ok.ensures.means r h) c.symbol.ensures
