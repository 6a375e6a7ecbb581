use Rattle.glob_nodes.proofs.Saying.{ok_so}
use Rattle.glob_graph.proofs.Letterwise.{near_is}
use Rattle.glob_graph.proofs.automata.nearest.Goals as goal

pub returns-clause-near : goal.returns-clause-near
returns-clause-near c = ok_so c.extreme-2.result c.extreme-2.ensures.gives (λ id g. near_is c.args.run.now c.last_letter.new.run c.extreme.new.run c.constant.new.run c.extreme-2.new.run c.args.m.now c.args.x c.in_ok-last.last c.in_ok-low.low c.in_ok-one.one id _ _ _ c.in_ok-last.ensures.is c.in_ok-low.ensures.goes c.in_ok-low.ensures.gives c.in_ok-one.ensures.goes c.in_ok-one.ensures.is c.extreme-2.ensures.goes g)
