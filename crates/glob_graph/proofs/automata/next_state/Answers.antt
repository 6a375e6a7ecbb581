use Rattle.glob_nodes.proofs.Saying.{ok_so}
use Rattle.glob_graph.proofs.Letterwise.{next_is}
use Rattle.glob_graph.proofs.automata.next_state.Goals as goal

pub returns-clause-next : goal.returns-clause-next
returns-clause-next c = ok_so c.made.result c.made.ensures.gives (λ id g. next_is c.args.run.now c.row_of.new.run c.place.new.run c.made.new.run c.args.m.now c.args.list c.args.q c.args.x c.in_ok-row.row c.in_ok-place.place id _ _ c.in_ok-row.ensures.is c.in_ok-place.ensures.goes c.in_ok-place.ensures.place c.made.ensures.goes g)
