use Rattle.glob_nodes.proofs.Saying.{ok_so}
use Rattle.glob_graph.proofs.Rounds.{next_by}
use Rattle.glob_graph.proofs.circuits.following.Goals as goal

pub returns-clause-next : goal.returns-clause-next
returns-clause-next c = ok_so c.made.result c.made.ensures.gives (λ id g. next_by c.args.run.now c.alone_node.new.run c.made.new.run c.args.range.now c.args.list c.args.p c.in_ok-place.place id _ c.in_ok-place.ensures.alone c.made.ensures.goes g)
