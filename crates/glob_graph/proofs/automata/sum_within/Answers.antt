use Rattle.glob_nodes.proofs.Saying.{ok_so}
use Rattle.glob_graph.proofs.Letterwise.{tried_sum}
use Rattle.glob_graph.proofs.automata.sum_within.Goals as goal

pub returns-clause-sum : goal.returns-clause-sum
returns-clause-sum c = ok_so c.tried.result c.tried.ensures.tried (λ o h. tried_sum c.args.run.now c.tried.new.self c.args.a c.args.b c.sum_node-sum.result o c.sum_node-sum.ensures c.tried.ensures.same h)
